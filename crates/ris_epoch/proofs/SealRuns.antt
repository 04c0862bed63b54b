-- The seal of a turn: the logs are merged, and the applied candidates become entries.
use Rattle.std.proofs.Common.{◌≡◌, ℕ, ◌+◌, if◌then◌else◌, Bool, true, false, not, List, [], ◌∷◌, ◌++◌, length, map, refl, sym, subst, ap, ◌∙◌, append_assoc}
use Rattle.std.specs.List.{Contains, filter}
use Rattle.std.proofs.lemmas.List.{append-nil}
use Rattle.ris_base.specs.Epoch.{Ground, Resolved, places_of}
use Rattle.ris_base.specs.Forest.{Forest}
use Rattle.ris_base.specs.Graph.{EachOnce}
use Rattle.ris_base.specs.Lines.{front}
use Rattle.ris_base.specs.Machine.{Book, Decided, Happens, InLog, InTail, Serially, State, Step, forests_now, is_applied, placed, sealed, session_by, told}
use Rattle.ris_base.specs.Records.{lines_of}
use Rattle.ris_base.specs.declared.lines.Entry.{Entry}
use Rattle.ris_base.specs.declared.lines.Line.{Line}
use Rattle.ris_base.specs.declared.lines.Line.TheVariants as line
use Rattle.ris_base.specs.declared.records.Record.{Record}
use Rattle.ris_base.specs.declared.replies.LogLine.TheVariants.{Reply}
use Rattle.ris_base.specs.declared.replies.Outcome.TheVariants as outcome
use Rattle.ris_base.specs.declared.replies.Refusal.TheVariants as refusal
use Rattle.ris_base.specs.declared.requests.Request.{Request}
use Rattle.ris_base.specs.declared.requests.Request.TheVariants as request
use Rattle.ris_base.proofs.LineLemmas.{front-entry}
use Rattle.ris_base.proofs.ListLemmas.{Contains-filter, Contains-filtered, Contains-none}
use Rattle.ris_epoch.specs.Account.{IsMerge, bounced, entry_record, forests_behind, front_of, is_bounced, outcomes_of, records_of, resolved}
use Rattle.ris_epoch.proofs.CellRuns.{CellStage, logged_in, requests_of}
use Rattle.ris_epoch.proofs.Deciding.{in-merged, merged-in, merged-once}
use Rattle.ris_epoch.proofs.Seatings.{Seating, told-logged}
use Rattle.ris_algo.proofs.RecordLemmas.{changed_forests-none, lines_of-append, places-entry}
use Rattle.ris_epoch.proofs.Stages.{IsTabled, Stage, tabled-forests, tabled-front}
use Rattle.ris_epoch.proofs.Stands.{Contains-map, Contains-mapped, Standing, standing-same}

-- Books

-- records with an entry more
pub front-more : (records : List Record) (e : Entry) (r : Record) → r.line ≡ line.Entry e → front_of (records ++ r ∷ []) ≡ front_of records + 1
front-more records e r is =
    ap front (lines_of-append records (r ∷ [])) ∙ ap (λ (l : Line). front (lines_of records ++ l ∷ [])) is ∙ front-entry (lines_of records) e

-- one line more of a book, which makes a place where it is an entry
pub tabled-lines : (records : List Record) (b : Book) (r : Record) → b.lines ≡ lines_of records → b.lines ++ r.line ∷ [] ≡ lines_of (records ++ r ∷ [])
tabled-lines records b r is = ap (λ (ls : List Line). ls ++ r.line ∷ []) is ∙ sym (lines_of-append records (r ∷ []))

-- a book on records, whose logged requests are told, and become entries where they are applied
pub record IsSealed (ground : Ground) (batch : List Request) (tail : List Request) (records : List Record) (outcomes : List Resolved) (b : Book) : Type 0 where
  pub book : IsTabled ground records b
  pub seating : Seating batch b.seats [] [] [] tail outcomes

module _ (ground : Ground) (batch : List Request) (tail : List Request) where
  -- one decision
  sealed-applied : (records : List Record) (outcomes : List Resolved) (b : Book) (d : Decided) (order : List Decided) → IsTabled ground records b
      → Seating batch b.seats [] [] (request.Submit d.entry ∷ requests_of order) tail outcomes
      → IsTabled ground (records ++ entry_record d.entry [] ∷ []) (placed b d.entry (forests_now b))
      × Seating batch (placed b d.entry (forests_now b)).seats [] [] (requests_of order) tail
      (outcomes ++ resolved (request.Submit d.entry) (outcome.Placed (front_of records + 1)) ∷ [])
  sealed-applied records outcomes b d order h seating = (
    record {
      lines = tabled-lines records b (entry_record d.entry []) h.lines;
      places = ap (λ (ps : List (List Forest)). ps ++ forests_now b ∷ []) h.places
          ∙ ap (λ (fs : List Forest). places_of ground.start records ++ fs ∷ []) (tabled-forests ground records b h ∙ sym (changed_forests-none (forests_behind ground records)))
          ∙ sym (places-entry ground.start records d.entry []);
    },
    subst (λ (n : ℕ). Seating batch (placed b d.entry (forests_now b)).seats [] [] (requests_of order) tail (outcomes ++ resolved (request.Submit d.entry) (outcome.Placed (n + 1)) ∷ []))
        (tabled-front ground records b h)
        (told-logged batch b.seats (request.Submit d.entry) (outcome.Placed (front b.lines + 1)) (length (b.lines ++ line.Entry d.entry ∷ [])) [] [] (requests_of order) tail outcomes seating),
  )

  -- one refused decision
  sealed-refused : (records : List Record) (outcomes : List Resolved) (b : Book) (d : Decided) (order : List Decided) → IsTabled ground records b
      → Seating batch b.seats [] [] (request.Submit d.entry ∷ requests_of order) tail outcomes
      → IsTabled ground records (told b d.entry.session (Reply (outcome.Refused (refusal.NoEdge (front b.lines) 1))))
      × Seating batch (told b d.entry.session (Reply (outcome.Refused (refusal.NoEdge (front b.lines) 1)))).seats [] [] (requests_of order) tail
      (outcomes ++ resolved (request.Submit d.entry) (outcome.Refused (refusal.NoEdge (front_of records) 1)) ∷ [])
  sealed-refused records outcomes b d order h seating = (
    record { lines = h.lines; places = h.places },
    subst (λ (n : ℕ). Seating batch (told b d.entry.session (Reply (outcome.Refused (refusal.NoEdge (front b.lines) 1)))).seats [] [] (requests_of order) tail
        (outcomes ++ resolved (request.Submit d.entry) (outcome.Refused (refusal.NoEdge n 1)) ∷ []))
        (tabled-front ground records b h)
        (told-logged batch b.seats (request.Submit d.entry) (outcome.Refused (refusal.NoEdge (front b.lines) 1)) (length b.lines) [] [] (requests_of order) tail outcomes seating),
  )

  -- all decisions of an order
  pub sealed-book : (order : List Decided) (records : List Record) (outcomes : List Resolved) (b : Book) → IsTabled ground records b
      → Seating batch b.seats [] [] (requests_of order) tail outcomes
      → IsSealed ground batch tail (records ++ records_of order) (outcomes ++ outcomes_of (front_of records) order) (sealed b order)
  unfolding sealed records_of outcomes_of
  sealed-book [] records outcomes b h seating =
      subst (λ (rs : List Record). IsSealed ground batch tail rs (outcomes ++ []) b) (sym (append-nil records))
      (subst (λ (os : List Resolved). IsSealed ground batch tail records os b) (sym (append-nil outcomes)) (record { book = h; seating = seating }))
  sealed-book (d ∷ order) records outcomes b h seating = go (is_applied d) (λ rs os x t l. sealed-book order rs os x t l)
    where
      go : (c : Bool) → ((records : List Record) (outcomes : List Resolved) (b : Book) → IsTabled ground records b → Seating batch b.seats [] [] (requests_of order) tail outcomes
          → IsSealed ground batch tail (records ++ records_of order) (outcomes ++ outcomes_of (front_of records) order) (sealed b order))
          → IsSealed ground batch tail (records ++ (if c then entry_record d.entry [] ∷ records_of order else records_of order))
          (outcomes ++ (resolved (request.Submit d.entry) (if c then outcome.Placed (front_of records + 1) else outcome.Refused (refusal.NoEdge (front_of records) 1))
          ∷ outcomes_of (if c then front_of records + 1 else front_of records) order))
          (sealed (if c then placed b d.entry (forests_now b) else told b d.entry.session (Reply (outcome.Refused (refusal.NoEdge (front b.lines) 1)))) order)
      go true rest =
          let one = sealed-applied records outcomes b d order h seating in
          let o : Resolved = resolved (request.Submit d.entry) (outcome.Placed (front_of records + 1)) in
          let longer : List Record = records ++ entry_record d.entry [] ∷ [] in
          let x : Book = sealed (placed b d.entry (forests_now b)) order in
          subst (λ (rs : List Record). IsSealed ground batch tail rs (outcomes ++ (o ∷ outcomes_of (front_of records + 1) order)) x) (append_assoc records (entry_record d.entry [] ∷ []) (records_of order))
          (subst (λ (os : List Resolved). IsSealed ground batch tail (longer ++ records_of order) os x) (append_assoc outcomes (o ∷ []) (outcomes_of (front_of records + 1) order))
          (subst (λ (m : ℕ). IsSealed ground batch tail (longer ++ records_of order) ((outcomes ++ o ∷ []) ++ outcomes_of m order) x) (front-more records d.entry (entry_record d.entry []) refl)
          (rest longer (outcomes ++ o ∷ []) (placed b d.entry (forests_now b)) one.0 one.1)))
      go false rest =
          let one = sealed-refused records outcomes b d order h seating in
          let o : Resolved = resolved (request.Submit d.entry) (outcome.Refused (refusal.NoEdge (front_of records) 1)) in
          let y : Book = told b d.entry.session (Reply (outcome.Refused (refusal.NoEdge (front b.lines) 1))) in
          subst (λ (os : List Resolved). IsSealed ground batch tail (records ++ records_of order) os (sealed y order)) (append_assoc outcomes (o ∷ []) (outcomes_of (front_of records) order))
          (rest records (outcomes ++ o ∷ []) y one.0 one.1)

-- The step

-- two maps are one
pub map-twice : {X Y Z : Type 0} (f : X → Y) (g : Y → Z) (xs : List X) → map g (map f xs) ≡ map (λ x. g (f x)) xs
map-twice f g [] = refl
map-twice f g (x ∷ xs) = ap (λ zs. g (f x) ∷ zs) (map-twice f g xs)

-- the sessions of the requests that were decided
sessions-of : (ds : List Decided) → map session_by (requests_of ds) ≡ map (λ (d : Decided). d.entry.session) ds
sessions-of ds = map-twice (λ (d : Decided). request.Submit d.entry) session_by ds

-- the state that a seal leaves
abbrev pub sealed_state : State → List Decided → State
sealed_state s merged = record s { book = sealed s.book merged; phase = Serially; logs = λ k. [] }

module _ (ground : Ground) (batch : List Request) (records : List Record) (others tail : List Request) (outcomes : List Resolved) (s : State)
    (decisions merged : List Decided) (h : CellStage ground batch records others outcomes s decisions []) (merge : IsMerge decisions merged)
    (single : EachOnce (map (λ (d : Decided). d.entry.session) decisions)) (once : EachOnce (map session_by tail))
    (to : (r : Request) → Contains (others ++ bounced decisions) r → Contains tail r) (from : (r : Request) → Contains tail r → Contains (others ++ bounced decisions) r) where
  -- the logged requests are those of the merge
  in-log : Standing batch s.book.seats InLog (requests_of merged)
  in-log =
      standing-same batch s.book.seats InLog (logged_in decisions) (requests_of merged) h.stage.seating.in_log
      (subst EachOnce (sym (sessions-of merged)) (merged-once decisions merged merge single))
      (λ r at. (let d = Contains-map (λ (d : Decided). request.Submit d.entry) (filter (λ d. not (is_bounced d)) decisions) r at in
      let its = Contains-filter (λ (d : Decided). not (is_bounced d)) decisions d.0 d.1 in
      subst (λ (x : Request). Contains (requests_of merged) x) d.2
      (Contains-mapped (λ (d : Decided). request.Submit d.entry) merged d.0 (in-merged decisions merged merge d.0 its.0 (stayed (is_bounced d.0) its.1)))))
      (λ r at. (let d = Contains-map (λ (d : Decided). request.Submit d.entry) merged r at in
      let its = merged-in decisions merged merge d.0 d.1 in
      subst (λ (x : Request). Contains (logged_in decisions) x) d.2
      (Contains-mapped (λ (d : Decided). request.Submit d.entry) (filter (λ d. not (is_bounced d)) decisions) d.0
      (Contains-filtered (λ (d : Decided). not (is_bounced d)) decisions d.0 its.0 (ap not its.1)))))
    where
      stayed : (b : Bool) → not b ≡ true → b ≡ false
      stayed true e = sym e
      stayed false e = refl

  -- the stage that a seal leaves
  pub sealed-stage : Stage ground batch (records ++ records_of merged) Serially (sealed_state s merged) [] [] [] tail (outcomes ++ outcomes_of (front_of records) merged)
  sealed-stage =
      let seating = h.stage.seating in
      let its = sealed-book ground batch tail merged records outcomes s.book h.stage.book (record {
        once = seating.once;
        in_batch = seating.in_batch;
        in_cells = seating.in_cells;
        in_log = in-log;
        in_tail = standing-same batch s.book.seats InTail (others ++ bounced decisions) tail seating.in_tail once to from;
        ledger = seating.ledger;
      }) in
      record { at = refl; setup = h.stage.setup; book = its.book; seating = its.seating }

  -- the step of the seal
  pub seals : Happens s (Step.Seal (map (λ (d : Decided). d.entry.session) merged)) (sealed_state s merged)
  seals = record {
    merged = merged;
    phase = h.stage.at;
    all = λ n is. Contains-none n (h.stage.seating.in_cells.all n is);
    sessions = refl;
    logs = λ k. merge k ∙ sym (h.logs k);
    after = refl;
  }
