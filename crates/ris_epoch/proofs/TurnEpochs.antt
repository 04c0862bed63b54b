-- The account of a turn is an epoch.
use Rattle.std.proofs.Common.{◌≡◌, ℕ, inl, inr, true, List, [], ◌∷◌, ◌++◌, map, Option, refl, sym, subst, ap, ◌∙◌, append_assoc}
use Rattle.std.specs.List.{All, Contains}
use Rattle.std.proofs.lemmas.List.{append-nil}
use Rattle.std.proofs.lemmas.List.Elements.{All-cons, All-nil, Contains-append_cases, Contains-append_left, Contains-append_right}
use Rattle.ris_base.specs.Epoch.{Ground, IsEpoch, Resolved, batch_seat, is_cell, seat_with, turn_of}
use Rattle.ris_base.specs.Graph.{EachOnce}
use Rattle.ris_base.specs.Machine.{Collect, Decided, InBatch, InLog, InTail, Queued, Run, Seat, Serially, Stand, State, Step, Undecided, asked_by, is_candidate_now, next_of, session_by}
use Rattle.ris_base.specs.Records.{lines_of}
use Rattle.ris_base.specs.declared.lines.Entry.{Entry}
use Rattle.ris_base.specs.declared.records.Record.{Record}
use Rattle.ris_base.specs.declared.requests.Request.{Request}
use Rattle.ris_base.specs.declared.requests.Request.TheVariants as request
use Rattle.ris_base.proofs.ListLemmas.{All-from_Contains, Contains-none}
use Rattle.ris_epoch.specs.Account.{IsBatch, IsTurnAccount, bounced, decisions_on, entry_record, forests_behind, front_of, graph_behind, is_candidate_behind, outcomes_of, records_of}
use Rattle.ris_epoch.specs.TurnOrder.{session_in}
use Rattle.ris_epoch.proofs.Beginning.{begun-stage, begun_state, first-stage, leads-wants, no_memory}
use Rattle.ris_epoch.proofs.CellRuns.{cell_on, leads-cells}
use Rattle.ris_epoch.proofs.Deciding.{decided-sessions}
use Rattle.ris_epoch.proofs.Seatings.{Seating, find-here}
use Rattle.ris_epoch.proofs.SealRuns.{map-twice, sealed-stage, sealed_state, seals}
use Rattle.ris_epoch.proofs.Splits.{ArePartsOf, parts-of, submits}
use Rattle.ris_epoch.proofs.Stages.{Leads, Stage, candidate-is, leads-none, leads-step}
use Rattle.ris_epoch.proofs.Stands.{Contains-map, Contains-mapped, once-left, once-right}
use Rattle.ris_epoch.proofs.TailRuns.{IsAnswered, IsTrace, tail-run}

-- Parts of the run

-- the cells of candidates are cells
cells-are : (candidates : List Entry) → All (λ step. is_cell step ≡ true) (map cell_on candidates)
cells-are [] = All-nil (λ step. is_cell step ≡ true)
cells-are (e ∷ candidates) = All-cons (λ step. is_cell step ≡ true) (cell_on e) (map cell_on candidates) refl (cells-are candidates)

-- a tail makes records longer
pub trace-longer : (ground : Ground) (batch : List Request) (tail : List Request) (records more : List Record) (steps : List Step) (visits : ℕ)
    → IsTrace ground batch records tail more steps visits → (new : List Record) × (more ≡ records ++ new)
unfolding IsTrace
trace-longer ground batch [] records more steps visits h = ([], h.0 ∙ sym (append-nil records))
trace-longer ground batch (r ∷ tail) records more steps visits h = go h.5 (trace-longer ground batch tail h.0 more h.2 h.4 h.7)
  where
    behind : (extra : List Record) → h.0 ≡ records ++ extra → (new : List Record) × (more ≡ h.0 ++ new) → (new : List Record) × (more ≡ records ++ new)
    behind extra is rest = (extra ++ rest.0, rest.1 ∙ ap (λ (x : List Record). x ++ rest.0) is ∙ append_assoc records extra rest.0)

    go : IsAnswered batch records r h.0 h.1 h.3 → (new : List Record) × (more ≡ h.0 ++ new) → (new : List Record) × (more ≡ records ++ new)
    go (inl a) rest = behind (entry_record a.0.entry a.0.changes ∷ []) a.0.longer rest
    go (inr (inl a)) rest = behind a.0.extra a.0.longer rest
    go (inr (inr a)) rest = behind [] (a.0 ∙ sym (append-nil records)) rest

-- a seating in which nobody stands anywhere has everyone in the queue
all-queued : (batch : List Request) (seats : ℕ → Seat) (outcomes : List Resolved) → Seating batch seats [] [] [] [] outcomes → (n : ℕ) → (seats n).stand ≡ Queued
all-queued batch seats outcomes h n = go (seats n).stand refl
  where
    go : (x : Stand) → (seats n).stand ≡ x → (seats n).stand ≡ Queued
    go Queued is = is
    go InBatch is = absurd (Contains-none n (h.in_batch.all n is))
    go Undecided is = absurd (Contains-none n (h.in_cells.all n is))
    go InLog is = absurd (Contains-none n (h.in_log.all n is))
    go InTail is = absurd (Contains-none n (h.in_tail.all n is))

-- The epoch

-- the epoch of an account: its seal leaves the account's records, its steps of the tail answer the account's requests, and its cells,
-- its merge and its tail are those of the account
pub record EpochOf (ground : Ground) (records : List Record) (batch : List Request) (more : List Record) (outcomes : List Resolved) (visits : ℕ)
    (a : IsTurnAccount ground records batch more outcomes visits) : Type 0 where
  pub epoch : IsEpoch ground records batch more outcomes
  pub sealed : epoch.sealed.book.lines ≡ lines_of (records ++ records_of a.merged)
  pub trace : IsTrace ground batch (records ++ records_of a.merged) a.tail more epoch.tail visits
  pub cells_are : epoch.cells ≡ map cell_on a.candidates
  pub order_is : epoch.order ≡ map (λ d. d.entry.session) a.merged
  pub tail_is : map session_in epoch.tail ≡ map session_by a.tail

module _ (ground : Ground) (records : List Record) (batch : List Request) (more : List Record) (outcomes : List Resolved) (visits : ℕ)
    (due : IsBatch ground batch) (a : IsTurnAccount ground records batch more outcomes visits) where
  -- the parts of the batch
  parts : ArePartsOf (is_candidate_behind ground records) batch a.wanting a.candidates a.others
  parts = parts-of (is_candidate_behind ground records) batch a.wanting a.candidates a.others a.split

  -- the decisions of the cells
  abbrev decisions : List Decided
  decisions = decisions_on ground records a.candidates

  -- what was told before the tail
  abbrev told_first : List Resolved
  told_first = map no_memory a.wanting ++ outcomes_of (front_of records) a.merged

  -- no session has two decisions
  single : EachOnce (map (λ (d : Decided). d.entry.session) decisions)
  single =
      subst EachOnce (sym (decided-sessions (graph_behind ground records) (forests_behind ground records) [] a.candidates))
      (subst EachOnce (map-twice (λ (e : Entry). request.Submit e) session_by a.candidates)
      (once-left session_by (submits a.candidates) a.others
      (once-right session_by (submits a.wanting) (submits a.candidates ++ a.others) (parts.once due.once))))

  -- the order of the merge
  abbrev order : List ℕ
  order = map (λ (d : Decided). d.entry.session) a.merged

  -- up to the seal
  first-run : Leads (turn_of ground records batch)
      (map Step.Want (map (λ (e : Entry). e.session) a.wanting) ++ (Step.Begin [] ∷ (map cell_on a.candidates ++ (Step.Seal order ∷ []))))
      (λ t. Stage ground batch (records ++ records_of a.merged) Serially t [] [] [] a.tail told_first)
  first-run =
      let Q : State → Type 0 = λ t. Stage ground batch (records ++ records_of a.merged) Serially t [] [] [] a.tail told_first in
      leads-wants ground batch records a.wanting (submits a.candidates ++ a.others) (turn_of ground records batch) []
      (Step.Begin [] ∷ (map cell_on a.candidates ++ (Step.Seal order ∷ []))) Q
      (first-stage ground batch records a.wanting a.candidates a.others due.once parts)
      (λ s stage. leads-step s (begun_state ground batch records s) (Step.Begin []) (map cell_on a.candidates ++ (Step.Seal order ∷ [])) Q
      (record { phase = stage.at; after = refl })
      (leads-cells ground batch records a.others (map no_memory a.wanting) a.candidates (begun_state ground batch records s) [] (Step.Seal order ∷ []) Q
      (record {
        stage = subst (λ (rs : List Request). Stage ground batch records Rattle.ris_base.specs.Machine.Cells (begun_state ground batch records s) [] (submits a.candidates) [] rs (map no_memory a.wanting))
            (sym (append-nil a.others))
            (begun-stage ground batch records a.candidates a.others s (map no_memory a.wanting) stage parts.candidates parts.others);
        logs = λ k. refl;
      })
      (λ t cells. leads-step t (sealed_state t a.merged) (Step.Seal order) [] Q
      (seals ground batch records a.others a.tail (map no_memory a.wanting) t decisions a.merged cells a.merge single a.once to from)
      (leads-none (sealed_state t a.merged) Q
      (sealed-stage ground batch records a.others a.tail (map no_memory a.wanting) t decisions a.merged cells a.merge single a.once to from)))))
    where
      to : (r : Request) → Contains (a.others ++ bounced decisions) r → Contains a.tail r
      to r at = (a.each r).1 (Contains-append_cases a.others (bounced decisions) r at)

      from : (r : Request) → Contains a.tail r → Contains (a.others ++ bounced decisions) r
      from r at = elim ((a.each r).0 at) [
        | inl other ↦ Contains-append_left a.others (bounced decisions) r other
        | inr back ↦ Contains-append_right a.others (bounced decisions) r back
      ]

  -- who wants memory before the turn begins is a candidate
  wants-are : All (λ s. is_candidate_now (turn_of ground records batch) (next_of (batch_seat batch s)) ≡ true) (map (λ (e : Entry). e.session) a.wanting)
  wants-are = All-from_Contains (λ s. is_candidate_now (turn_of ground records batch) (next_of (batch_seat batch s)) ≡ true) (map (λ (e : Entry). e.session) a.wanting)
      (λ s at.
      let e = Contains-map (λ (e : Entry). e.session) a.wanting s at in
      let r : Request = request.Submit e.0 in
      let known = parts.from r (Contains-append_left (submits a.wanting) (submits a.candidates ++ a.others) r (Contains-mapped (λ (x : Entry). request.Submit x) a.wanting e.0 e.1)) in
      subst (λ (n : ℕ). is_candidate_now (turn_of ground records batch) (next_of (batch_seat batch n)) ≡ true) e.2
      (ap (λ (o : Option Request). is_candidate_now (turn_of ground records batch) (next_of (seat_with o))) (find-here batch r due.once known)
      ∙ candidate-is ground records (turn_of ground records batch) refl (record { lines = refl; places = refl }) r ∙ parts.wanting e.0 e.1))

  -- the epoch of an account
  pub turn-epoch : EpochOf ground records batch more outcomes visits a
  turn-epoch =
      let rest = tail-run ground batch a.tail (records ++ records_of a.merged) first-run.final told_first more a.handled visits first-run.holds a.handles in
      let longer = trace-longer ground batch a.tail (records ++ records_of a.merged) more rest.steps visits rest.trace in
      let ledger = rest.stage.seating.ledger in
      let told : told_first ++ a.handled ≡ outcomes = sym a.told in
      record {
        epoch = record {
          wanting = map (λ (e : Entry). e.session) a.wanting;
          cells = map cell_on a.candidates;
          order = order;
          tail = rest.steps;
          sealed = first-run.final;
          final = rest.final;
          are_candidates = wants-are;
          are_cells = cells-are a.candidates;
          are_of_tail = rest.of_tail;
          to_sealed = subst (λ (steps : List Step). Run (turn_of ground records batch) steps first-run.final)
              (sym (append_assoc (map Step.Want (map (λ (e : Entry). e.session) a.wanting)) (Step.Begin [] ∷ map cell_on a.candidates) (Step.Seal order ∷ [])))
              first-run.run;
          to_final = rest.run;
          done = λ s is. Contains-none s (rest.stage.seating.in_tail.all s is);
          new = records_of a.merged ++ longer.0;
          behind = longer.1 ∙ append_assoc records (records_of a.merged) longer.0;
          lines = rest.stage.book.lines;
          places = rest.stage.book.places;
          once = subst (λ (os : List Resolved). EachOnce (map (λ (o : Resolved). o.session) os)) told ledger.once;
          all = λ r at. elim (ledger.all r at) [
            | inl done ↦ (done.outcome, subst (λ (os : List Resolved). Contains os done.outcome) told done.here, done.of)
            | inr away ↦ absurd (away (all-queued batch rest.final.book.seats (told_first ++ a.handled) rest.stage.seating (session_by r)))
          ];
          each = λ o at. (let t = ledger.each o (subst (λ (os : List Resolved). Contains os o) (sym told) at) in
              ((t.request, t.known, t.of), record { knew = t.knew; replies = t.replies }));
        };
        sealed = first-run.holds.book.lines;
        trace = rest.trace;
        cells_are = refl;
        order_is = refl;
        tail_is = rest.sessions;
      }
