-- The cells of a turn decide its candidates, one after another.
use Rattle.std.proofs.Common.{◌≡◌, ℕ, ◌==◌, ◌&&◌, if◌then◌else◌, Bool, true, false, not, List, [], ◌∷◌, ◌++◌, map, refl, sym, subst, ap, ◌∙◌, append_assoc}
use Rattle.std.specs.List.{filter}
use Rattle.std.proofs.lemmas.Bool.{eqb-true, eqb-false, eq-eqb, ne_eqb}
use Rattle.std.proofs.lemmas.List.{append-nil, map-append}
use Rattle.std.proofs.lemmas.List.Elements.{filter-append}
use Rattle.ris_base.specs.Epoch.{Ground, Resolved}
use Rattle.ris_base.specs.Forest.{Forest}
use Rattle.ris_base.specs.Machine.{Cells, Decided, Happens, InLog, InTail, Seat, State, Step, asked_by, decided, entry_of, forests_now, graph_of, stripe_of, verdict_of, with_seat}
use Rattle.ris_base.specs.declared.events.Verdict.{Verdict}
use Rattle.ris_base.specs.declared.events.Verdict.TheVariants as verdict
use Rattle.ris_base.specs.declared.graphs.PlainGraph.{PlainGraph}
use Rattle.ris_base.specs.declared.lines.Entry.{Entry}
use Rattle.ris_base.specs.declared.records.Record.{Record}
use Rattle.ris_base.specs.declared.requests.Request.{Request}
use Rattle.ris_base.specs.declared.requests.Request.TheVariants as request
use Rattle.ris_base.proofs.ListLemmas.{Contains-first}
use Rattle.ris_phase.specs.Cells.{is_bounced as bounces}
use Rattle.ris_epoch.specs.Account.{bounced, decided_behind, decision, forests_behind, graph_behind, is_bounced, is_logged, log_of}
use Rattle.ris_epoch.proofs.Deciding.{log-more}
use Rattle.ris_epoch.proofs.Seatings.{Seating, goes-logged, goes-tail}
use Rattle.ris_epoch.proofs.Splits.{submits}
use Rattle.ris_epoch.proofs.Stages.{Leads, Stage, graph-is, leads-step, tabled-forests}

-- the requests that were decided
abbrev pub requests_of : List Decided → List Request
requests_of decisions = map (λ d. request.Submit d.entry) decisions

-- those that went to a log
abbrev pub logged_in : List Decided → List Request
logged_in decisions = requests_of (filter (λ d. not (is_bounced d)) decisions)

-- the cell of a candidate
abbrev pub cell_on : Entry → Step
cell_on e = Step.Cell (stripe_of e.parts) e.session

-- a state in the cells, where these decisions were made and these candidates are left
pub record CellStage (ground : Ground) (batch : List Request) (records : List Record) (others : List Request) (outcomes : List Resolved) (s : State)
    (before : List Decided) (left : List Entry) : Type 0 where
  pub stage : Stage ground batch records Cells s [] (submits left) (logged_in before) (others ++ bounced before) outcomes
  pub logs : (k : ℕ) → s.logs k ≡ log_of k before

-- one more decision among those that a test takes
more-of : (test : Decided → Bool) (before : List Decided) (d : Decided) (b : Bool) → test d ≡ b
    → requests_of (filter test (before ++ d ∷ [])) ≡ (if b then requests_of (filter test before) ++ request.Submit d.entry ∷ [] else requests_of (filter test before))
more-of test before d b is =
    ap requests_of (filter-append test before (d ∷ []) ∙ ap (λ (c : Bool). filter test before ++ (if c then d ∷ [] else [])) is)
    ∙ map-append (λ (x : Decided). request.Submit x.entry) (filter test before) (if b then d ∷ [] else []) ∙ go b
  where
    go : (b : Bool) → requests_of (filter test before) ++ requests_of (if b then d ∷ [] else [])
        ≡ (if b then requests_of (filter test before) ++ request.Submit d.entry ∷ [] else requests_of (filter test before))
    go true = refl
    go false = append-nil (requests_of (filter test before))

module _ (ground : Ground) (batch : List Request) (records : List Record) (others : List Request) (outcomes : List Resolved) where
  -- the graph of now
  abbrev g : PlainGraph
  g = graph_behind ground records

  -- the forests of now
  abbrev forests : List Forest
  forests = forests_behind ground records

  -- one cell
  module _ (s : State) (before : List Decided) (e : Entry) (left : List Entry) (h : CellStage ground batch records others outcomes s before (e ∷ left)) where
    -- the request of the candidate
    abbrev r : Request
    r = request.Submit e

    -- its stripe
    abbrev k : ℕ
    k = stripe_of e.parts

    -- a decision on it
    abbrev with_verdict : Verdict → Decided
    with_verdict v = record { entry = e; verdict = v }

    -- the verdict is that of the account
    verdict-is : verdict_of (graph_of s.setup s.book) (forests_now s.book) (s.logs k) e.parts ≡ verdict_of g forests (log_of k before) e.parts
    verdict-is =
        ap (λ (x : PlainGraph). verdict_of x (forests_now s.book) (s.logs k) e.parts) (graph-is ground records s h.stage.setup h.stage.book)
        ∙ ap (λ (fs : List Forest). verdict_of g fs (s.logs k) e.parts) (tabled-forests ground records s.book h.stage.book)
        ∙ ap (λ (log : List Decided). verdict_of g forests log e.parts) (h.logs k)

    -- a logged decision stands at the end of its stripe's log
    logs-with : (v : Verdict) → bounces v ≡ false → (n : ℕ)
        → (if n == k then s.logs n ++ with_verdict v ∷ [] else s.logs n) ≡ log_of n (before ++ with_verdict v ∷ [])
    logs-with v kept n = go (n == k) refl ∙ sym (log-more n before (with_verdict v))
      where
        test : (b : Bool) → (k == n) ≡ b → is_logged n (with_verdict v) ≡ b
        test b is = ap (λ (c : Bool). c && not (bounces v)) is ∙ ap (λ (c : Bool). b && not c) kept ∙ same b
          where
            same : (b : Bool) → (b && true) ≡ b
            same true = refl
            same false = refl

        go : (b : Bool) → (n == k) ≡ b → (if b then s.logs n ++ with_verdict v ∷ [] else s.logs n)
            ≡ (if is_logged n (with_verdict v) then log_of n before ++ with_verdict v ∷ [] else log_of n before)
        go true is =
            ap (λ (log : List Decided). log ++ with_verdict v ∷ []) (h.logs n)
            ∙ ap (λ (b : Bool). if b then log_of n before ++ with_verdict v ∷ [] else log_of n before) (sym (test true (eq-eqb k n (sym (eqb-true n k is)))))
        go false is =
            h.logs n ∙ ap (λ (b : Bool). if b then log_of n before ++ with_verdict v ∷ [] else log_of n before) (sym (test false (ne_eqb k n (λ same. eqb-false n k is (sym same)))))

    -- the seating with a decision that goes to the tail, and with one that goes to a log
    seating-bounced : Seating batch (with_seat s.book.seats e.session (record (s.book.seats e.session) { stand = InTail })) [] (submits left)
        (logged_in (before ++ with_verdict verdict.Bounced ∷ [])) (others ++ bounced (before ++ with_verdict verdict.Bounced ∷ [])) outcomes
    seating-bounced =
        let d : Decided = with_verdict verdict.Bounced in
        let x : ℕ → Seat = with_seat s.book.seats e.session (record (s.book.seats e.session) { stand = InTail }) in
        subst (λ (rs : List Request). Seating batch x [] (submits left) rs (others ++ bounced (before ++ d ∷ [])) outcomes) (sym (more-of (λ y. not (is_bounced y)) before d false refl))
        (subst (λ (rs : List Request). Seating batch x [] (submits left) (logged_in before) (others ++ rs) outcomes) (sym (more-of is_bounced before d true refl))
        (subst (λ (rs : List Request). Seating batch x [] (submits left) (logged_in before) rs outcomes) (append_assoc others (bounced before) (r ∷ []))
        (goes-tail batch s.book.seats r [] (submits left) (logged_in before) (others ++ bounced before) outcomes h.stage.seating)))

    -- and with one that goes to a log
    seating-logged : (v : Verdict) → bounces v ≡ false → Seating batch (with_seat s.book.seats e.session (record (s.book.seats e.session) { stand = InLog })) [] (submits left)
        (logged_in (before ++ with_verdict v ∷ [])) (others ++ bounced (before ++ with_verdict v ∷ [])) outcomes
    seating-logged v kept =
        let d : Decided = with_verdict v in
        let x : ℕ → Seat = with_seat s.book.seats e.session (record (s.book.seats e.session) { stand = InLog }) in
        subst (λ (rs : List Request). Seating batch x [] (submits left) rs (others ++ bounced (before ++ d ∷ [])) outcomes) (sym (more-of (λ y. not (is_bounced y)) before d true (ap not kept)))
        (subst (λ (rs : List Request). Seating batch x [] (submits left) (logged_in before ++ r ∷ []) (others ++ rs) outcomes) (sym (more-of is_bounced before d false kept))
        (goes-logged batch s.book.seats r [] (submits left) (logged_in before) (others ++ bounced before) outcomes h.stage.seating))

    -- the state that a cell leaves
    cell-stage : (v : Verdict) → CellStage ground batch records others outcomes (decided s k (entry_of e.session e.seq e.parts) v) (before ++ with_verdict v ∷ []) left
    cell-stage verdict.Bounced = record {
      stage = record { at = h.stage.at; setup = h.stage.setup; book = record { lines = h.stage.book.lines; places = h.stage.book.places }; seating = seating-bounced };
      logs = λ n. h.logs n ∙ sym (log-more n before (with_verdict verdict.Bounced) ∙ off n (k == n));
    }
      where
        off : (n : ℕ) (b : Bool) → (if b && false then log_of n before ++ with_verdict verdict.Bounced ∷ [] else log_of n before) ≡ log_of n before
        off n true = refl
        off n false = refl
    cell-stage verdict.Applied = record {
      stage = record { at = h.stage.at; setup = h.stage.setup; book = record { lines = h.stage.book.lines; places = h.stage.book.places }; seating = seating-logged verdict.Applied refl };
      logs = logs-with verdict.Applied refl;
    }
    cell-stage verdict.NoEdge = record {
      stage = record { at = h.stage.at; setup = h.stage.setup; book = record { lines = h.stage.book.lines; places = h.stage.book.places }; seating = seating-logged verdict.NoEdge refl };
      logs = logs-with verdict.NoEdge refl;
    }
    cell-stage verdict.Waiting = record {
      stage = record { at = h.stage.at; setup = h.stage.setup; book = record { lines = h.stage.book.lines; places = h.stage.book.places }; seating = seating-logged verdict.Waiting refl };
      logs = logs-with verdict.Waiting refl;
    }

    -- the step of the cell
    decides : Happens s (cell_on e) (decided s k (entry_of e.session e.seq e.parts) (verdict_of (graph_of s.setup s.book) (forests_now s.book) (s.logs k) e.parts))
    decides =
        let its = h.stage.seating.in_cells.each r (Contains-first r (submits left)) in
        record {
          asked = asked_by r;
          parts = e.parts;
          phase = h.stage.at;
          stand = its.here;
          next = its.next;
          is = refl;
          of_stripe = refl;
          after = refl;
        }

    -- the stage that it leaves
    decided-stage : CellStage ground batch records others outcomes
        (decided s k (entry_of e.session e.seq e.parts) (verdict_of (graph_of s.setup s.book) (forests_now s.book) (s.logs k) e.parts))
        (before ++ decision g forests before e ∷ []) left
    decided-stage =
        subst (λ (v : Verdict). CellStage ground batch records others outcomes
        (decided s k (entry_of e.session e.seq e.parts) (verdict_of (graph_of s.setup s.book) (forests_now s.book) (s.logs k) e.parts)) (before ++ with_verdict v ∷ []) left)
        verdict-is (cell-stage (verdict_of (graph_of s.setup s.book) (forests_now s.book) (s.logs k) e.parts))

  -- all cells
  pub leads-cells : (left : List Entry) (s : State) (before : List Decided) (more : List Step) (Q : State → Type 0)
      → CellStage ground batch records others outcomes s before left
      → ((t : State) → CellStage ground batch records others outcomes t (before ++ decided_behind g forests before left) [] → Leads t more Q)
      → Leads s (map cell_on left ++ more) Q
  unfolding decided_behind
  leads-cells [] s before more Q h next = next s (subst (λ (ds : List Decided). CellStage ground batch records others outcomes s ds []) (sym (append-nil before)) h)
  leads-cells (e ∷ left) s before more Q h next =
      let d : Decided = decision g forests before e in
      let t : State = decided s (stripe_of e.parts) (entry_of e.session e.seq e.parts) (verdict_of (graph_of s.setup s.book) (forests_now s.book) (s.logs (stripe_of e.parts)) e.parts) in
      leads-step s t (cell_on e) (map cell_on left ++ more) Q (decides s before e left h)
      (leads-cells left t (before ++ d ∷ []) more Q (decided-stage s before e left h)
      (λ u stage. next u (subst (λ (ds : List Decided). CellStage ground batch records others outcomes u ds [])
      (append_assoc before (d ∷ []) (decided_behind g forests (before ++ d ∷ []) left)) stage)))
