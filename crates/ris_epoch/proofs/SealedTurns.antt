-- A driver whose candidates are decided and sealed stands for the records of the seal.
use Rattle.std.proofs.Common.{◌≡◌, ◌↔◌, ℕ, ◌<◌, inl, inr, IsTrue, List, [], ◌∷◌, ◌++◌, length, map, get_or, arith, sym, subst, ap, ◌∙◌}
use Rattle.std.specs.List.{All, Contains, filter}
use Rattle.std.proofs.lemmas.List.Elements.{All-contains, All-weaker, Contains-append_left, Contains-append_right}
use Rattle.std.proofs.lemmas.List.Kept.{AllPairs-filter}
use Rattle.ris_base.specs.Epoch.{Ground, Resolved}
use Rattle.ris_base.specs.Forest.{Forest, AreForests}
use Rattle.ris_base.specs.Graph.{EachOnce}
use Rattle.ris_base.specs.Lines.{front}
use Rattle.ris_base.specs.Machine.{Decided, session_by, stripe_of}
use Rattle.ris_base.specs.Records.{lines_of}
use Rattle.ris_base.specs.declared.events.Verdict.{Verdict}
use Rattle.ris_base.specs.declared.graphs.Format.{Format}
use Rattle.ris_base.specs.declared.graphs.PlainGraph.{PlainGraph}
use Rattle.ris_base.specs.declared.lines.Entry.{Entry}
use Rattle.ris_base.specs.declared.lines.Line.{Line}
use Rattle.ris_base.specs.declared.records.Record.{Record}
use Rattle.ris_base.specs.declared.requests.Request.{Request}
use Rattle.ris_base.specs.declared.requests.Request.TheVariants as request
use Rattle.ris_base.specs.declared.updates.Update.{Update}
use Rattle.ris_base.proofs.EffectLemmas.{HasVertex-from_test, has_vertex-true}
use Rattle.ris_base.proofs.ListLemmas.{All-from_Contains, Contains-cases, Contains-filter, Contains-filtered, Contains-none, EachOnce-head, EachOnce-tail}
use Rattle.ris_algo.proofs.RecordLemmas.{lines_of-append}
use Rattle.ris_legal.proofs.Sealing.{one-part}
use Rattle.ris_analysis.specs.Analyses.{AllSuit, forests_of}
use Rattle.ris_analysis.specs.AnyForest.{HasRoomOne}
use Rattle.ris_analysis.specs.declared.kinds.AnyForest.{AnyForest}
use Rattle.ris_graph.specs.GraphView.{IsOf, vertex_in}
use Rattle.ris_graph.specs.Jobs.{HasSession}
use Rattle.ris_graph.specs.declared.stripes.StripeJob.{StripeJob}
use Rattle.ris_phase.specs.Cells.{IsOrder, applied_each, cells, logs}
use Rattle.ris_epoch.specs.Account.{IsBatch, IsMerge, bounced, decisions_on, forests_behind, graph_behind, is_bounced, is_candidate_behind, outcomes_of, records_of}
use Rattle.ris_epoch.specs.Driving.{first_part, no_memory_for}
use Rattle.ris_epoch.specs.DriverView.{DriverView, Fits, StandsFor}
use Rattle.ris_epoch.specs.Laws.{IsDue}
use Rattle.ris_epoch.specs.Ordering.{AreOrdered}
use Rattle.ris_epoch.specs.Sealing.{AreVerdicts, all_told, all_waiting, outcomes_if, records_if, told_by}
use Rattle.ris_epoch.specs.TurnOrder.{IsSealedBefore}
use Rattle.ris_epoch.specs.Turning.{AreSealed, HasBegun, HasSealed}
use Rattle.ris_epoch.proofs.Deciding.{decided-sessions}
use Rattle.ris_epoch.proofs.OrderingLemmas.{ordered-once}
use Rattle.ris_epoch.proofs.Pairs.{AllPairs-map}
use Rattle.ris_epoch.proofs.PhaseVerdicts.{decisions-told, has-job, merge-order, numbers, verdicts, verdicts-jobs}
use Rattle.ris_epoch.proofs.SealRuns.{map-twice}
use Rattle.ris_epoch.proofs.SealStages.{IsSealing, sealing}
use Rattle.ris_epoch.proofs.SealSteps.{has-order, has-waiting, order-has, order-once, outcomes-if, records-if, stays, told-merge, waiting-has, waiting-ordered}
use Rattle.ris_epoch.proofs.SettledGraphs.{graph-sealed}
use Rattle.ris_epoch.proofs.Splits.{ArePartsOf, parts-of, submits}
use Rattle.ris_epoch.proofs.Stands.{Contains-map, Contains-mapped, once-left, once-right}

-- each candidate has its job behind the phase
pub jobs-held : (ground : Ground) (records : List Record) {inserts : ℕ} (batch : List Request) (d : DriverView) (order : List Entry) (waiting : List Request)
    (h : HasBegun ground records inserts batch d order waiting) (after : List (List StripeJob))
    → ((p : PlainGraph) (seq : ℕ → ℕ) (m : ℕ) → IsOf d.graph p → m < 64 → get_or after m [] ≡ cells p (forests_of d.analyses) seq [] (get_or d.jobs m []))
    → All (λ e. HasSession after e.session) order
jobs-held ground records batch d order waiting h after cells_are =
    All-from_Contains (λ e. HasSession after e.session) order (λ e at.
    has-job p forests h.candidates once once-decided one d.jobs after h.jobs
    (λ m lt. cells_are p seq m h.stands.fits.graph_is lt ∙ ap (λ (fs : List Forest). cells p fs seq [] (get_or d.jobs m [])) h.stands.fits.forests_are)
    e (has-order h.candidates order h.by_stripe e at))
  where
    p : PlainGraph
    p = graph_behind ground records

    forests : List Forest
    forests = forests_behind ground records

    parts : ArePartsOf (is_candidate_behind ground records) batch h.wanting h.candidates waiting
    parts = parts-of (is_candidate_behind ground records) batch h.wanting h.candidates waiting h.split

    once : EachOnce (map (λ (e : Entry). e.session) h.candidates)
    once = subst EachOnce (map-twice (λ (e : Entry). request.Submit e) session_by h.candidates)
        (once-left session_by (submits h.candidates) waiting (once-right session_by (submits h.wanting) (submits h.candidates ++ waiting) (parts.once (ordered-once 0 batch h.taken))))

    once-decided : EachOnce (map (λ (d : Decided). d.entry.session) (decisions_on ground records h.candidates))
    once-decided = subst EachOnce (sym (decided-sessions p forests [] h.candidates)) once

    one : (e : Entry) → Contains h.candidates e → e.parts ≡ first_part e.parts ∷ []
    one e at = (let its = one-part p ground.specs forests e.parts (parts.candidates e at) in its.1 ∙ ap (λ (u : Update). u ∷ []) (sym (ap first_part its.1)))

    seq : ℕ → ℕ
    seq = numbers p forests h.candidates once once-decided one

-- what deciding and sealing all candidates make of a driver
pub record IsSealOf (old new : DriverView) (order : List Entry) (waiting rest : List Request) (after : List (List StripeJob)) : Type 0 where
  pub graph : (p : PlainGraph) (seq : ℕ → ℕ) (order : List Decided) → IsOf old.graph p
      → IsOrder (λ k. logs p (forests_of old.analyses) seq [] (get_or old.jobs k [])) order → IsOf new.graph (applied_each p order)
  pub cells_are : (p : PlainGraph) (seq : ℕ → ℕ) (m : ℕ) → IsOf old.graph p → m < 64
      → get_or after m [] ≡ cells p (forests_of old.analyses) seq [] (get_or old.jobs m [])
  pub stripes : length after ≡ 64
  pub lines : (told : ℕ → Verdict) → AreVerdicts after told → new.journal.lines ≡ old.journal.lines ++ lines_of (records_if (all_told told order))
  pub records_are : (told : ℕ → Verdict) → AreVerdicts after told → new.records ≡ old.records ++ records_if (all_told told order)
  pub replies_are : (told : ℕ → Verdict) → AreVerdicts after told → new.replies ≡ old.replies ++ outcomes_if (front old.journal.lines) (all_told told order)
  pub rest_is : (told : ℕ → Verdict) → AreVerdicts after told → rest ≡ all_waiting waiting (all_told told order)
  pub analyses : new.analyses ≡ old.analyses
  pub opening : new.opening ≡ old.opening

-- keys that stand once in two lists are apart
once-apart : (xs ys : List Request) (x y : Request) → EachOnce (map session_by (xs ++ ys)) → Contains xs x → Contains ys y → session_by x ≡ session_by y → ⊥
once-apart [] ys x y once at there same = Contains-none x at
once-apart (z ∷ xs) ys x y once at there same = elim (Contains-cases z xs x at) [
  | inl first ↦ EachOnce-head (session_by z) (map session_by (xs ++ ys)) once
      (subst (λ (n : ℕ). Contains (map session_by (xs ++ ys)) n) (sym (ap session_by first ∙ same)) (Contains-mapped session_by (xs ++ ys) y (Contains-append_right xs ys y there)))
  | inr later ↦ once-apart xs ys x y (EachOnce-tail (session_by z) (map session_by (xs ++ ys)) once) later there same
]

module _ (ground : Ground) (records : List Record) {inserts : ℕ} (batch : List Request) (old new : DriverView) (order : List Entry) (waiting rest : List Request)
    (after : List (List StripeJob)) (h : HasBegun ground records inserts batch old order waiting) (taken : IsBatch ground batch)
    (s : IsSealOf old new order waiting rest after) where
  -- the graph and the forests before
  abbrev p : PlainGraph
  p = graph_behind ground records

  abbrev forests : List Forest
  forests = forests_behind ground records

  parts : ArePartsOf (is_candidate_behind ground records) batch h.wanting h.candidates waiting
  parts = parts-of (is_candidate_behind ground records) batch h.wanting h.candidates waiting h.split

  due : IsDue ground records batch
  due = record { right = h.stands.right; proper = h.stands.fits.graph_is.proper; taken = taken }

  -- no two candidates are of one session
  abbrev once : EachOnce (map (λ (e : Entry). e.session) h.candidates)
  once = subst EachOnce (map-twice (λ (e : Entry). request.Submit e) session_by h.candidates)
      (once-left session_by (submits h.candidates) waiting (once-right session_by (submits h.wanting) (submits h.candidates ++ waiting) (parts.once taken.once)))

  abbrev once-decided : EachOnce (map (λ (d : Decided). d.entry.session) (decisions_on ground records h.candidates))
  once-decided = subst EachOnce (sym (decided-sessions p forests [] h.candidates)) once

  abbrev one : (e : Entry) → Contains h.candidates e → e.parts ≡ first_part e.parts ∷ []
  one e at = (let its = one-part p ground.specs forests e.parts (parts.candidates e at) in its.1 ∙ ap (λ (u : Update). u ∷ []) (sym (ap first_part its.1)))

  -- the verdicts of the phase
  abbrev told : ℕ → Verdict
  told = verdicts p forests h.candidates once once-decided one

  abbrev seq : ℕ → ℕ
  seq = numbers p forests h.candidates once once-decided one

  -- the same forests
  held : forests_of old.analyses ≡ forests
  held = h.stands.fits.forests_are

  are : AreVerdicts after told
  are = verdicts-jobs p forests h.candidates once once-decided one old.jobs after s.stripes h.jobs
      (λ m lt. s.cells_are p seq m h.stands.fits.graph_is lt ∙ ap (λ (fs : List Forest). cells p fs seq [] (get_or old.jobs m [])) held)

  -- the decisions, and the ones that stay in the order of the seal
  decided : decisions_on ground records h.candidates ≡ all_told told h.candidates
  decided = decisions-told p forests h.candidates once once-decided one

  abbrev merged : List Decided
  merged = filter stays (all_told told order)

  merge : IsMerge (decisions_on ground records h.candidates) merged
  merge = subst (λ (ds : List Decided). IsMerge ds merged) (sym decided) (told-merge told h.candidates order h.by_stripe)

  rises : AreSealed merged
  rises =
      AllPairs-filter (λ (d later : Decided). IsSealedBefore (stripe_of d.entry.parts) d.entry.session (stripe_of later.entry.parts) later.entry.session) stays (all_told told order)
      (AllPairs-map (λ (d later : Decided). IsSealedBefore (stripe_of d.entry.parts) d.entry.session (stripe_of later.entry.parts) later.entry.session)
      (λ (e : Entry). told_by e (told e.session)) order h.rises)

  made : records_if (all_told told order) ≡ records_of merged
  made = records-if (all_told told order)

  stage : IsSealing ground p forests (records ++ records_of merged) merged
  stage = sealing ground records batch h.wanting h.candidates waiting merged due h.split merge

  -- the graph is that behind the records of the seal
  graph-is : IsOf new.graph (graph_behind ground (records ++ records_of merged))
  graph-is =
      subst (IsOf new.graph) (sym (graph-sealed ground records merged))
      (s.graph p seq merged h.stands.fits.graph_is (subst (λ (fs : List Forest). IsOrder (λ k. logs p fs seq [] (get_or old.jobs k [])) merged) (sym held)
      (merge-order p forests h.candidates once once-decided one merged old.jobs h.stripes merge h.jobs)))

  -- it has the same vertices
  same-vertices : (x : ℕ) → IsTrue (vertex_in new.graph x) → IsTrue (vertex_in old.graph x)
  same-vertices x at =
      (h.stands.fits.graph_is.vertices x).1
      (HasVertex-from_test p x (sym (stage.stage.vertices.vertices x) ∙ has_vertex-true (graph_behind ground (records ++ records_of merged)) x ((graph-is.vertices x).0 at)))

  format-is : new.graph.format ≡ old.graph.format
  format-is = sym graph-is.format ∙ stage.stage.vertices.format ∙ h.stands.fits.graph_is.format

  -- the driver stands for the records of the seal
  stands : StandsFor new ground (records ++ records_of merged)
  stands = record {
    right = stage.right;
    opening = s.opening ∙ h.stands.opening;
    fits = subst (λ (ones : List AnyForest). Fits new.graph ones (graph_behind ground (records ++ records_of merged)) ground.specs (forests_behind ground (records ++ records_of merged))) (sym s.analyses) (record {
      graph_is = graph-is;
      specs_are = h.stands.fits.specs_are;
      suits = subst (λ (f : Format). AllSuit old.analyses f) (sym format-is) h.stands.fits.suits;
      room = All-weaker (HasRoomOne old.graph) (HasRoomOne new.graph) (λ ones has x at. has x (same-vertices x at)) old.analyses h.stands.fits.room;
      forests_are = held ∙ sym stage.same;
      right = subst (λ (fs : List Forest). AreForests (graph_behind ground (records ++ records_of merged)) ground.specs fs) (sym stage.same) stage.stage.right;
    });
    lines = s.lines told are ∙ ap (λ (rs : List Record). old.journal.lines ++ lines_of rs) made
        ∙ ap (λ (ls : List Line). ls ++ lines_of (records_of merged)) h.stands.lines ∙ sym (lines_of-append records (records_of merged));
  }

  -- no candidate's session waits
  apart : (e : Entry) → Contains order e → (¬ (Contains (map session_by waiting) e.session)) × (e.session < 64)
  apart e at =
      let there = has-order h.candidates order h.by_stripe e at in
      let known = parts.from (request.Submit e) (Contains-append_right (submits h.wanting) (submits h.candidates ++ waiting) (request.Submit e)
      (Contains-append_left (submits h.candidates) waiting (request.Submit e) (Contains-mapped (λ (x : Entry). request.Submit x) h.candidates e there))) in
      let here = All-contains (λ x. session_by x < ground.start.sessions) batch (request.Submit e) taken.here known in
      let few = h.stands.right.few in
      (separate e there, omega arith)
    where
      separate : (e : Entry) → Contains h.candidates e → ¬ (Contains (map session_by waiting) e.session)
      separate e there at =
          let r = Contains-map session_by waiting e.session at in
          once-apart (submits h.candidates) waiting (request.Submit e) r.0
          (once-right session_by (submits h.wanting) (submits h.candidates ++ waiting) (parts.once taken.once))
          (Contains-mapped (λ (x : Entry). request.Submit x) h.candidates e there) r.1 (sym r.2)

  -- the decisions that bounced are the same in both orders
  bounced-same : (r : Request) → Contains (bounced (all_told told order)) r ↔ Contains (bounced (decisions_on ground records h.candidates)) r
  bounced-same r = (
    λ at. subst (λ (ds : List Decided). Contains (bounced ds) r) (sym decided) (moved order h.candidates (has-order h.candidates order h.by_stripe) r at),
    λ at. moved h.candidates order (order-has h.candidates order h.by_stripe) r (subst (λ (ds : List Decided). Contains (bounced ds) r) decided at),
  )
    where
      moved : (xs ys : List Entry) → ((e : Entry) → Contains xs e → Contains ys e) → (r : Request) → Contains (bounced (all_told told xs)) r → Contains (bounced (all_told told ys)) r
      moved xs ys to r at =
          let d = Contains-map (λ (x : Decided). request.Submit x.entry) (filter is_bounced (all_told told xs)) r at in
          let kept = Contains-filter is_bounced (all_told told xs) d.0 d.1 in
          let e = Contains-map (λ (x : Entry). told_by x (told x.session)) xs d.0 kept.0 in
          subst (λ (x : Request). Contains (bounced (all_told told ys)) x) d.2
          (Contains-mapped (λ (x : Decided). request.Submit x.entry) (filter is_bounced (all_told told ys)) d.0
          (Contains-filtered is_bounced (all_told told ys) d.0 (subst (λ (x : Decided). Contains (all_told told ys) x) e.2 (Contains-mapped (λ (x : Entry). told_by x (told x.session)) ys e.0 (to e.0 e.1))) kept.1))

  -- the turn is sealed
  pub sealed : HasSealed ground records batch new rest
  sealed = record {
    wanting = h.wanting;
    candidates = h.candidates;
    others = waiting;
    merged = merged;
    split = h.split;
    merge = merge;
    rises = rises;
    ordered = subst (AreOrdered 0) (sym (s.rest_is told are)) (waiting-ordered told waiting order h.ordered (order-once h.candidates order h.by_stripe once) apart);
    each = λ r. (
      λ at. elim (waiting-has waiting (all_told told order) r (subst (λ (rs : List Request). Contains rs r) (s.rest_is told are) at)) [
        | inl other ↦ inl other
        | inr back ↦ inr ((bounced-same r).0 back)
      ],
      λ at. subst (λ (rs : List Request). Contains rs r) (sym (s.rest_is told are)) (has-waiting waiting (all_told told order) r (elim at [
        | inl other ↦ inl other
        | inr back ↦ inr ((bounced-same r).1 back)
      ])),
    );
    stands = stands;
    made = s.records_are told are ∙ ap (λ (rs : List Record). rs ++ records_if (all_told told order)) h.none ∙ made;
    told = s.replies_are told are ∙ ap (λ (os : List Resolved). os ++ outcomes_if (front old.journal.lines) (all_told told order)) h.told
        ∙ ap (λ (os : List Resolved). map no_memory_for h.wanting ++ os) (outcomes-if (front old.journal.lines) (all_told told order)
        ∙ ap (λ (ls : List Line). outcomes_of (front ls) merged) h.stands.lines);
  }
