-- What a parallel phase leaves of candidates: their verdicts by session, and the graph.
use Rattle.std.proofs.Common.{◌≡◌, ◌≢◌, ℕ, ◌<◌, ◌≤◌, ◌==◌, if◌then◌else◌, inl, inr, Bool, List, [], ◌∷◌, ◌++◌, length, map, get_or, arith, refl, sym, subst, ap, ◌∙◌, eq-eqb}
use Rattle.std.specs.List.{All, Contains}
use Rattle.std.proofs.lemmas.Bool.{cases_lt, ne_eqb}
use Rattle.std.proofs.lemmas.List.{get_or_past}
use Rattle.ris_base.specs.Forest.{Forest}
use Rattle.ris_base.specs.Graph.{EachOnce}
use Rattle.ris_base.specs.Machine.{Decided}
use Rattle.ris_base.specs.declared.events.Verdict.{Verdict}
use Rattle.ris_base.specs.declared.events.Verdict.TheVariants.{Waiting}
use Rattle.ris_base.specs.declared.graphs.PlainGraph.{PlainGraph}
use Rattle.ris_base.specs.declared.lines.Entry.{Entry}
use Rattle.ris_base.proofs.ListLemmas.{All-from_Contains, Contains-cases, Contains-filter, Contains-filtered, Contains-first, Contains-none, Contains-rest, EachOnce-head, EachOnce-tail}
use Rattle.ris_legal.proofs.Cells.{of_stripe}
use Rattle.ris_graph.specs.Jobs.{HasSession}
use Rattle.ris_graph.specs.declared.stripes.StripeJob.{StripeJob}
use Rattle.ris_graph.proofs.JobLemmas.{IsJob-at, job-stripe}
use Rattle.ris_phase.specs.Cells
use Rattle.ris_phase.specs.Cells.{IsOrder, cells, logs}
use Rattle.ris_epoch.specs.Account.{IsMerge, decided_behind, decision, is_bounced}
use Rattle.ris_epoch.specs.Driving
use Rattle.ris_epoch.specs.Driving.{first_part, job_of}
use Rattle.ris_epoch.specs.Sealing.{AreVerdicts, all_told, told_by}
use Rattle.ris_epoch.proofs.PhaseLogs.{IsNumbered, cell_on, cells-on, cells-stripe, cells_on, logs-behind}
use Rattle.ris_epoch.specs.Ordering.{stripe_by_entry}
use Rattle.ris_epoch.proofs.Stands.{Contains-map, Contains-mapped}
use Rattle.ris_epoch.proofs.StripeMerges.{log-stripe, stripe_of-below}

-- By session

-- the verdict on a session's candidate among decisions
verdict_among : List Decided → ℕ → Verdict
verdict_among [] s = Waiting
verdict_among (d ∷ ds) s = if d.entry.session == s then d.verdict else verdict_among ds s

-- the number of a session's request among candidates
seq_among : List Entry → ℕ → ℕ
seq_among [] s = 0
seq_among (e ∷ es) s = if e.session == s then e.seq else seq_among es s

verdict-here : (ds : List Decided) (d : Decided) → EachOnce (map (λ (x : Decided). x.entry.session) ds) → Contains ds d → verdict_among ds d.entry.session ≡ d.verdict
unfolding verdict_among
verdict-here [] d once at = absurd (Contains-none d at)
verdict-here (x ∷ ds) d once at = elim (Contains-cases x ds d at) [
  | inl first ↦ ap (λ (b : Bool). if b then x.verdict else verdict_among ds d.entry.session) (eq-eqb x.entry.session d.entry.session (ap (λ (y : Decided). y.entry.session) first)) ∙ ap (λ (y : Decided). y.verdict) first
  | inr later ↦
      let other : x.entry.session ≢ d.entry.session = λ same. EachOnce-head x.entry.session (map (λ (y : Decided). y.entry.session) ds) once
      (subst (λ (n : ℕ). Contains (map (λ (y : Decided). y.entry.session) ds) n) (sym same) (Contains-mapped (λ (y : Decided). y.entry.session) ds d later)) in
      ap (λ (b : Bool). if b then x.verdict else verdict_among ds d.entry.session) (ne_eqb x.entry.session d.entry.session other)
      ∙ verdict-here ds d (EachOnce-tail x.entry.session (map (λ (y : Decided). y.entry.session) ds) once) later
]

seq-here : (es : List Entry) (e : Entry) → EachOnce (map (λ (x : Entry). x.session) es) → Contains es e → seq_among es e.session ≡ e.seq
unfolding seq_among
seq-here [] e once at = absurd (Contains-none e at)
seq-here (x ∷ es) e once at = elim (Contains-cases x es e at) [
  | inl first ↦ ap (λ (b : Bool). if b then x.seq else seq_among es e.session) (eq-eqb x.session e.session (ap (λ (y : Entry). y.session) first)) ∙ ap (λ (y : Entry). y.seq) first
  | inr later ↦
      let other : x.session ≢ e.session = λ same. EachOnce-head x.session (map (λ (y : Entry). y.session) es) once
      (subst (λ (n : ℕ). Contains (map (λ (y : Entry). y.session) es) n) (sym same) (Contains-mapped (λ (y : Entry). y.session) es e later)) in
      ap (λ (b : Bool). if b then x.seq else seq_among es e.session) (ne_eqb x.session e.session other)
      ∙ seq-here es e (EachOnce-tail x.session (map (λ (y : Entry). y.session) es) once) later
]

-- decisions are told by the verdicts of their sessions
told-map : (ds : List Decided) (verdicts : ℕ → Verdict) → ((d : Decided) → Contains ds d → verdicts d.entry.session ≡ d.verdict)
    → ds ≡ all_told verdicts (map (λ (d : Decided). d.entry) ds)
told-map [] verdicts h = refl
told-map (d ∷ ds) verdicts h =
    ap (λ (v : Verdict). told_by d.entry v ∷ ds) (sym (h d (Contains-first d ds)))
    ∙ ap (λ (xs : List Decided). told_by d.entry (verdicts d.entry.session) ∷ xs) (told-map ds verdicts (λ x at. h x (Contains-rest d ds x at)))

-- the candidates of decisions
entries-decided : (g : PlainGraph) (forests : List Forest) (before : List Decided) (candidates : List Entry)
    → map (λ (d : Decided). d.entry) (decided_behind g forests before candidates) ≡ candidates
unfolding decided_behind
entries-decided g forests before [] = refl
entries-decided g forests before (e ∷ candidates) = ap (λ (es : List Entry). e ∷ es) (entries-decided g forests (before ++ decision g forests before e ∷ []) candidates)

-- each candidate is decided
in-cells : (p : PlainGraph) (forests : List Forest) (log : List Decided) (es : List Entry) (e : Entry) → Contains es e
    → (d : Decided) × Contains (cells_on p forests log es) d × (d.entry ≡ e)
unfolding cells_on
in-cells p forests log [] e at = absurd (Contains-none e at)
in-cells p forests log (x ∷ es) e at =
    let own : Decided = cell_on p forests log x in
    let after : List Decided = if is_bounced own then log else log ++ own ∷ [] in
    elim (Contains-cases x es e at) [
      | inl first ↦ (own, Contains-first own (cells_on p forests after es), first)
      | inr later ↦ (let d = in-cells p forests after es e later in (d.0, Contains-rest own (cells_on p forests after es) d.0 d.1, d.2))
    ]

-- Stripes

-- past the 64 stripes there are no candidates
none-past : (k : ℕ) (es : List Entry) → 64 ≤ k → Driving.of_stripe k es ≡ []
none-past k [] past = refl
none-past k (e ∷ es) past =
    let low = stripe_of-below e.parts in
    let other : stripe_by_entry e ≢ k = λ same. absurd (omega arith) in
    rw (ne_eqb (stripe_by_entry e) k other) (none-past k es past)

-- the jobs of each stripe are those of its candidates, also past the last one
all-stripes : (es : List Entry) (jobs : List (List StripeJob)) → length jobs ≡ 64
    → ((m : ℕ) → m < 64 → get_or jobs m [] ≡ map job_of (Driving.of_stripe m es)) → (k : ℕ) → get_or jobs k [] ≡ map job_of (Driving.of_stripe k es)
all-stripes es jobs long given k = elim (cases_lt k 64) [
  | inl lt ↦ given k lt
  | inr past ↦ get_or_past jobs k [] (omega arith) ∙ ap (map job_of) (sym (none-past k es past))
]

-- The phase

module _ (p : PlainGraph) (forests : List Forest) (candidates : List Entry) (once : EachOnce (map (λ (e : Entry). e.session) candidates))
    (once_decided : EachOnce (map (λ (d : Decided). d.entry.session) (decided_behind p forests [] candidates)))
    (one : (e : Entry) → Contains candidates e → e.parts ≡ first_part e.parts ∷ []) where
  -- the decisions on the candidates
  abbrev decisions : List Decided
  decisions = decided_behind p forests [] candidates

  -- the verdict of each session, and the number of its request
  pub verdicts : ℕ → Verdict
  verdicts = verdict_among decisions

  pub numbers : ℕ → ℕ
  numbers = seq_among candidates

  -- the decisions by these verdicts
  pub decisions-told : decisions ≡ all_told verdicts candidates
  unfolding verdicts
  decisions-told =
      told-map decisions (verdict_among decisions) (λ d at. verdict-here decisions d once_decided at)
      ∙ ap (all_told (verdict_among decisions)) (entries-decided p forests [] candidates)

  -- the candidates of a stripe have one part, and their numbers
  numbered : (k : ℕ) → All (IsNumbered numbers) (Driving.of_stripe k candidates)
  unfolding numbers
  numbered k = All-from_Contains (IsNumbered (seq_among candidates)) (Driving.of_stripe k candidates) (λ e at.
      (let there = (Contains-filter _ candidates e at).0 in record { one = one e there; numbered = seq-here candidates e once there }))

  -- the verdicts of the jobs are these
  pub verdicts-jobs : (before after : List (List StripeJob)) → length after ≡ 64 → ((m : ℕ) → m < 64 → get_or before m [] ≡ map job_of (Driving.of_stripe m candidates))
      → ((m : ℕ) → m < 64 → get_or after m [] ≡ cells p forests numbers [] (get_or before m [])) → AreVerdicts after verdicts
  unfolding verdicts
  verdicts-jobs before after long given made job at =
      let there = job-stripe after job at in
      let m = there.0 in
      let lt : m < 64 = (let less = there.1 in omega arith) in
      let cell = subst (λ (js : List StripeJob). Contains js job) (made m lt ∙ ap (cells p forests numbers []) (given m lt)) there.2 in
      let mapped = Contains-mapped (Cells.decision numbers) (cells p forests numbers [] (map job_of (Driving.of_stripe m candidates))) job cell in
      let all = subst (λ (ds : List Decided). Contains ds (Cells.decision numbers job))
      (cells-on p forests numbers [] (Driving.of_stripe m candidates) (numbered m) ∙ sym (cells-stripe p forests m [] candidates)) mapped in
      sym (verdict-here decisions (Cells.decision numbers job) once_decided (Contains-filter (of_stripe m) decisions (Cells.decision numbers job) all).0)

  -- an order of the decisions that keeps that of each stripe's log keeps that of the jobs' logs
  pub merge-order : (merged : List Decided) (jobs : List (List StripeJob)) → length jobs ≡ 64 → IsMerge decisions merged
      → ((m : ℕ) → m < 64 → get_or jobs m [] ≡ map job_of (Driving.of_stripe m candidates))
      → IsOrder (λ k. logs p forests numbers [] (get_or jobs k [])) merged
  merge-order merged jobs long merge given k =
      merge k ∙ log-stripe p forests k [] candidates ∙ sym (logs-behind p forests numbers [] (Driving.of_stripe k candidates) (numbered k))
      ∙ ap (λ (js : List StripeJob). logs p forests numbers [] js) (sym (all-stripes candidates jobs long given k))

  -- each candidate has its job
  pub has-job : (before after : List (List StripeJob)) → ((m : ℕ) → m < 64 → get_or before m [] ≡ map job_of (Driving.of_stripe m candidates))
      → ((m : ℕ) → m < 64 → get_or after m [] ≡ cells p forests numbers [] (get_or before m [])) → (e : Entry) → Contains candidates e → HasSession after e.session
  has-job before after given made e at =
      let m = stripe_by_entry e in
      let lt = stripe_of-below e.parts in
      let es = Driving.of_stripe m candidates in
      let there = Contains-filtered (λ (x : Entry). stripe_by_entry x == m) candidates e at (eq-eqb m m refl) in
      let d = in-cells p forests [] es e there in
      let j = Contains-map (Cells.decision numbers) (cells p forests numbers [] (map job_of es)) d.0
      (subst (λ (ds : List Decided). Contains ds d.0) (sym (cells-on p forests numbers [] es (numbered m))) d.1) in (
        j.0,
        IsJob-at after m j.0 (subst (λ (js : List StripeJob). Contains js j.0) (sym (made m lt ∙ ap (cells p forests numbers []) (given m lt))) j.1),
        ap (λ (x : Decided). x.entry.session) j.2 ∙ ap (λ (x : Entry). x.session) d.2,
      )
