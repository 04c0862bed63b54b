-- In every order that keeps that of each stripe, each decision is right where it stands.
use Rattle.std.proofs.Common.{◌≡◌, ◌≢◌, ℕ, zero, suc, if◌then◌else◌, inl, inr, Bool, true, false, List, [], ◌∷◌, ◌++◌, length, get_or, take, Some, refl, sym, ap, subst, ◌∙◌, append_assoc, eq-eqb}
use Rattle.std.specs.List.{All, slice_get}
use Rattle.std.proofs.lemmas.Bool.{both_ways, cases_lt}
use Rattle.std.proofs.lemmas.List.{append-nil, get_or_past}
use Rattle.std.proofs.lemmas.List.Elements.{All-get_or, All-head, All-nil, All-tail}
use Rattle.ris_base.specs.Effect.{changed}
use Rattle.ris_base.specs.Forest.{Forest, AreForests}
use Rattle.ris_base.specs.Graph.{IsProper}
use Rattle.ris_base.specs.Machine.{Decided, applies, is_applied, stripe_of, verdict_of}
use Rattle.ris_base.specs.Requests.{entered}
use Rattle.ris_base.specs.Safe.{is_candidate}
use Rattle.ris_base.specs.declared.analyses.Spec.{Spec}
use Rattle.ris_base.specs.declared.events.Verdict.{Verdict}
use Rattle.ris_base.specs.declared.events.Verdict.TheVariants.{Applied, Bounced, NoEdge, Waiting}
use Rattle.ris_base.specs.declared.graphs.PlainGraph.{PlainGraph}
use Rattle.ris_base.specs.declared.updates.Update.{Update}
use Rattle.ris_base.proofs.RequestLemmas.{entered-one}
use Rattle.ris_legal.specs.Held.{AreVerdicts, SaysVerdict}
use Rattle.ris_legal.proofs.Cells.{AreMerged, Follows, IsStage, first-stage, follows, merged, merged-here, merged-rest, of_stripe, stripe_log}
use Rattle.ris_legal.proofs.Lists.{in-filter}
use Rattle.ris_legal.proofs.Sealing.{follows-says, one-part}
use Rattle.ris_graph.specs.Jobs.{EachJob}
use Rattle.ris_graph.specs.declared.stripes.StripeJob.{StripeJob}
use Rattle.ris_phase.specs.Cells.{IsOrder, applied_each, celled, decision, is_bounced, logs}

-- a decision on a candidate that isn't left to the tail
record IsRuled (p : PlainGraph) (specs : List Spec) (forests : List Forest) (d : Decided) : Type 0 where
  candidate : is_candidate p specs forests d.entry.parts ≡ true
  ruled : d.verdict ≢ Bounced

-- each decision of a list is one
abbrev AreRuled : PlainGraph → List Spec → List Forest → List Decided → Type 0
AreRuled p specs forests log = (i : ℕ) (d : Decided) → slice_get log i ≡ Some d → IsRuled p specs forests d

-- what cells add to a log: decisions on candidates, with the verdicts of their order
record IsAdded (p : PlainGraph) (specs : List Spec) (forests : List Forest) (before after : List Decided) : Type 0 where
  new : List Decided
  is : after ≡ before ++ new
  verdicts : AreVerdicts p forests before new
  ruled : AreRuled p specs forests new

ruled-cons : (p : PlainGraph) (specs : List Spec) (forests : List Forest) (d : Decided) (log : List Decided) → IsRuled p specs forests d → AreRuled p specs forests log
    → AreRuled p specs forests (d ∷ log)
ruled-cons p specs forests d log first more zero x at = let same : d ≡ x = cc in subst (IsRuled p specs forests) same first
ruled-cons p specs forests d log first more (suc i) x at = more i x at

added-none : (p : PlainGraph) (specs : List Spec) (forests : List Forest) (log : List Decided) → IsAdded p specs forests log log
unfolding AreVerdicts
added-none p specs forests log = record { new = []; is = sym (append-nil log); verdicts = tt; ruled = λ i d at. absurd (cc) }

added-more : (p : PlainGraph) (specs : List Spec) (forests : List Forest) (log after : List Decided) (d : Decided) → IsRuled p specs forests d
    → d.verdict ≡ verdict_of p forests log d.entry.parts → IsAdded p specs forests (log ++ d ∷ []) after → IsAdded p specs forests log after
unfolding AreVerdicts
added-more p specs forests log after d first is more = record {
  new = d ∷ more.new;
  is = more.is ∙ append_assoc log (d ∷ []) more.new;
  verdicts = (is, more.verdicts);
  ruled = ruled-cons p specs forests d more.new first more.ruled;
}

logs-added : (p : PlainGraph) (specs : List Spec) (forests : List Forest) (seq : ℕ → ℕ) (jobs : List StripeJob) (log : List Decided)
    → All (λ j. is_candidate p specs forests (j.update ∷ []) ≡ true) jobs → IsAdded p specs forests log (logs p forests seq log jobs)
unfolding logs
logs-added p specs forests seq [] log all = added-none p specs forests log
logs-added p specs forests seq (j ∷ jobs) log all =
    let P = λ (i : StripeJob). is_candidate p specs forests (i.update ∷ []) ≡ true in
    let v = verdict_of p forests log (j.update ∷ []) in
    go (is_bounced v) refl (All-head P j jobs all) (logs-added p specs forests seq jobs log (All-tail P j jobs all))
    (logs-added p specs forests seq jobs (log ++ decision seq (celled p forests log j) ∷ []) (All-tail P j jobs all))
  where
    tail-only : (v : Verdict) → is_bounced v ≡ false → v ≢ Bounced
    tail-only v not e = both_ways (is_bounced v) not (ap is_bounced e)

    go : (b : Bool) → is_bounced (verdict_of p forests log (j.update ∷ [])) ≡ b → is_candidate p specs forests (j.update ∷ []) ≡ true
        → IsAdded p specs forests log (logs p forests seq log jobs)
        → IsAdded p specs forests (log ++ decision seq (celled p forests log j) ∷ []) (logs p forests seq (log ++ decision seq (celled p forests log j) ∷ []) jobs)
        → IsAdded p specs forests log (logs p forests seq (if b then log else log ++ decision seq (celled p forests log j) ∷ []) jobs)
    go true e candidate left more = left
    go false e candidate left more =
        added-more p specs forests log _ (decision seq (celled p forests log j))
        (record { candidate = candidate; ruled = tail-only (verdict_of p forests log (j.update ∷ [])) e }) refl more

-- One decision of an order

-- the graph and the stage behind a decision
stage-next : (p h : PlainGraph) (specs : List Spec) (forests : List Forest) (before : List Decided) (d : Decided) (part : Update) (v : Verdict) → d.entry.parts ≡ part ∷ []
    → v ≢ Bounced → Follows p specs forests before h d part v → IsStage p specs forests (before ++ d ∷ []) (if applies v then entered h d.entry.parts else h)
stage-next p h specs forests before d part Applied parts ruled f =
    subst (IsStage p specs forests (before ++ d ∷ [])) (sym (ap (entered h) parts ∙ entered-one h (changed h part) part f.1)) f.2
stage-next p h specs forests before d part NoEdge parts ruled f = f.1
stage-next p h specs forests before d part Bounced parts ruled f = absurd (ruled refl)
stage-next p h specs forests before d part Waiting parts ruled f = absurd f

says-each : (p h : PlainGraph) (specs : List Spec) (forests : List Forest) (before order : List Decided) → IsStage p specs forests before h → AreMerged p forests before order
    → AreRuled p specs forests order → (i : ℕ) (d : Decided) → slice_get order i ≡ Some d → SaysVerdict (applied_each h (take i order)) specs forests d.entry.parts d.verdict
unfolding applied_each
says-each p h specs forests before [] stage right ruled i d at = absurd (cc)
says-each p h specs forests before (c ∷ order) stage right ruled i d at =
    let first = ruled 0 c refl in
    let one = one-part p specs forests c.entry.parts first.candidate in
    let here = subst (λ (ps : List Update). c.verdict ≡ verdict_of p forests (stripe_log (stripe_of ps) before) ps) one.1 (merged-here p forests before order c right) in
    let f = follows p h specs forests before c one.0 stage one.2 one.1 here in
    go i at (follows-says p h specs forests before c one.0 c.verdict one.1 first.ruled f)
    (λ k more. says-each p (if is_applied c then entered h c.entry.parts else h) specs forests (before ++ c ∷ []) order
    (stage-next p h specs forests before c one.0 c.verdict one.1 first.ruled f) (merged-rest p forests before order c right) (λ n x there. ruled (suc n) x there) k d more)
  where
    go : (i : ℕ) → slice_get (c ∷ order) i ≡ Some d → SaysVerdict h specs forests c.entry.parts c.verdict
        → ((k : ℕ) → slice_get order k ≡ Some d → SaysVerdict (applied_each (if is_applied c then entered h c.entry.parts else h) (take k order)) specs forests d.entry.parts d.verdict)
        → SaysVerdict (applied_each h (take i (c ∷ order))) specs forests d.entry.parts d.verdict
    go zero at now more = let same : c ≡ d = cc in subst (λ (x : Decided). SaysVerdict h specs forests x.entry.parts x.verdict) same now
    go (suc k) at now more = more k at

-- All stripes

pub says-order : (p : PlainGraph) (specs : List Spec) (forests : List Forest) (seq : ℕ → ℕ) (js : List (List StripeJob)) (order : List Decided) → IsProper p
    → AreForests p specs forests → EachJob (λ j. is_candidate p specs forests (j.update ∷ []) ≡ true) js → IsOrder (λ k. logs p forests seq [] (get_or js k [])) order
    → (i : ℕ) (d : Decided) → slice_get order i ≡ Some d → SaysVerdict (applied_each p (take i order)) specs forests d.entry.parts d.verdict
says-order p specs forests seq js order proper right candidates keeps =
    says-each p p specs forests [] order (first-stage p specs forests proper right)
    (merged p forests [] order (λ k. subst (AreVerdicts p forests []) (sym (keeps k ∙ (added k).is)) (added k).verdicts)) all-ruled
  where
    jobs-candidates : (k : ℕ) → All (λ j. is_candidate p specs forests (j.update ∷ []) ≡ true) (get_or js k [])
    jobs-candidates k =
        let P = λ (j : StripeJob). is_candidate p specs forests (j.update ∷ []) ≡ true in
        elim (cases_lt k (length js)) [
          | inl lt ↦ All-get_or (All P) js k [] lt candidates
          | inr past ↦ subst (All P) (sym (get_or_past js k [] past)) (All-nil P)
        ]

    added : (k : ℕ) → IsAdded p specs forests [] (logs p forests seq [] (get_or js k []))
    added k = logs-added p specs forests seq (get_or js k []) [] (jobs-candidates k)

    all-ruled : AreRuled p specs forests order
    all-ruled i d at =
        let k = stripe_of d.entry.parts in
        let there = in-filter (of_stripe k) order i d at (eq-eqb k k refl) in
        (added k).ruled there.0 d (ap (λ (x : List Decided). slice_get x there.0) (sym (keeps k ∙ (added k).is)) ∙ there.1)
