-- A stripe whose jobs are decided is what edits and declines made of it.
use Rattle.std.proofs.Common.{◌≡◌, ℕ, zero, suc, ◌+◌, ◌<◌, ◌≤◌, List, [], ◌∷◌, length, arith, refl, sym, ap, subst, ◌∙◌}
use Rattle.ris_base.specs.Forest.{Forest}
use Rattle.ris_base.specs.declared.events.Verdict.{Verdict}
use Rattle.ris_base.specs.declared.events.Verdict.TheVariants.{Applied, Bounced, NoEdge, Waiting}
use Rattle.ris_graph.specs.Phase.{CanDo, CanStep, Follows, Step, after_steps, stepped}
use Rattle.ris_graph.specs.Phase.Step.{Decline, Edit}
use Rattle.ris_graph.specs.StripeView.{StripeView, job_at}
use Rattle.ris_phase.specs.Cells.{IsOpen, decided_from, decided_job, verdict_in, with_decision}
use Rattle.ris_phase.proofs.DecideLemmas.{can_decline, can_edit, decided_job-by, decided_job-other, length-decided_job}

-- the jobs from number k on are open
abbrev pub AreOpenFrom : StripeView → ℕ → Type 0
AreOpenFrom s k = (i : ℕ) → k ≤ i → i < length s.jobs → IsOpen (job_at s i)

pub fit-decided : (forests : List Forest) (s : StripeView) (k : ℕ) → AreOpenFrom s k → AreOpenFrom (decided_job forests s k) (suc k)
fit-decided forests s k fit i low lt =
    let size = length-decided_job forests s k in
    subst IsOpen (sym (decided_job-other forests s k i (λ e. absurd (omega arith)))) (fit i (omega arith) (omega arith))

-- a decision as a step
step_by : ℕ → Verdict → Step
step_by k Applied = Edit k
step_by k NoEdge = Decline k NoEdge
step_by k Bounced = Decline k Bounced
step_by k Waiting = Decline k Waiting

stepped-by : (s : StripeView) (k : ℕ) (v : Verdict) → stepped s (step_by k v) ≡ with_decision s k v
unfolding step_by
stepped-by s k Applied = refl
stepped-by s k NoEdge = refl
stepped-by s k Bounced = refl
stepped-by s k Waiting = refl

can-step : (forests : List Forest) (s : StripeView) (k : ℕ) (v : Verdict) → k < length s.jobs → IsOpen (job_at s k) → v ≡ verdict_in forests s.rows (job_at s k).update
    → CanStep s (step_by k v)
unfolding step_by
can-step forests s k Applied lt fit is = can_edit forests s k lt fit (sym is)
can-step forests s k NoEdge lt fit is = can_decline forests s k NoEdge lt fit is (λ e. absurd (cc))
can-step forests s k Bounced lt fit is = can_decline forests s k Bounced lt fit is (λ e. absurd (cc))
can-step forests s k Waiting lt fit is = can_decline forests s k Waiting lt fit is (λ e. absurd (cc))

pub follows-decided : (forests : List Forest) (n k : ℕ) (s : StripeView) → n + k ≤ length s.jobs → AreOpenFrom s k → Follows s (decided_from forests n k s)
unfolding decided_from
follows-decided forests zero k s room fit = record { steps = []; can = tt; is = refl }
follows-decided forests (suc n) k s room fit =
    let v = verdict_in forests s.rows (job_at s k).update in
    let next : StripeView = decided_job forests s k in
    let size = length-decided_job forests s k in
    let rest = follows-decided forests n (suc k) next (omega arith) (fit-decided forests s k fit) in
    let here : stepped s (step_by k v) ≡ next = stepped-by s k v ∙ sym (decided_job-by forests s k v refl) in
    record {
      steps = step_by k v ∷ rest.steps;
      can = (can-step forests s k v (omega arith) (fit k (omega arith) (omega arith)) refl, subst (λ (x : StripeView). CanDo x rest.steps) (sym here) rest.can);
      is = rest.is ∙ ap (λ (x : StripeView). after_steps x rest.steps) (sym here);
    }
