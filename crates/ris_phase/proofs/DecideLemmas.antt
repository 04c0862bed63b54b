-- One job of a stripe is decided.
use denote.Enum.Bare.{sameb}
use Rattle.std.proofs.Common.{◌≡◌, ◌≢◌, ℕ, ◌<◌, ◌/◌, ◌==◌, ◌&&◌, if◌then◌else◌, ◌⊎◌, inl, inr, Bool, true, false, List, length, get_or, arith, refl, sym, ap, subst, ◌∙◌, get_or-set_other}
use Rattle.std.proofs.lemmas.Bool.{both_ways, eqb-false}
use Rattle.std.proofs.lemmas.List.{length-set}
use Rattle.ris_base.specs.Forest.{Forest}
use Rattle.ris_base.specs.Graph.{triple}
use Rattle.ris_base.specs.Machine.{verdict_by}
use Rattle.ris_base.specs.Safe.{is_used}
use Rattle.ris_base.specs.declared.events.Verdict.{Verdict}
use Rattle.ris_base.specs.contracts.events.Verdict.{the_type}
use Rattle.ris_base.specs.declared.events.Verdict.TheVariants.{Applied, Bounced, NoEdge, Waiting}
use Rattle.ris_base.specs.declared.updates.Update.{Update}
use Rattle.ris_base.specs.declared.updates.Update.TheVariants.{AddV, DelV, AddE, DelE, SetW}
use Rattle.ris_rows.specs.Neighbours.{copies_of}
use Rattle.ris_rows.specs.RowView.{RowView}
use Rattle.ris_graph.specs.GraphView.{row_at}
use Rattle.ris_graph.specs.StripeView.{CanDecline, CanEdit, HasCopy, StripeView, declined, job_at, no_job, with_verdict}
use Rattle.ris_phase.specs.Cells.{IsOpen, decided_job, verdict_in, with_decision}

-- Verdicts

-- which verdicts there are: an update is applied, and then has its copy to take, or gets one of the other two
abbrev pub IsVerdict : List RowView → Update → Verdict → Type 0
IsVerdict rows update v = ((v ≡ Applied) × HasCopy rows update) ⊎ (v ≡ NoEdge) ⊎ (v ≡ Bounced)

del-verdict : (rows : List RowView) (u v w : ℕ) (used : Bool) → IsVerdict rows (DelE u v w) (verdict_by used (copies_of (row_at rows (u / 64)).items v w))
del-verdict rows u v w used = go (copies_of (row_at rows (u / 64)).items v w == 0) ((copies_of (row_at rows (u / 64)).items v w == 1) && used) refl
  where
    go : (a b : Bool) → (copies_of (row_at rows (u / 64)).items v w == 0) ≡ a → IsVerdict rows (DelE u v w) (if a then NoEdge else (if b then Bounced else Applied))
    go true b e = inr (inl refl)
    go false true e = inr (inr refl)
    go false false e = inl (refl, let some = eqb-false (copies_of (row_at rows (u / 64)).items v w) 0 e in omega arith)

pub verdict_in-cases : (forests : List Forest) (rows : List RowView) (update : Update) → IsVerdict rows update (verdict_in forests rows update)
verdict_in-cases forests rows (AddV x) = inl (refl, tt)
verdict_in-cases forests rows (AddE u v w) = inl (refl, tt)
verdict_in-cases forests rows (DelE u v w) = del-verdict rows u v w (is_used forests (triple u v w))
verdict_in-cases forests rows (DelV x) = inr (inr refl)
verdict_in-cases forests rows (SetW u v w w2) = inr (inr refl)

-- what the comparison with `Applied` says
pub same-applied : (v : Verdict) → sameb the_type v Applied ≡ true → v ≡ Applied
same-applied Applied e = refl
same-applied NoEdge e = absurd (both_ways false refl e)
same-applied Bounced e = absurd (both_ways false refl e)
same-applied Waiting e = absurd (both_ways false refl e)

pub other-applied : (v : Verdict) → sameb the_type v Applied ≡ false → v ≢ Applied
other-applied v e same = both_ways (sameb the_type v Applied) e (ap (λ (x : Verdict). sameb the_type x Applied) same)

-- Stripes with one decision more

pub decided_job-by : (forests : List Forest) (s : StripeView) (k : ℕ) (v : Verdict) → v ≡ verdict_in forests s.rows (job_at s k).update
    → decided_job forests s k ≡ with_decision s k v
unfolding decided_job
decided_job-by forests s k v is = ap (with_decision s k) (sym is)

pub with_decision-declined : (s : StripeView) (k : ℕ) (v : Verdict) → v ≢ Applied → with_decision s k v ≡ declined s k v
with_decision-declined s k Applied other = absurd (other refl)
with_decision-declined s k NoEdge other = refl
with_decision-declined s k Bounced other = refl
with_decision-declined s k Waiting other = refl

pub with_decision-jobs : (s : StripeView) (k : ℕ) (v : Verdict) → (with_decision s k v).jobs ≡ with_verdict s k v
with_decision-jobs s k Applied = refl
with_decision-jobs s k NoEdge = refl
with_decision-jobs s k Bounced = refl
with_decision-jobs s k Waiting = refl

pub decided_job-jobs : (forests : List Forest) (s : StripeView) (k : ℕ) → (decided_job forests s k).jobs ≡ with_verdict s k (verdict_in forests s.rows (job_at s k).update)
unfolding decided_job
decided_job-jobs forests s k = with_decision-jobs s k (verdict_in forests s.rows (job_at s k).update)

pub length-decided_job : (forests : List Forest) (s : StripeView) (k : ℕ) → length (decided_job forests s k).jobs ≡ length s.jobs
length-decided_job forests s k =
    ap length (decided_job-jobs forests s k) ∙ length-set s.jobs k (record (job_at s k) { verdict = verdict_in forests s.rows (job_at s k).update })

-- all other jobs stay
pub decided_job-other : (forests : List Forest) (s : StripeView) (k i : ℕ) → i ≢ k → job_at (decided_job forests s k) i ≡ job_at s i
decided_job-other forests s k i other =
    ap (λ jobs. get_or jobs i no_job) (decided_job-jobs forests s k)
    ∙ get_or-set_other s.jobs k i (record (job_at s k) { verdict = verdict_in forests s.rows (job_at s k).update }) no_job other

-- what may be done

pub can_edit : (forests : List Forest) (s : StripeView) (k : ℕ) → k < length s.jobs → IsOpen (job_at s k) → verdict_in forests s.rows (job_at s k).update ≡ Applied → CanEdit s k
can_edit forests s k lt fit applied = record {
  within = lt;
  waiting = fit.waiting;
  copy = elim (verdict_in-cases forests s.rows (job_at s k).update) [
    | inl can ↦ can.1
    | inr other ↦ elim other [ inl refused ↦ absurd (let e = sym applied ∙ refused in cc) | inr bounced ↦ absurd (let e = sym applied ∙ bounced in cc) ]
  ];
}

pub can_decline : (forests : List Forest) (s : StripeView) (k : ℕ) (v : Verdict) → k < length s.jobs → IsOpen (job_at s k) → v ≡ verdict_in forests s.rows (job_at s k).update
    → v ≢ Applied → CanDecline s k v
can_decline forests s k v lt fit is other = record {
  within = lt;
  waiting = fit.waiting;
  declines = elim (verdict_in-cases forests s.rows (job_at s k).update) [ inl can ↦ absurd (other (is ∙ can.0)) | inr declines ↦ subst (λ (x : Verdict). (x ≡ NoEdge) ⊎ (x ≡ Bounced)) (sym is) declines ];
}
