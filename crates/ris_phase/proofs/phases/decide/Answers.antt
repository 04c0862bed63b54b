use Rattle.std.proofs.Common.{◌≡◌, ◌∙◌, ap, sym}
use Rattle.std.proofs.lemmas.Option.{get_or_from_slice_get}
use Rattle.ris_base.specs.declared.events.Verdict.{Verdict}
use Rattle.ris_graph.specs.StripeView.{job_at, no_job}
use Rattle.ris_graph.specs.declared.stripes.StripeJob.{StripeJob}
use Rattle.ris_phase.specs.Cells.{verdict_in, with_decision}
use Rattle.ris_phase.proofs.DecideLemmas.{decided_job-by, other-applied, same-applied, with_decision-declined}
use Rattle.ris_phase.proofs.phases.decide.Goals as goal

pub returns-then-eq : goal.returns-then-eq
returns-then-eq g c =
    let forests = g.J.Judge.forests c.args.judge.now in
    let s = c.args.stripe.now in
    let k = c.args.k in
    let at = get_or_from_slice_get s.jobs k _ no_job c.job-update.ensures in
    let v : c.verdict_on-verdict.result ≡ verdict_in forests s.rows (job_at s k).update =
    c.verdict_on-verdict.ensures ∙ ap (λ (j : StripeJob). verdict_in forests s.rows j.update) (sym at) in
    let applied = same-applied c.verdict_on-verdict.result (sym c.eq.ensures ∙ c.if-eq.true) in
    c.edit.ensures ∙ ap (λ (x : Verdict). with_decision s k x) (sym applied) ∙ sym (decided_job-by forests s k c.verdict_on-verdict.result v)

pub returns-else-eq : goal.returns-else-eq
returns-else-eq g c =
    let forests = g.J.Judge.forests c.args.judge.now in
    let s = c.args.stripe.now in
    let k = c.args.k in
    let at = get_or_from_slice_get s.jobs k _ no_job c.job-update.ensures in
    let v : c.verdict_on-verdict.result ≡ verdict_in forests s.rows (job_at s k).update =
    c.verdict_on-verdict.ensures ∙ ap (λ (j : StripeJob). verdict_in forests s.rows j.update) (sym at) in
    let other = other-applied c.verdict_on-verdict.result (sym c.eq.ensures ∙ c.if-eq.false) in
    c.decline.ensures ∙ sym (with_decision-declined s k c.verdict_on-verdict.result other) ∙ sym (decided_job-by forests s k c.verdict_on-verdict.result v)
