use Rattle.std.proofs.Common.{◌≡◌, ◌<◌, ◌+◌, ℕ, length, get_or, slice_set, refl, sym, subst, arith}
use Rattle.std.specs.List.{All}
use Rattle.std.proofs.lemmas.List.{get_or_read}
use Rattle.ris_graph.specs.Jobs.{stripe_of}
use Rattle.ris_graph.specs.StripeView.{StripeView, no_job, no_stripe}
use Rattle.ris_graph.specs.declared.stripes.StripeJob.{StripeJob}
use Rattle.ris_graph.proofs.JobLemmas.{stripe_of-lt}
use Rattle.ris_graph.proofs.UnloadLemmas.{AreTaken, AreTaken-start, AreTaken-step, all-idle, all-noted, sessions-now}
use Rattle.ris_graph.proofs.looses.unload.Goals as goal

pub loop-job-init : goal.loop-job-init
loop-job-init g c = AreTaken-start c.args.stripes.now.items c.args.jobs.now c.requires.jobs c.requires.whole c.args.verdicts.now.items c.requires.sessions

pub empty-requires : goal.empty-requires
empty-requires g c =
    let ss = c.loop-job.stripes.items in
    let m = stripe_of (get_or c.args.jobs.now c.loop-job.job-index no_job).update in
    let s = c.index_mut.result.now in
    let low = stripe_of-lt (get_or c.args.jobs.now c.loop-job.job-index no_job).update in
    let size = c.loop-job.invariant.size in
    let read = subst (λ k. s ≡ get_or ss k s) c.stripe_of.ensures c.index_mut.ensures.value in
    subst (λ (x : StripeView). All (λ (j : StripeJob). j.session < length c.loop-job.verdicts.items) x.jobs) (sym (get_or_read ss m s (omega arith) read no_stripe))
    (sessions-now c.args.stripes.now.items c.args.jobs.now c.requires.jobs c.requires.whole ss c.loop-job.verdicts.items c.loop-job.job-index c.loop-job.invariant m)

pub loop-job-preserved : goal.loop-job-preserved
loop-job-preserved g c =
    let ss = c.loop-job.stripes.items in
    let j = get_or c.args.jobs.now c.loop-job.job-index no_job in
    let s = c.index_mut.result.now in
    let new = c.empty.new.stripe in
    let told = c.empty.new.verdicts.items in
    let same = c.stripe_of.ensures in
    let read = subst (λ k. s ≡ get_or ss k s) c.stripe_of.ensures c.index_mut.ensures.value in
    subst (λ (k : ℕ). AreTaken c.args.stripes.now.items (slice_set ss k new) told c.args.jobs.now (c.loop-job.job-index + 1)) (sym same)
    (AreTaken-step c.args.stripes.now.items c.args.jobs.now c.requires.jobs c.requires.whole ss c.loop-job.verdicts.items c.loop-job.job-index c.loop-job.invariant
    j s new told read c.empty.ensures.stripe c.empty.ensures.verdicts refl)

pub returns-clause-idle : goal.returns-clause-idle
returns-clause-idle g c =
    let past = c.loop-job-test.false in
    let all = c.loop-job.auto.job-index-end in
    let same : c.loop-job.job-index ≡ length c.args.jobs.now = omega arith in
    all-idle c.args.stripes.now.items c.args.jobs.now c.requires.jobs c.requires.whole c.loop-job.stripes.items c.loop-job.verdicts.items
    (subst (AreTaken c.args.stripes.now.items c.loop-job.stripes.items c.loop-job.verdicts.items c.args.jobs.now) same c.loop-job.invariant) c.requires.places

pub returns-clause-told : goal.returns-clause-told
returns-clause-told g c =
    let past = c.loop-job-test.false in
    let all = c.loop-job.auto.job-index-end in
    let same : c.loop-job.job-index ≡ length c.args.jobs.now = omega arith in
    all-noted c.args.stripes.now.items c.args.jobs.now c.requires.jobs c.requires.whole c.loop-job.stripes.items c.loop-job.verdicts.items
    (subst (AreTaken c.args.stripes.now.items c.loop-job.stripes.items c.loop-job.verdicts.items c.args.jobs.now) same c.loop-job.invariant) c.requires.places
