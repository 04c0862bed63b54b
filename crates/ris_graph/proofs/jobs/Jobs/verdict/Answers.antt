use Rattle.std.proofs.Common.{◌<◌, ◌∙◌, List, length, get_or, sym, ap, subst, arith}
use Rattle.std.proofs.lemmas.List.{get_or_read}
use Rattle.ris_base.specs.declared.events.Verdict.TheVariants.{Waiting}
use Rattle.ris_graph.specs.Jobs.{HasSession, IsJob, by_stripe}
use Rattle.ris_graph.specs.declared.stripes.StripeJob.{StripeJob}
use Rattle.ris_graph.proofs.JobLemmas.{session-lt, told-job}
use Rattle.ris_graph.proofs.jobs.Jobs.verdict.Goals as goal

pub index-requires : goal.index-requires
index-requires c =
    let has = subst (λ (l : List (List StripeJob)). HasSession l c.args.session) (sym c.self.view_is) c.requires in
    let low = session-lt (by_stripe c.self.inside.jobs.items) c.args.session c.self.invariant.0 has in
    let size = c.self.invariant.1.sessions in
    omega (arith, c.self.inside.verdicts.ok.0)

pub returns : goal.returns
returns c job is same =
    let js = by_stripe c.self.inside.jobs.items in
    let has = subst (λ (l : List (List StripeJob)). HasSession l c.args.session) (sym c.self.view_is) c.requires in
    let low = session-lt js c.args.session c.self.invariant.0 has in
    let size = c.self.invariant.1.sessions in
    let lt : c.args.session < length c.self.inside.verdicts.items = omega arith in
    get_or_read c.self.inside.verdicts.items c.args.session c.index.result.now lt c.index.ensures Waiting
    ∙ ap (λ i. get_or c.self.inside.verdicts.items i Waiting) (sym same)
    ∙ told-job js c.self.inside.verdicts.items job c.self.invariant.1 (subst (λ (l : List (List StripeJob)). IsJob l job) (sym c.self.view_is) is)
