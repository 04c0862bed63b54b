use Rattle.std.proofs.Common.{◌≡◌, ◌<◌, ◌∙◌, List, sym, ap, subst, arith}
use Rattle.ris_graph.specs.Jobs.{AreAscending, AreJobs, AreTold, by_stripe, no_jobs}
use Rattle.ris_graph.specs.declared.stripes.StripeJob.{StripeJob}
use Rattle.ris_graph.proofs.JobLemmas.{AreJobs-none, AreTold-none}
use Rattle.ris_graph.proofs.ListFacts.{AllPairs-nil}
use Rattle.ris_graph.proofs.ListedJobs.{by_stripe-nil}
use Rattle.ris_graph.proofs.jobs.Jobs.clear.Goals as goal

pub invariant_of-self : goal.invariant_of-self
invariant_of-self c =
    let none : by_stripe c.clear.new.self.items ≡ no_jobs = ap by_stripe c.clear.ensures.items ∙ by_stripe-nil in
    let room = c.self.invariant.3 in
    let same = c.clear.ensures.capacity in (
      subst AreJobs (sym none) AreJobs-none,
      subst (λ (js : List (List StripeJob)). AreTold js c.self.inside.verdicts.items) (sym none) (AreTold-none c.self.inside.verdicts.items c.self.invariant.1.sessions),
      subst AreAscending (sym c.clear.ensures.items) (AllPairs-nil (λ (i j : StripeJob). i.session < j.session)),
      omega arith,
    )

pub returns : goal.returns
returns c = ap by_stripe c.clear.ensures.items ∙ by_stripe-nil
