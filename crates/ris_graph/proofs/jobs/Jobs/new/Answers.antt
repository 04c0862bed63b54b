use Rattle.std.proofs.Common.{◌≡◌, ◌<◌, ◌∙◌, List, length, sym, ap, subst, arith}
use Rattle.ris_graph.specs.Jobs.{AreAscending, AreJobs, AreTold, by_stripe, no_jobs}
use Rattle.ris_graph.specs.declared.stripes.StripeJob.{StripeJob}
use Rattle.ris_graph.proofs.JobLemmas.{AreJobs-none, AreTold-none}
use Rattle.ris_graph.proofs.ListFacts.{AllPairs-nil}
use Rattle.ris_graph.proofs.ListedJobs.{by_stripe-nil}
use Rattle.ris_graph.proofs.jobs.Jobs.new.Goals as goal

pub invariant_of-result : goal.invariant_of-result
invariant_of-result c =
    let none : by_stripe c.in_ok-jobs.jobs.items ≡ no_jobs = ap by_stripe c.in_ok-jobs.ensures.items ∙ by_stripe-nil in
    let size : length c.in_ok-verdicts.verdicts.items ≡ 64 = omega (arith, c.in_ok-verdicts.ensures.len, c.in_ok-verdicts.verdicts.ok.0) in (
      subst AreJobs (sym none) AreJobs-none,
      subst (λ (js : List (List StripeJob)). AreTold js c.in_ok-verdicts.verdicts.items) (sym none) (AreTold-none c.in_ok-verdicts.verdicts.items size),
      subst AreAscending (sym c.in_ok-jobs.ensures.items) (AllPairs-nil (λ (i j : StripeJob). i.session < j.session)),
      c.in_ok-jobs.ensures.capacity,
    )

pub returns : goal.returns
returns c = ap by_stripe c.in_ok-jobs.ensures.items ∙ by_stripe-nil
