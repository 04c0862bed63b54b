use Rattle.std.proofs.Common.{◌≡◌, ◌<◌, ◌≤◌, ◌∙◌, true, List, set, take, drop, sym, ap, subst, arith}
use Rattle.std.specs.List.{All}
use Rattle.std.specs.Result.{is_ok}
use Rattle.std.proofs.lemmas.List.{take-append-drop}
use Rattle.ris_base.specs.declared.events.Verdict.TheVariants.{Waiting}
use Rattle.ris_graph.specs.Jobs.{AreAscending, AreJobs, AreTold, HasSession, by_stripe, with_job, with_session}
use Rattle.ris_graph.specs.declared.stripes.StripeJob.{StripeJob}
use Rattle.ris_graph.proofs.JobLemmas.{AreTold-with_job}
use Rattle.ris_graph.proofs.ListedJobs.{IsAdded, added, with_session-between}
use Rattle.ris_graph.proofs.jobs.Jobs.add.Goals as goal
use Rattle.ris_graph.proofs.jobs.Jobs.add.Goals.{After-self-1}

pub place-at-requires : goal.place-at-requires
place-at-requires c = subst AreAscending (sym c.deref.ensures.value) c.self.invariant.2

-- what is added
adds : (c : After-self-1) → IsAdded c.self.inside.jobs.items (with_session c.self.inside.jobs.items (record { session = c.args.session; update = c.args.update; verdict = Waiting })) c.args.session c.args.update
adds c =
    added c.self.inside.jobs.items c.args.session c.args.update c.self.invariant.0 c.self.invariant.2 c.requires.session
    (subst (λ (l : List (List StripeJob)). ¬ (HasSession l c.args.session)) (sym c.self.view_is) c.requires.new) c.requires.kind c.requires.limits

-- where it comes
inserted : (c : After-self-1) → c.insert.new.self.items ≡ with_session c.self.inside.jobs.items (record { session = c.args.session; update = c.args.update; verdict = Waiting })
inserted c =
    let jobs = c.self.inside.jobs.items in
    let job : StripeJob = record { session = c.args.session; update = c.args.update; verdict = Waiting } in
    let at = c.place-at.result in
    let few = (adds c).few in
    let room = c.self.invariant.3 in
    let done : is_ok c.insert.result ≡ true = c.insert.ensures.succeeds (omega (arith, c.self.inside.jobs.ok.0)) in
    let same = c.deref.ensures.value in
    let low : All (λ j. j.session < c.args.session) (take at jobs) = subst (λ (l : List StripeJob). All (λ j. j.session < c.args.session) (take at l)) same c.place-at.ensures.lesser in
    let high : All (λ j. c.args.session ≤ j.session) (drop at jobs) = subst (λ (l : List StripeJob). All (λ j. c.args.session ≤ j.session) (drop at l)) same c.place-at.ensures.greater in
    (rw done at c.insert.ensures.items) ∙ sym (with_session-between (take at jobs) (drop at jobs) job low high) ∙ ap (λ (l : List StripeJob). with_session l job) (take-append-drop at jobs)

pub invariant_of-self : goal.invariant_of-self
invariant_of-self c =
    let s = c.args.session in
    let update = c.args.update in
    let verdicts = c.self.inside.verdicts.items in
    let all = adds c in
    let none = subst (λ (l : List (List StripeJob)). ¬ (HasSession l c.args.session)) (sym c.self.view_is) c.requires.new in
    let is : by_stripe c.insert.new.self.items ≡ with_job (by_stripe c.self.inside.jobs.items) s update = ap by_stripe (inserted c) ∙ all.is in
    let room = c.self.invariant.3 in
    let more = c.insert.ensures.capacity in (
      subst (λ (l : List StripeJob). AreJobs (by_stripe l)) (sym (inserted c)) all.are,
      subst (λ (js : List (List StripeJob)). AreTold js (set verdicts s Waiting)) (sym is)
          (AreTold-with_job (by_stripe c.self.inside.jobs.items) s update verdicts c.self.invariant.0.stripes c.requires.session none c.self.invariant.1),
      subst AreAscending (sym (inserted c)) all.ascending,
      omega (arith, room, more),
    )

pub returns : goal.returns
returns c = ap by_stripe (inserted c) ∙ (adds c).is ∙ ap (λ (js : List (List StripeJob)). with_job js c.args.session c.args.update) c.self.view_is
