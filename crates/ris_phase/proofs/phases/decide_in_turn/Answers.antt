use Rattle.std.proofs.Common.{◌≡◌, ◌+◌, ◌∙◌, IsTrue, List, length, get_or, set, sym, ap, subst, arith}
use Rattle.std.specs.List.{refill}
use Rattle.std.proofs.lemmas.List.{get_or_default, length-set}
use Rattle.ris_graph.specs.Jobs.{stripe_of}
use Rattle.ris_graph.specs.Phase.{LooseView, stripe_at}
use Rattle.ris_graph.specs.StripeView.{StripeView, no_job, no_stripe}
use Rattle.ris_graph.specs.declared.stripes.StripeJob.{StripeJob}
use Rattle.ris_graph.proofs.JobLemmas.{stripe_of-lt}
use Rattle.ris_phase.specs.Cells.{IsUndecided, phased_once, waits_first}
use Rattle.ris_phase.proofs.TurnLemmas.{IsDecidedTo, IsDecidedTo-all, IsDecidedTo-start, IsDecidedTo-step, place_of, refill-whole, undecided-now}
use Rattle.ris_phase.proofs.phases.decide_in_turn.Goals as goal

pub loop-k-init : goal.loop-k-init
loop-k-init g c = record { so = IsDecidedTo-start (g.J.Judge.forests c.args.judge.now) c.args.loose.now c.requires; end = c.jobs-k-end.ensures }

pub decide_once-requires : goal.decide_once-requires
decide_once-requires g c =
    let old = c.args.loose.now in
    let now = c.loop-k.loose in
    let k = c.loop-k.k in
    let so = c.loop-k.invariant.so in
    let d = c.index-stripes_mut-m.result in
    let m = c.stripe_of_job-m.result in
    let low = stripe_of-lt (get_or old.jobs k no_job).update in
    let size = so.size in
    let place : c.stripe_of_job-m.result ≡ place_of c.args.loose.now c.loop-k.k
    = c.stripe_of_job-m.ensures ∙ ap (λ (jobs : List StripeJob). stripe_of (get_or jobs k no_job).update) (ap (λ (x : LooseView). x.jobs) so.rest) in
    let read : get_or c.stripes_mut.result.now m d ≡ stripe_at now (place_of old k)
    = ap (λ (ss : List StripeView). get_or ss m d) c.stripes_mut.ensures.value ∙ ap (λ i. get_or now.stripes i d) place
    ∙ get_or_default now.stripes (place_of old k) d no_stripe (omega arith) in
    subst (λ (s : StripeView). IsTrue (waits_first s.jobs) → IsUndecided s) (sym read)
    (undecided-now (g.J.Judge.forests c.args.judge.now) old c.requires now k so (place_of old k) low)

pub loop-k-preserved : goal.loop-k-preserved
loop-k-preserved g c =
    let forests = g.J.Judge.forests c.args.judge.now in
    let old = c.args.loose.now in
    let now = c.loop-k.loose in
    let k = c.loop-k.k in
    let so = c.loop-k.invariant.so in
    let d = c.index-stripes_mut-m.result in
    let m = c.stripe_of_job-m.result in
    let new = c.decide_once.new.stripe in
    let low = stripe_of-lt (get_or old.jobs k no_job).update in
    let size = so.size in
    let place : c.stripe_of_job-m.result ≡ place_of c.args.loose.now c.loop-k.k
    = c.stripe_of_job-m.ensures ∙ ap (λ (jobs : List StripeJob). stripe_of (get_or jobs k no_job).update) (ap (λ (x : LooseView). x.jobs) so.rest) in
    let read : get_or c.stripes_mut.result.now m d ≡ stripe_at now (place_of old k)
    = ap (λ (ss : List StripeView). get_or ss m d) c.stripes_mut.ensures.value ∙ ap (λ i. get_or now.stripes i d) place
    ∙ get_or_default now.stripes (place_of old k) d no_stripe (omega arith) in
    let written : refill (length now.stripes) now.stripes (set c.stripes_mut.result.now m new) ≡ set now.stripes (place_of old k) new
    = refill-whole now.stripes (set c.stripes_mut.result.now m new) (length-set c.stripes_mut.result.now m new ∙ ap length c.stripes_mut.ensures.value)
    ∙ ap (λ (ss : List StripeView). set ss m new) c.stripes_mut.ensures.value ∙ ap (λ i. set now.stripes i new) place in
    record {
      so = subst (λ (ss : List StripeView). IsDecidedTo forests old (record now { stripes = ss }) (k + 1)) (sym written)
          (IsDecidedTo-step forests old c.requires now k so new (c.decide_once.ensures ∙ ap (phased_once forests) read));
      end = c.loop-k.invariant.end;
    }

pub returns : goal.returns
returns g c =
    let past = c.loop-k-test.false in
    let all = c.loop-k.auto.k-end in
    let end = c.loop-k.invariant.end in
    let same : c.loop-k.k ≡ length c.args.loose.now.jobs = omega arith in
    IsDecidedTo-all (g.J.Judge.forests c.args.judge.now) c.args.loose.now c.requires c.loop-k.loose
    (subst (IsDecidedTo (g.J.Judge.forests c.args.judge.now) c.args.loose.now c.loop-k.loose) same c.loop-k.invariant.so)
