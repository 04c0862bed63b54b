use Rattle.std.proofs.Common.{◌≡◌, ◌+◌, ◌-◌, suc, zero, ◌∙◌, ap, sym, subst, length, arith}
use Rattle.ris_graph.specs.StripeView.{StripeView, no_job}
use Rattle.ris_phase.specs.Cells.{decided_from, decided_job}
use Rattle.ris_phase.proofs.DecideLemmas.{length-decided_job}
use Rattle.ris_phase.proofs.FollowLemmas.{AreOpenFrom, fit-decided}
use Rattle.ris_phase.proofs.phases.decide_all.Goals as goal

pub loop-k-init : goal.loop-k-init
loop-k-init g c =
    let size = c.jobs-k-end.ensures in
    record {
      rest = ap (λ n. decided_from (g.J.Judge.forests c.args.judge.now) n 0 c.args.stripe.now) (let e : c.jobs-k-end.result - 0 ≡ length c.args.stripe.now.jobs = omega arith in e);
      fit = λ i low lt. c.requires i no_job lt;
      size = sym size;
    }

pub loop-k-preserved : goal.loop-k-preserved
unfolding decided_from
loop-k-preserved g c =
    let forests = g.J.Judge.forests c.args.judge.now in
    let s = c.loop-k.stripe in
    let k = c.loop-k.k in
    let same = c.decide.ensures in
    let left : c.jobs-k-end.result - k ≡ suc (c.jobs-k-end.result - (k + 1)) = omega arith in
    let next : k + 1 ≡ suc k = omega arith in
    record {
      rest = ap (decided_from forests (c.jobs-k-end.result - (k + 1)) (k + 1)) same
          ∙ ap (λ n. decided_from forests (c.jobs-k-end.result - (k + 1)) n (decided_job forests s k)) next
          ∙ ap (λ n. decided_from forests n k s) (sym left) ∙ c.loop-k.invariant.rest;
      fit = subst (λ n. AreOpenFrom c.decide.new.stripe n) (sym next) (subst (λ (x : StripeView). AreOpenFrom x (suc k)) (sym same) (fit-decided forests s k c.loop-k.invariant.fit));
      size = ap (λ (x : StripeView). length x.jobs) same ∙ length-decided_job forests s k ∙ c.loop-k.invariant.size;
    }

pub returns : goal.returns
unfolding decided_from
returns g c =
    let forests = g.J.Judge.forests c.args.judge.now in
    let none : c.jobs-k-end.result - c.loop-k.k ≡ zero = omega arith in
    ap (λ n. decided_from forests n c.loop-k.k c.loop-k.stripe) (sym none) ∙ c.loop-k.invariant.rest
