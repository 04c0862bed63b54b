use Rattle.std.proofs.Common.{◌≡◌, ◌-◌, length}
use Rattle.ris_phase.specs.Cells.{decided_from, phased}
use Rattle.ris_phase.proofs.FollowLemmas.{AreOpenFrom}
use Rattle.ris_phase.proofs.phases.decide_all.Given as goal

abbrev pub invariant-loop-k : goal.invariant-loop-k
invariant-loop-k g l = record {
  rest : decided_from (g.J.Judge.forests l.judge) (l.k-end - l.k) l.k l.stripe ≡ phased (g.J.Judge.forests l.judge) l.fn.stripe;
  fit : AreOpenFrom l.stripe l.k;
  size : length l.stripe.jobs ≡ l.k-end;
}
