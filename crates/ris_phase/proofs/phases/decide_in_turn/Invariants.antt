use Rattle.std.proofs.Common.{◌≡◌, length}
use Rattle.ris_phase.proofs.TurnLemmas.{IsDecidedTo}
use Rattle.ris_phase.proofs.phases.decide_in_turn.Given as goal

abbrev pub invariant-loop-k : goal.invariant-loop-k
invariant-loop-k g l = record {
  so : IsDecidedTo (g.J.Judge.forests l.judge) l.fn.loose l.loose l.k;
  end : l.k-end ≡ length l.fn.loose.jobs;
}
