use Rattle.ris_txn.specs.Judging.{IsJudging}
use Rattle.ris_txn.proofs.judging.judged.Given as goal

abbrev pub invariant-loop-k : goal.invariant-loop-k
invariant-loop-k g l = IsJudging l.graph l.parts l.k l.overlay
