use Rattle.ris_replay.proofs.LineupFacts.{IsFilled}
use Rattle.ris_replay.proofs.lineups.fill.Given as goal

abbrev pub invariant-loop-n : goal.invariant-loop-n
invariant-loop-n l = IsFilled l.n l.fn.queues.items l.queues.items l.batch
