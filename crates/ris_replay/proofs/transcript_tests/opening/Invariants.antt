use Rattle.std.proofs.Common.{◌≡◌}
use Rattle.ris_base.specs.Lists.{numbers_below}
use Rattle.ris_replay.proofs.transcript_tests.opening.Given as goal

abbrev pub invariant-loop-x : goal.invariant-loop-x
invariant-loop-x l = l.vertices ≡ numbers_below l.x
