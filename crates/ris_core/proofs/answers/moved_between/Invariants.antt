use Rattle.std.proofs.Common.{◌≡◌}
use Rattle.ris_core.specs.Answered.{moved_below}
use Rattle.ris_core.proofs.answers.moved_between.Given as goal

abbrev pub invariant-loop-x : goal.invariant-loop-x
invariant-loop-x l = l.vertices ≡ moved_below l.before l.now l.x
