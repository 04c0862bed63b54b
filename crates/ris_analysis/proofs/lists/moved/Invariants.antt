use Rattle.std.proofs.Common.{◌≡◌, take}
use Rattle.ris_analysis.specs.Repairing.{moved_in}
use Rattle.ris_analysis.proofs.lists.moved.Given as goal

abbrev pub invariant-loop-k : goal.invariant-loop-k
invariant-loop-k l = l.vertices ≡ moved_in (take l.k l.delta)
