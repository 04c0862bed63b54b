use Rattle.std.proofs.Common.{◌≡◌, take}
use Rattle.ris_base.specs.Value.{number_bound}
use Rattle.ris_four.proofs.tables.number_count.Given as goal

abbrev pub invariant-loop-x : goal.invariant-loop-x
invariant-loop-x l = l.count ≡ number_bound (take l.x-index l.vertices)
