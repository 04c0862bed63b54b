use Rattle.std.proofs.Common.{◌≡◌, length, take}
use Rattle.ris_base.specs.Value.{number_bound}
use Rattle.ris_four.specs.Rounds.{AreFirst}
use Rattle.ris_four.proofs.tables.first_values.Given as goal

abbrev pub invariant-loop-x : goal.invariant-loop-x
invariant-loop-x g l =
    (length l.values.items ≡ number_bound l.vertices)
    × AreFirst (g.A.Monotone.start_of l.algo) (take l.x-index l.vertices) l.values.items
