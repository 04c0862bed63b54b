use Rattle.std.proofs.Common.{◌≡◌, map, take}
use Rattle.ris_base.specs.Forest.{forest_in}
use Rattle.ris_core.proofs.tables.are_same_forests.Given as goal

abbrev pub invariant-loop-k : goal.invariant-loop-k
invariant-loop-k l = map forest_in (take l.k l.a) ≡ map forest_in (take l.k l.b)
