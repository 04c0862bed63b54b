use Rattle.std.proofs.Common.{◌-◌, ◌^◌}
use Rattle.ris_forest.specs.Cells.{forest_of}
use Rattle.ris_forest.specs.Linking.{cells_of}
use Rattle.ris_forest.proofs.WalkLemmas.{IsWalked}
use Rattle.ris_forest.proofs.nodes.below.Given as goal

abbrev pub invariant-loop-at : goal.invariant-loop-at
invariant-loop-at l = IsWalked (forest_of (cells_of l.nodes)) l.x l.at l.found.items

abbrev pub decreases-loop-at : goal.decreases-loop-at
decreases-loop-at l = 2 ^ 32 - l.at
