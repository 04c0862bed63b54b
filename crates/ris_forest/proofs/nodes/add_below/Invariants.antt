use Rattle.std.proofs.Common.{◌-◌, ◌^◌}
use Rattle.ris_forest.specs.Cells.{forest_of}
use Rattle.ris_forest.specs.Linking.{cells_of}
use Rattle.ris_forest.proofs.SubtreeLemmas.{IsGrowing}
use Rattle.ris_forest.proofs.nodes.add_below.Given as goal

abbrev pub invariant-loop-at : goal.invariant-loop-at
invariant-loop-at l = IsGrowing (forest_of (cells_of l.nodes)) l.x l.at l.fn.found l.found

abbrev pub decreases-loop-at : goal.decreases-loop-at
decreases-loop-at l = 2 ^ 32 - l.at
