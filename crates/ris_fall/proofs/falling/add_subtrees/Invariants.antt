use Rattle.std.proofs.Common.{take}
use Rattle.ris_forest.specs.Cells.{forest_of}
use Rattle.ris_fall.specs.Gathering.{Gathers, HangsBelowOne}
use Rattle.ris_fall.proofs.falling.add_subtrees.Given as goal

abbrev pub invariant-loop-k : goal.invariant-loop-k
invariant-loop-k g l = Gathers (forest_of l.forest.cells) (HangsBelowOne (forest_of l.forest.cells) (take l.k l.vertices)) l.initial.found l.found
