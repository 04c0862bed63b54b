use Rattle.std.proofs.Common.{take}
use Rattle.ris_forest.specs.Cells.{forest_of}
use Rattle.ris_fall.specs.Gathering.{Gathers, HangsBelowGone}
use Rattle.ris_fall.proofs.falling.add_gone.Given as goal

abbrev pub invariant-loop-k : goal.invariant-loop-k
invariant-loop-k g l = Gathers (forest_of l.forest.cells) (HangsBelowGone (forest_of l.forest.cells) (take l.k l.triples)) l.initial.found l.found
