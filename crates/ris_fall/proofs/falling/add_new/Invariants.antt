use Rattle.std.proofs.Common.{ℕ, take, ◌↔◌, ◌⊎◌}
use Rattle.std.specs.List.{Contains}
use Rattle.ris_forest.specs.Cells.{forest_of}
use Rattle.ris_fall.specs.Gathering.{IsNew}
use Rattle.ris_fall.proofs.falling.add_new.Given as goal

abbrev pub invariant-loop-k : goal.invariant-loop-k
invariant-loop-k g l = (y : ℕ) → Contains l.found y ↔ (Contains l.initial.found y ⊎ IsNew (forest_of l.forest.cells) (take l.k l.added) y)
