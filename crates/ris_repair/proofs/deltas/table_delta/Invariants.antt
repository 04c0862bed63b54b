use Rattle.std.proofs.Common.{None, get_or}
use Rattle.ris_forest.specs.Cells.{forest_of}
use Rattle.ris_repair.proofs.ListedLemmas.{AreListed}
use Rattle.ris_repair.proofs.deltas.table_delta.Given as goal

abbrev pub invariant-loop-vertex : goal.invariant-loop-vertex
invariant-loop-vertex g l = AreListed (forest_of l.forest.cells) (λ x. get_or l.changes x None) l.vertex l.delta
