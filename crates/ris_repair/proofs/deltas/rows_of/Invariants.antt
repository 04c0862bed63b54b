use Rattle.std.proofs.Common.{◌≡◌, ◌++◌, nat_eq}
use Rattle.std.specs.HashMap.{get, keys}
use Rattle.std.specs.List.{All}
use Rattle.std.specs.Map.{keys_of}
use Rattle.ris_forest.specs.Cells.{forest_of}
use Rattle.ris_repair.specs.Stages.{IsRowOf}
use Rattle.ris_repair.proofs.SortLemmas.{vertices_of}
use Rattle.ris_repair.proofs.deltas.rows_of.Given as goal

abbrev pub invariant-loop-vertex : goal.invariant-loop-vertex
invariant-loop-vertex g l = record {
  each : All (IsRowOf (forest_of l.forest.cells) (get nat_eq l.changes)) l.rows.items;
  keys : vertices_of l.rows.items ++ keys_of l.vertex-iterator ≡ keys l.changes;
}
