use Rattle.std.proofs.Common.{◌≡◌, ◌++◌, drop}
use Rattle.std.specs.List.{All}
use Rattle.std.specs.Map.{keys_of}
use Rattle.ris_forest.specs.Cells.{forest_of}
use Rattle.ris_repair.specs.Fews.{change_in}
use Rattle.ris_repair.specs.Stages.{IsRowOf}
use Rattle.ris_repair.proofs.SortLemmas.{vertices_of}
use Rattle.ris_repair.proofs.deltas.few_rows.Given as goal

abbrev pub invariant-loop-number : goal.invariant-loop-number
invariant-loop-number g l = record {
  each : All (IsRowOf (forest_of l.forest.cells) (change_in l.changes)) l.rows.items;
  keys : vertices_of l.rows.items ++ keys_of (drop l.number l.changes) ≡ keys_of l.changes;
}
