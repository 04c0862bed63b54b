use Rattle.std.proofs.Common.{◌≡◌, ◌≤◌, ℕ, length}
use Rattle.ris_graph.specs.GraphView.{row_at}
use Rattle.ris_graph.proofs.tables.RowTable.grow.Given as goal

abbrev pub invariant-loop : goal.invariant-loop
invariant-loop g l = record {
  rows : (k : ℕ) → row_at l.self-inside.rows.items k ≡ row_at l.fn.self k;
  longer : length l.fn.self ≤ length l.self-inside.rows.items;
  filled : l.counter ≤ length l.self-inside.rows.items;
}
