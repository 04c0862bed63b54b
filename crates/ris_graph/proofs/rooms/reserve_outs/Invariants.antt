use Rattle.std.proofs.Common.{◌≡◌, ◌≤◌, ◌==◌, ℕ, length, count_by, take}
use Rattle.ris_graph.specs.Tables.{row_of, HasRow, IsRoomier}
use Rattle.ris_graph.proofs.rooms.reserve_outs.Given as goal

abbrev pub invariant-loop-k : goal.invariant-loop-k
invariant-loop-k g l = record {
  room : (u : ℕ) → count_by (λ y. y == u) (take l.k l.ends) ≤ (row_of l.outs u).spare;
  rows : (u : ℕ) → IsRoomier (row_of l.initial.outs u) (row_of l.outs u);
  stripes : length l.outs ≡ length l.initial.outs;
  has_rows : (u : ℕ) → HasRow l.initial.outs u → HasRow l.outs u;
}
