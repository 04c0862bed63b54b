use Rattle.std.proofs.Common.{◌≡◌, ◌≤◌, ◌==◌, ℕ, length, count_by, take}
use Rattle.ris_graph.specs.GraphView.{row_at}
use Rattle.ris_graph.specs.Tables.{IsRoomier}
use Rattle.ris_graph.proofs.rooms.reserve_ins.Given as goal

abbrev pub invariant-loop-k : goal.invariant-loop-k
invariant-loop-k g l = record {
  room : (v : ℕ) → count_by (λ y. y == v) (take l.k l.ends) ≤ (row_at l.ins v).spare;
  rows : (v : ℕ) → IsRoomier (row_at l.initial.ins v) (row_at l.ins v);
  places : length l.ins ≡ length l.initial.ins;
}
