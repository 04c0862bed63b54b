use Rattle.std.proofs.Common.{◌≡◌, ℕ, ◌+◌, ◌<◌, ◌^◌, List, ◌++◌, length}
use Rattle.std.specs.List.{All}
use Rattle.ris_base.specs.Limits.{vertex_limit}
use Rattle.ris_base.specs.declared.graphs.PlainGraph.{PlainGraph}
use Rattle.ris_forest.specs.Cells.{forest_of}
use Rattle.ris_graph.specs.Ticks.{IsRise}
use Rattle.ris_repair.specs.Changes.{KeepsSettled}
use Rattle.ris_repair.specs.Rows.{IsEnd, pairs}
use Rattle.ris_repair.specs.Stages.{PushesOn}
use Rattle.ris_repair.specs.Stores.{change_at}
use Rattle.ris_repair.proofs.frontiers.Frontier.push_row.Given as goal

abbrev pub invariant-loop-end : goal.invariant-loop-end
invariant-loop-end g l = record {
  settled : KeepsSettled (change_at l.initial.self.changes) (change_at l.self.changes);
  weights : All (λ item. item.weight < 2 ^ 36) l.row;
  ticks : (m : ℕ) × (m + length l.row ≡ length l.initial.row) × IsRise (g.M.Meter.ticks l.initial.meter) (g.M.Meter.ticks l.meter) m;
  kept : (graph : PlainGraph) (fallen : List ℕ) (left : List (ℕ × ℕ)) → All (IsEnd graph (g.A.Monotone.spec l.forest.algo).kind l.forward l.vertex) l.initial.row
      → PushesOn graph (g.A.Monotone.spec l.forest.algo) (forest_of l.forest.cells) vertex_limit fallen (change_at l.initial.self.changes) l.initial.self.queue l.vertex l.number (pairs l.initial.row ++ left)
      → All (IsEnd graph (g.A.Monotone.spec l.forest.algo).kind l.forward l.vertex) l.row
      × PushesOn graph (g.A.Monotone.spec l.forest.algo) (forest_of l.forest.cells) vertex_limit fallen (change_at l.self.changes) l.self.queue l.vertex l.number (pairs l.row ++ left);
}

abbrev pub decreases-loop-end : goal.decreases-loop-end
decreases-loop-end g l = length l.row
