use Rattle.std.proofs.Common.{◌≡◌, ℕ, ◌+◌, ◌<◌, ◌^◌, false, List, ◌++◌, length}
use Rattle.std.specs.List.{All}
use Rattle.std.specs.Option.{IsSome}
use Rattle.ris_base.specs.Limits.{vertex_limit}
use Rattle.ris_base.specs.declared.graphs.PlainGraph.{PlainGraph}
use Rattle.ris_forest.specs.Cells.{forest_of}
use Rattle.ris_graph.specs.Ticks.{IsRise}
use Rattle.ris_repair.specs.Changes.{is_number, with_change}
use Rattle.ris_repair.specs.Rows.{IsOrigin, pairs}
use Rattle.ris_repair.specs.Stages.{IsPrepared, unpulled}
use Rattle.ris_repair.specs.Stores.{change_at}
use Rattle.ris_repair.proofs.frontiers.Frontier.pull_row.Given as goal

abbrev pub invariant-loop-end : goal.invariant-loop-end
invariant-loop-end g l = record {
  weights : All (λ item. item.weight < 2 ^ 36) l.row;
  ticks : (m : ℕ) × (m + length l.row ≡ length l.initial.row) × IsRise (g.M.Meter.ticks l.initial.meter) (g.M.Meter.ticks l.meter) m;
  unchanged : is_number l.best.value ≡ false → l.best ≡ l.initial.best;
  kept : (p graph : PlainGraph) (fallen rest : List ℕ) (left queue : List (ℕ × ℕ)) → IsSome (change_at l.self.changes l.vertex)
      → All (IsOrigin graph (g.A.Monotone.spec l.forest.algo).kind l.forward l.vertex) l.initial.row
      → IsPrepared graph (g.A.Monotone.spec l.forest.algo) (forest_of l.forest.cells) vertex_limit fallen (with_change (change_at l.self.changes) l.vertex l.initial.best) queue (unpulled p l.vertex (pairs l.initial.row ++ left) rest)
      → All (IsOrigin graph (g.A.Monotone.spec l.forest.algo).kind l.forward l.vertex) l.row
      × ((after : List (ℕ × ℕ)) × IsPrepared graph (g.A.Monotone.spec l.forest.algo) (forest_of l.forest.cells) vertex_limit fallen (with_change (change_at l.self.changes) l.vertex l.best) after (unpulled p l.vertex (pairs l.row ++ left) rest));
}

abbrev pub decreases-loop-end : goal.decreases-loop-end
decreases-loop-end g l = length l.row
