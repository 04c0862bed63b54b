use Rattle.std.proofs.Common.{ℕ, List, [], take, drop}
use Rattle.std.specs.List.{Contains, sum_by}
use Rattle.std.specs.Option.{IsSome}
use Rattle.ris_base.specs.Limits.{vertex_limit}
use Rattle.ris_base.specs.declared.graphs.PlainGraph.{PlainGraph}
use Rattle.ris_forest.specs.Cells.{forest_of}
use Rattle.ris_graph.specs.GraphView.{IsOf}
use Rattle.ris_graph.specs.Ticks.{IsRise}
use Rattle.ris_repair.specs.Changes.{AreQueuedBut}
use Rattle.ris_repair.specs.Rows.{origin_count}
use Rattle.ris_repair.specs.Stages.{IsPrepared, unpulled}
use Rattle.ris_repair.specs.Stores.{change_at}
use Rattle.ris_repair.proofs.frontiers.Frontier.pull_all.Given as goal

abbrev pub invariant-loop-k : goal.invariant-loop-k
invariant-loop-k g l = record {
  ticks : IsRise (g.M.Meter.ticks l.initial.meter) (g.M.Meter.ticks l.meter) (sum_by (origin_count g.A.Monotone.BOTH_WAYS l.graph) (take l.k l.fallen));
  stays : (x : ℕ) → IsSome (change_at l.initial.self.changes x) → IsSome (change_at l.self.changes x);
  queued : AreQueuedBut (g.A.Monotone.spec l.forest.algo).kind l.fallen (change_at l.initial.self.changes) l.initial.self.queue
      → AreQueuedBut (g.A.Monotone.spec l.forest.algo).kind (drop l.k l.fallen) (change_at l.self.changes) l.self.queue;
  kept : (p graph : PlainGraph) (due : List ℕ) (queue : List (ℕ × ℕ)) → IsOf l.graph graph → ((x : ℕ) → Contains l.fallen x → IsSome (change_at l.initial.self.changes x))
      → IsPrepared graph (g.A.Monotone.spec l.forest.algo) (forest_of l.forest.cells) vertex_limit due (change_at l.initial.self.changes) queue (unpulled p 0 [] l.fallen)
      → (after : List (ℕ × ℕ)) × IsPrepared graph (g.A.Monotone.spec l.forest.algo) (forest_of l.forest.cells) vertex_limit due (change_at l.self.changes) after (unpulled p 0 [] (drop l.k l.fallen));
}
