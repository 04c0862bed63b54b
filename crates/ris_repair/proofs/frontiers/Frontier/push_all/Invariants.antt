use Rattle.std.proofs.Common.{ℕ, List}
use Rattle.ris_base.specs.Falling.{push}
use Rattle.ris_base.specs.Limits.{vertex_limit}
use Rattle.ris_base.specs.declared.graphs.PlainGraph.{PlainGraph}
use Rattle.ris_algo.specs.Spreading.{nothing}
use Rattle.ris_algo.proofs.Covered.{sum_where, failing}
use Rattle.ris_forest.specs.Cells.{forest_of}
use Rattle.ris_graph.specs.GraphView.{IsOf}
use Rattle.ris_graph.specs.Ticks.{IsRise}
use Rattle.ris_repair.specs.Changes.{AreQueued, is_settled}
use Rattle.ris_repair.specs.Stages.{IsPushing}
use Rattle.ris_repair.specs.Stores.{change_at}
use Rattle.ris_repair.proofs.frontiers.Frontier.push_all.Given as goal

abbrev pub invariant-loop-vertex : goal.invariant-loop-vertex
invariant-loop-vertex g l = record {
  queued : AreQueued (g.A.Monotone.spec l.forest.algo).kind (change_at l.self.changes) l.self.queue;
  kept : (graph : PlainGraph) (fallen : List ℕ) → IsOf l.graph graph
      → IsPushing graph (g.A.Monotone.spec l.forest.algo) (forest_of l.forest.cells) vertex_limit fallen (change_at l.initial.self.changes) l.initial.self.queue nothing
      → IsPushing graph (g.A.Monotone.spec l.forest.algo) (forest_of l.forest.cells) vertex_limit fallen (change_at l.self.changes) l.self.queue nothing
      × IsRise (g.M.Meter.ticks l.initial.meter) (g.M.Meter.ticks l.meter)
      (sum_where (λ x. is_settled (change_at l.self.changes x)) (push graph (g.A.Monotone.spec l.forest.algo)) vertex_limit);
}

abbrev pub decreases-loop-vertex : goal.decreases-loop-vertex
decreases-loop-vertex g l = failing (λ x. is_settled (change_at l.self.changes x)) vertex_limit
