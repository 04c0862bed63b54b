use Rattle.std.proofs.Common.{ℕ, List, drop}
use Rattle.ris_base.specs.Graph.{IsProper}
use Rattle.ris_base.specs.Limits.{vertex_limit}
use Rattle.ris_base.specs.declared.graphs.PlainGraph.{PlainGraph}
use Rattle.ris_forest.specs.Cells.{forest_of}
use Rattle.ris_repair.specs.Stages.{IsPrepared, AreAdded, unadded}
use Rattle.ris_repair.specs.Stores.{change_at}
use Rattle.ris_repair.proofs.frontiers.Frontier.add_all.Given as goal

abbrev pub invariant-loop-k : goal.invariant-loop-k
invariant-loop-k g l =
    (graph : PlainGraph) (fallen : List ℕ) → IsProper graph → AreAdded graph l.triples
    → IsPrepared graph (g.A.Monotone.spec l.forest.algo) (forest_of l.forest.cells) vertex_limit fallen (change_at l.initial.self.changes) l.initial.self.queue (unadded l.triples)
    → IsPrepared graph (g.A.Monotone.spec l.forest.algo) (forest_of l.forest.cells) vertex_limit fallen (change_at l.self.changes) l.self.queue (unadded (drop l.k l.triples))
