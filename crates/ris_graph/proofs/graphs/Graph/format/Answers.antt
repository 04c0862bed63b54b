use Rattle.std.proofs.Common.{subst}
use Rattle.ris_base.specs.declared.graphs.PlainGraph.{PlainGraph}
use Rattle.ris_graph.specs.GraphView.{GraphView, IsOf}
use Rattle.ris_graph.proofs.ListedGraph.{IsOf-listed, listed}
use Rattle.ris_graph.proofs.graphs.Graph.format.Goals as goal

pub returns-clause-of : goal.returns-clause-of
returns-clause-of g c =
    let now : GraphView = record { format = c.self.inside.format; stripes = c.self.inside.outs; ins = c.self.inside.ins; present = c.self.inside.present.items } in
    subst (λ (v : GraphView). (p : PlainGraph) × IsOf v p) c.self.view_is (listed now, IsOf-listed now c.self.invariant)
