use Rattle.std.proofs.Common.{take}
use Rattle.ris_base.specs.declared.graphs.PlainGraph.{PlainGraph}
use Rattle.ris_graph.specs.GraphView.{IsOf}
use Rattle.ris_graph.specs.Appending.{appended_all}
use Rattle.ris_graph.proofs.graphs.Graph.append_all.Given as goal

abbrev pub invariant-loop-t : goal.invariant-loop-t
invariant-loop-t g l = (p : PlainGraph) → IsOf l.initial.self p → IsOf l.self (appended_all p (take l.t-index l.triples))
