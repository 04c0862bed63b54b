use Rattle.std.proofs.Common.{◌≡◌, length}
use Rattle.ris_graph.specs.Ticks.{ticked}
use Rattle.ris_graph.proofs.ListedGraph.{vertices_below, triples_below}
use Rattle.ris_graph.proofs.graphs.Graph.plain.Given as goal

abbrev pub invariant-loop-x : goal.invariant-loop-x
invariant-loop-x g l = record {
  vertices : l.vertices ≡ vertices_below l.self l.x;
  triples : l.triples ≡ triples_below l.self l.x;
  ticks : g.M.Meter.ticks l.meter ≡ ticked (g.M.Meter.ticks l.fn.meter) (length l.triples);
}
