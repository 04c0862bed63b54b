use Rattle.std.proofs.Common.{take}
use Rattle.ris_graph.specs.GraphView.{IsOf}
use Rattle.ris_graph.specs.Tiles.{tiled}
use Rattle.ris_graph.proofs.StartLemmas.{based}
use Rattle.ris_graph.proofs.graphs.Graph.start.Given as goal

abbrev pub invariant-loop-tile : goal.invariant-loop-tile
invariant-loop-tile g l = IsOf l.graph (based l.fn.format l.vertices (tiled (take l.tile-index l.tile-items)))
