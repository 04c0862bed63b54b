use Rattle.std.proofs.Common.{◌≡◌, ◌==◌, drop}
use Rattle.std.specs.List.{list_any}
use Rattle.ris_base.specs.Graph.{has_vertex}
use Rattle.ris_core.proofs.graphs.has_vertex.Given as goal

abbrev pub invariant-loop-k : goal.invariant-loop-k
invariant-loop-k l = list_any (λ y. y == l.x) (drop l.k l.graph.vertices) ≡ has_vertex l.graph l.x
