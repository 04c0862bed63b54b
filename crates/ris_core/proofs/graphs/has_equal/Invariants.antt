use Rattle.std.proofs.Common.{◌≡◌, drop}
use Rattle.std.specs.List.{list_any}
use Rattle.ris_base.specs.Graph.{has_equal, is_equal}
use Rattle.ris_core.proofs.graphs.has_equal.Given as goal

abbrev pub invariant-loop-k : goal.invariant-loop-k
invariant-loop-k l = list_any (is_equal l.t) (drop l.k l.graph.triples) ≡ has_equal l.graph l.t
