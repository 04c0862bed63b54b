use Rattle.std.proofs.Common.{◌≡◌, ◌+◌, ◌≤◌, drop}
use Rattle.std.specs.List.{count_by}
use Rattle.ris_base.specs.Graph.{copies, is_equal, triple}
use Rattle.ris_core.proofs.graphs.copies.Given as goal

abbrev pub invariant-loop-k : goal.invariant-loop-k
invariant-loop-k l = (l.count + count_by (is_equal (triple l.u l.v l.w)) (drop l.k l.graph.triples) ≡ copies l.graph (triple l.u l.v l.w)) × (l.count ≤ l.k)
