use Rattle.std.proofs.Common.{◌≡◌, ◌==◌, ◌&&◌, ℕ, count_by, take}
use Rattle.ris_graph.specs.Nets.{comes}
use Rattle.ris_graph.specs.Tables.{end_of}
use Rattle.ris_graph.proofs.rooms.coming.Given as goal

abbrev pub invariant-loop-k : goal.invariant-loop-k
invariant-loop-k l = (x : ℕ) → count_by (λ y. y == x) l.ends.items ≡ count_by (λ t. (end_of l.out t == x) && comes t) (take l.k l.triples)
