use Rattle.std.proofs.Common.{◌≡◌, ℕ, false, ◌==◌, if◌then◌else◌, length, get_or, take}
use Rattle.std.specs.List.{list_any}
use Rattle.ris_graph.proofs.commits.mark.Given as goal

abbrev pub invariant-loop-k : goal.invariant-loop-k
invariant-loop-k l = record {
  places : length l.present.items ≡ length l.initial.present.items;
  marked : (x : ℕ) → get_or l.present.items x false ≡ (if list_any (λ y. y == x) (take l.k l.vertices) then l.there else get_or l.initial.present.items x false);
}
