use Rattle.std.proofs.Common.{ℕ, ◌<◌, slice_index}
use Rattle.std.specs.List.{Contains}
use Rattle.ris_forest.specs.Growing.{IsWithin}
use Rattle.ris_forest.proofs.subtrees.fill.Given as goal

abbrev pub invariant-loop-x : goal.invariant-loop-x
invariant-loop-x l = record {
  known : IsWithin l.members.keys l.vertices;
  all : (k : ℕ) → k < l.x-index → Contains l.members.keys (slice_index l.vertices k);
}
