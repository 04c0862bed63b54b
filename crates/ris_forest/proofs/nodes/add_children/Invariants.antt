use Rattle.std.proofs.Common.{ℕ, ◌++◌, ◌↔◌, ◌⊎◌, List, length}
use Rattle.std.specs.List.{Contains}
use Rattle.ris_forest.specs.Growing.{GoesOn}
use Rattle.ris_forest.specs.Linking.{above_of, Chain, AreChildren}
use Rattle.ris_forest.proofs.SubtreeLemmas.{links_to_end}
use Rattle.ris_forest.proofs.nodes.add_children.Given as goal

abbrev pub invariant-loop-child : goal.invariant-loop-child
invariant-loop-child l = record {
  seen : List ℕ;
  rest : List ℕ;
  before : ℕ;
  all : AreChildren (above_of l.nodes) l.vertex (seen ++ rest);
  chain : Chain l.nodes before l.child rest;
  on : GoesOn l.initial.found l.found;
  each : (y : ℕ) → Contains l.found y ↔ (Contains l.initial.found y ⊎ Contains seen y);
}

abbrev pub decreases-loop-child : goal.decreases-loop-child
decreases-loop-child l = links_to_end l.nodes (length l.nodes) l.child
