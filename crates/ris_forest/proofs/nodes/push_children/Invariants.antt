use Rattle.std.proofs.Common.{◌≡◌, ◌+◌, ◌-◌, ◌++◌, ℕ, List, length}
use Rattle.ris_forest.specs.Linking.{above_of, Chain, AreChildren}
use Rattle.ris_forest.proofs.nodes.push_children.Given as goal

abbrev pub invariant-loop-child : goal.invariant-loop-child
invariant-loop-child l = record {
  seen : List ℕ;
  rest : List ℕ;
  before : ℕ;
  all : AreChildren (above_of l.nodes) l.vertex (seen ++ rest);
  chain : Chain l.nodes before l.child rest;
  grown : l.found.items ≡ l.initial.found.items ++ seen;
}

abbrev pub decreases-loop-child : goal.decreases-loop-child
decreases-loop-child l = (length l.nodes + length l.initial.found.items) - length l.found.items
