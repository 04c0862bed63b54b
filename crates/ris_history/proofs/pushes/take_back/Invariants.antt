use Rattle.std.proofs.Common.{◌≡◌, ◌≤◌, ℕ, List, take, length}
use Rattle.ris_history.specs.Chains.{ChainView, bound_of, with_changes}
use Rattle.ris_history.proofs.pushes.take_back.Given as goal

abbrev pub invariant-loop-k : goal.invariant-loop-k
invariant-loop-k l = record {
  room : bound_of l.analyses l.changes ≤ length l.chains.items;
  chains : (place : ℕ) (before : List ChainView) → l.fn.chains.items ≡ with_changes l.analyses place before (take l.count l.changes)
      → l.chains.items ≡ with_changes l.analyses place before (take l.k l.changes);
}
