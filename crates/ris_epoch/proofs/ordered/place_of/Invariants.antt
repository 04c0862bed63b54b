use Rattle.std.proofs.Common.{◌<◌, ◌≤◌, ℕ, slice_index_or}
use Rattle.std.specs.VecDeque.{deque_len}
use Rattle.ris_epoch.proofs.ordered.place_of.Given as goal

abbrev pub invariant-loop-place : goal.invariant-loop-place
invariant-loop-place g l = record {
  within : l.place ≤ deque_len l.items;
  above : (k : ℕ) (d : g.row.T.Denot) → l.place ≤ k → k < deque_len l.items → l.key < g.T.Keyed.key_of (slice_index_or l.items.items k d);
}

abbrev pub decreases-loop-place : goal.decreases-loop-place
decreases-loop-place g l = l.place
