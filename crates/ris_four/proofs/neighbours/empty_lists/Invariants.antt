use Rattle.std.proofs.Common.{◌≡◌, ◌<◌, ℕ, [], length}
use Rattle.ris_four.specs.Neighbours.{neighbours_at}
use Rattle.ris_four.proofs.neighbours.empty_lists.Given as goal

abbrev pub invariant-loop-i : goal.invariant-loop-i
invariant-loop-i l = (length l.lists.items ≡ l._i) × ((x : ℕ) → x < l._i → neighbours_at l.lists.items x ≡ [])
