use Rattle.std.proofs.Common.{ℕ, ◌<◌, ◌≤◌, length, get_or}
use Rattle.ris_repair.proofs.radix.greatest.Given as goal

abbrev pub invariant-loop-i : goal.invariant-loop-i
invariant-loop-i l = record {
  within : l.place < length l.items;
  best : (d : ℕ × ℕ) → l.best ≤ (get_or l.items l.place d).0;
  all : (k : ℕ) (d : ℕ × ℕ) → k < l.i → (get_or l.items k d).0 ≤ l.best;
}
