use Rattle.std.proofs.Common.{◌≡◌, ℕ, [], length, map}
use Rattle.ris_repair.specs.Radix.{bucket_at}
use Rattle.ris_repair.proofs.RadixLemmas.{listed}
use Rattle.ris_repair.proofs.radix.Buckets.all.Given as goal

abbrev pub invariant-loop-i : goal.invariant-loop-i
invariant-loop-i l = (length l.lists.items ≡ l._i) × ((k : ℕ) → bucket_at (map listed l.lists.items) k ≡ [])
