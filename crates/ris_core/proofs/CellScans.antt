-- The copies of a triple behind a log, as a loop counts them decision by decision.
use Rattle.std.proofs.Common.{◌≡◌, ℕ, ◌+◌, ◌≤◌, ◌==◌, if◌then◌else◌, cond, Bool, true, false, List, ◌∷◌, length, drop, Some, refl, sym, ap, ◌∙◌}
use Rattle.std.specs.List.{slice_get}
use Rattle.ris_base.specs.Machine.{Decided, copies_after, copies_of_parts, is_applied, stripe_of}
use Rattle.ris_base.specs.declared.graphs.Triple.{Triple}
use Rattle.ris_core.specs.Moves.{counted}
use Rattle.ris_core.specs.Stands.{logs_of}
use Rattle.ris_core.proofs.Scans.{drop-end, drop-next}

copies-first : (t : Triple) (n : ℕ) (d : Decided) (log : List Decided) → copies_after t n (d ∷ log) ≡ copies_after t (if is_applied d then copies_of_parts t n d.entry.parts else n) log
unfolding copies_after
copies-first t n d log = refl

copies-here : (t : Triple) (n k : ℕ) (d : Decided) (xs : List Decided) → copies_after t (counted t n k d) (logs_of xs k) ≡ copies_after t n (logs_of (d ∷ xs) k)
copies-here t n k d xs = go (stripe_of d.entry.parts == k)
  where
    go : (b : Bool) → copies_after t (if b then (if is_applied d then copies_of_parts t n d.entry.parts else n) else n) (logs_of xs k)
        ≡ copies_after t n (cond b (d ∷ logs_of xs k) (logs_of xs k))
    go true = sym (copies-first t n d (logs_of xs k))
    go false = refl

pub copies-next : (t : Triple) (n k : ℕ) (xs : List Decided) (i : ℕ) (d : Decided) → slice_get xs i ≡ Some d
    → copies_after t (counted t n k d) (logs_of (drop (i + 1) xs) k) ≡ copies_after t n (logs_of (drop i xs) k)
copies-next t n k xs i d at = copies-here t n k d (drop (i + 1) xs) ∙ sym (ap (λ (ds : List Decided). copies_after t n (logs_of ds k)) (drop-next xs i d at))

pub copies-end : (t : Triple) (n k : ℕ) (xs : List Decided) (i : ℕ) → length xs ≤ i → copies_after t n (logs_of (drop i xs) k) ≡ n
unfolding copies_after
copies-end t n k xs i past = ap (λ (ds : List Decided). copies_after t n (logs_of ds k)) (drop-end xs i past)
