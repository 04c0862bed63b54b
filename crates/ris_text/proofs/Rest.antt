-- What is left of a list from a place on.
use Rattle.std.proofs.Common.{◌≡◌, ℕ, ◌+◌, List, ◌∷◌, Some, drop, slice_get, sum_by, ap, ◌∙◌}
use Rattle.std.specs.List.{AllByRecursion}
use Rattle.std.proofs.lemmas.List.{drop_more}
use Rattle.std.proofs.lemmas.List.Sums.{sum_by-drop_more}
use Rattle.std.proofs.lemmas.Option.{slice_get_within, get_or_from_slice_get}

-- what is left from a place with an item on begins with the item
pub drop-at : {X : Type 0} (xs : List X) (k : ℕ) (x : X) → slice_get xs k ≡ Some x → drop k xs ≡ x ∷ drop (k + 1) xs
drop-at {X} xs k x is =
    drop_more xs k x (slice_get_within xs k x is) ∙ ap (λ (y : X). y ∷ drop (k + 1) xs) (get_or_from_slice_get xs k x x is)

-- its sum is that of the item and what is left behind it
pub sum_by-at : {X : Type 0} (f : X → ℕ) (xs : List X) (k : ℕ) (x : X) → slice_get xs k ≡ Some x
    → sum_by f (drop k xs) ≡ f x + sum_by f (drop (k + 1) xs)
sum_by-at {X} f xs k x is =
    sum_by-drop_more f xs k x (slice_get_within xs k x is)
    ∙ ap (λ (y : X). f y + sum_by f (drop (k + 1) xs)) (get_or_from_slice_get xs k x x is)

-- what holds of the item and of each behind it
pub all-at : {X : Type 0} (P : X → Type 0) (xs : List X) (k : ℕ) (x : X) → slice_get xs k ≡ Some x → P x → AllByRecursion P (drop (k + 1) xs)
    → AllByRecursion P (drop k xs)
all-at P xs k x is here rest = rw (drop-at xs k x is) (here, rest)
