-- Lists in which each two items stand in a relation, the earlier one first.
use Rattle.std.proofs.Common.{◌≡◌, ℕ, ◌<◌, ◌≤◌, inl, inr, Bool, true, false, if◌then◌else◌, nat_le, List, [], ◌∷◌, map, get_or, arith, refl, sym, ◌∙◌}
use Rattle.std.specs.List.{All, AllPairs, Contains, list_any}
use Rattle.std.proofs.lemmas.Bool.{cases_lt, false≢true, le-leb, lt-leb}
use Rattle.std.proofs.lemmas.List.Elements.{All-cons, All-head, All-map, All-nil, All-tail, Contains-get_or}
use Rattle.std.proofs.lemmas.List.Folds.{list_any_at, list_any_none}
use Rattle.std.proofs.lemmas.List.Kept.{AllPairs-cons}
use Rattle.ris_graph.proofs.ListFacts.{AllPairs-head, AllPairs-nil, AllPairs-tail}
use Rattle.ris_epoch.specs.Ordering.{inserted_by}
use Rattle.ris_epoch.proofs.OrderingLemmas.{All-inserted}

-- what holds of each two of a list as they are mapped holds of each two of the mapped list
pub AllPairs-map : {X Y : Type 0} (R : Y → Y → Type 0) (f : X → Y) (xs : List X) → AllPairs (λ x y. R (f x) (f y)) xs → AllPairs R (map f xs)
AllPairs-map R f [] pairs = AllPairs-nil R
AllPairs-map {X} R f (x ∷ xs) pairs =
    AllPairs-cons R (f x) (map f xs) (All-map (R (f x)) f xs (AllPairs-head (λ (a b : X). R (f a) (f b)) x xs pairs))
    (AllPairs-map R f xs (AllPairs-tail (λ (a b : X). R (f a) (f b)) x xs pairs))

-- and the other way round
All-unmap : {X Y : Type 0} (P : Y → Type 0) (f : X → Y) (xs : List X) → All P (map f xs) → All (λ x. P (f x)) xs
All-unmap {X} P f [] all = All-nil (λ (x : X). P (f x))
All-unmap {X} P f (x ∷ xs) all =
    All-cons (λ (y : X). P (f y)) x xs (All-head P (f x) (map f xs) all) (All-unmap P f xs (All-tail P (f x) (map f xs) all))

pub AllPairs-unmap : {X Y : Type 0} (R : Y → Y → Type 0) (f : X → Y) (xs : List X) → AllPairs R (map f xs) → AllPairs (λ x y. R (f x) (f y)) xs
AllPairs-unmap {X} R f [] pairs = AllPairs-nil (λ (x y : X). R (f x) (f y))
AllPairs-unmap {X} R f (x ∷ xs) pairs =
    AllPairs-cons (λ (a b : X). R (f a) (f b)) x xs (All-unmap (R (f x)) f xs (AllPairs-head R (f x) (map f xs) pairs))
    (AllPairs-unmap R f xs (AllPairs-tail R (f x) (map f xs) pairs))

-- what holds of each two holds where each two of the list that have it have the other
pub AllPairs-weaker : {X : Type 0} (R S : X → X → Type 0) (xs : List X) → ((x y : X) → Contains xs x → Contains xs y → R x y → S x y) → AllPairs R xs → AllPairs S xs
AllPairs-weaker R S xs weaker pairs i j d lt less =
    weaker (get_or xs i d) (get_or xs j d) (Contains-get_or xs i d (omega arith)) (Contains-get_or xs j d less) (pairs i j d lt less)

-- an item put behind the last one whose key is at most its own, where it has the right relation to each
pub AllPairs-inserted : {X : Type 0} (R : X → X → Type 0) (key : X → ℕ) (xs : List X) (x : X)
    → ((y z : X) → R y z → key y ≤ key z) → ((y : X) → key x < key y → R x y) → All (λ y. key y ≤ key x → R y x) xs
    → AllPairs R xs → AllPairs R (inserted_by key xs x)
unfolding inserted_by
AllPairs-inserted R key [] x keeps over under pairs = AllPairs-cons R x [] (All-nil (R x)) pairs
AllPairs-inserted {X} R key (y ∷ ys) x keeps over under pairs =
    go (list_any test (y ∷ ys)) refl (AllPairs-inserted R key ys x keeps over (All-tail (λ (z : X). key z ≤ key x → R z x) y ys under) (AllPairs-tail R y ys pairs))
  where
    test : X → Bool
    test z = nat_le (key z) (key x)

    head : All (R y) ys
    head = AllPairs-head R y ys pairs

    -- the first key is the least
    least : All (λ z. key y ≤ key z) (y ∷ ys)
    least = All-cons (λ (z : X). key y ≤ key z) y ys (omega arith) (λ k d less. keeps y (get_or ys k d) (head k d less))

    -- where the test finds none, all keys are greater
    above : (zs : List X) → list_any test zs ≡ false → All (λ z. key x < key z) zs
    above zs none k d less = elim (cases_lt (key x) (key (get_or zs k d))) [
      | inl more ↦ more
      | inr low ↦ absurd (false≢true (sym none ∙ list_any_at test zs k d less (le-leb (key (get_or zs k d)) (key x) low)))
    ]

    -- where it finds one, so is the first
    below : (zs : List X) → All (λ z. key y ≤ key z) zs → list_any test zs ≡ true → key y ≤ key x
    below [] low some = absurd (false≢true some)
    below (z ∷ zs) low some = elim (cases_lt (key x) (key y)) [
      | inl more ↦ absurd (false≢true (sym (list_any_none test (z ∷ zs) (λ k d less. lt-leb (key (get_or (z ∷ zs) k d)) (key x) (let up = low k d less in omega arith))) ∙ some))
      | inr is ↦ is
    ]

    go : (b : Bool) → list_any test (y ∷ ys) ≡ b → AllPairs R (inserted_by key ys x) → AllPairs R (if b then y ∷ inserted_by key ys x else x ∷ y ∷ ys)
    go true some rest =
        AllPairs-cons R y (inserted_by key ys x)
        (All-inserted (R y) key ys x head (All-head (λ (z : X). key z ≤ key x → R z x) y ys under (below (y ∷ ys) least some))) rest
    go false none rest =
        AllPairs-cons R x (y ∷ ys) (λ k d less. over (get_or (y ∷ ys) k d) (above (y ∷ ys) none k d less)) pairs
