-- A list whose first items are mapped, as a loop does it item by item.
use Rattle.std.proofs.Common.{◌≡◌, ℕ, zero, suc, ◌+◌, ◌<◌, List, [], ◌∷◌, ◌++◌, length, map, take, get_or, arith, add-one, refl, sym, ap, ◌∙◌}
use Rattle.std.specs.List.{slice_set}

-- the first i items are mapped
unfoldable pub partly : {X : Type 0} → (X → X) → ℕ → List X → List X
partly f zero xs = xs
partly f (suc i) [] = []
partly f (suc i) (x ∷ xs) = f x ∷ partly f i xs

pub partly-zero : {X : Type 0} (f : X → X) (xs : List X) → partly f 0 xs ≡ xs
unfolding partly
partly-zero f xs = refl

pub length-partly : {X : Type 0} (f : X → X) (i : ℕ) (xs : List X) → length (partly f i xs) ≡ length xs
unfolding partly
length-partly f zero xs = refl
length-partly f (suc i) [] = refl
length-partly f (suc i) (x ∷ xs) = let more = length-partly f i xs in omega arith

-- the next item
pub partly-next : {X : Type 0} (f : X → X) (i : ℕ) (xs : List X) (d : X) → i < length xs
    → slice_set (partly f i xs) i (f (get_or (partly f i xs) i d)) ≡ partly f (suc i) xs
unfolding partly
partly-next f i [] d h = absurd (omega arith)
partly-next f zero (x ∷ xs) d h = refl
partly-next f (suc i) (x ∷ xs) d h = ap (λ ys. f x ∷ ys) (partly-next f i xs d (omega arith))

-- all items
pub partly-all : {X : Type 0} (f : X → X) (xs : List X) → partly f (length xs) xs ≡ map f xs
unfolding partly
partly-all f [] = refl
partly-all f (x ∷ xs) = ap (λ ys. f x ∷ ys) (partly-all f xs)

-- the first items of a list and others
pub taken-whole : {X : Type 0} (n : ℕ) (xs ys : List X) → n ≡ length xs → take n (xs ++ ys) ≡ xs
taken-whole zero [] ys h = refl
taken-whole zero (x ∷ xs) ys h = absurd (omega arith)
taken-whole (suc n) [] ys h = absurd (omega arith)
taken-whole (suc n) (x ∷ xs) ys h = ap (λ zs. x ∷ zs) (taken-whole n xs ys (omega arith))

-- a step of such a loop
pub partly-step : {X : Type 0} (f : X → X) (i : ℕ) (xs items : List X) (d y : X) → items ≡ partly f i xs → i < length xs → y ≡ f (get_or items i d)
    → slice_set items i y ≡ partly f (i + 1) xs
partly-step f i xs items d y same h is =
    ap (slice_set items i) is ∙ ap (λ ys. slice_set ys i (f (get_or ys i d))) same ∙ partly-next f i xs d h ∙ ap (λ n. partly f n xs) (sym (add-one i))
