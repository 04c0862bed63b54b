-- Lists of equal length whose pairs meet a relation.
use Rattle.std.proofs.Common.{◌≡◌, ℕ, zero, suc, ◌<◌, List, [], ◌∷◌, ◌++◌, length, get_or, map, arith, refl, ap}
use Rattle.std.specs.List.{All}
use Rattle.std.proofs.lemmas.List.Elements.{All-nil, All-cons, All-head, All-tail}
use Rattle.ris_base.specs.Lists.{EachPair}

-- one more pair at the end
pub EachPair-push : {X Y : Type 0} (R : X → Y → Type 0) (xs : List X) (ys : List Y) (x : X) (y : Y) → EachPair R xs ys → R x y
    → EachPair R (xs ++ x ∷ []) (ys ++ y ∷ [])
EachPair-push R [] [] x y h r = (r, tt)
EachPair-push R [] (b ∷ ys) x y h r = absurd h
EachPair-push R (a ∷ xs) [] x y h r = absurd h
EachPair-push R (a ∷ xs) (b ∷ ys) x y h r = (h.0, EachPair-push R xs ys x y h.1 r)

-- a weaker relation
pub EachPair-weaker : {X Y : Type 0} (R S : X → Y → Type 0) → ((x : X) (y : Y) → R x y → S x y) → (xs : List X) (ys : List Y)
    → EachPair R xs ys → EachPair S xs ys
EachPair-weaker R S gives [] [] h = tt
EachPair-weaker R S gives [] (y ∷ ys) h = absurd h
EachPair-weaker R S gives (x ∷ xs) [] h = absurd h
EachPair-weaker R S gives (x ∷ xs) (y ∷ ys) h = (gives x y h.0, EachPair-weaker R S gives xs ys h.1)

-- where something holds of each first item
pub EachPair-within : {X Y : Type 0} (R S : X → Y → Type 0) (P : X → Type 0) → ((x : X) (y : Y) → P x → R x y → S x y) → (xs : List X) (ys : List Y)
    → All P xs → EachPair R xs ys → EachPair S xs ys
EachPair-within R S P gives [] [] all h = tt
EachPair-within R S P gives [] (y ∷ ys) all h = absurd h
EachPair-within R S P gives (x ∷ xs) [] all h = absurd h
EachPair-within R S P gives (x ∷ xs) (y ∷ ys) all h =
    (gives x y (All-head P x xs all) h.0, EachPair-within R S P gives xs ys (All-tail P x xs all) h.1)

-- the lists are as long
pub EachPair-length : {X Y : Type 0} (R : X → Y → Type 0) (xs : List X) (ys : List Y) → EachPair R xs ys → length xs ≡ length ys
EachPair-length R [] [] h = refl
EachPair-length R [] (y ∷ ys) h = absurd h
EachPair-length R (x ∷ xs) [] h = absurd h
EachPair-length R (x ∷ xs) (y ∷ ys) h = ap suc (EachPair-length R xs ys h.1)

-- the pair at a place
pub EachPair-at : {X Y : Type 0} (R : X → Y → Type 0) (xs : List X) (ys : List Y) (k : ℕ) (d : X) (e : Y) → EachPair R xs ys → k < length xs
    → R (get_or xs k d) (get_or ys k e)
EachPair-at R [] ys k d e h less = absurd (omega arith)
EachPair-at R (x ∷ xs) [] k d e h less = absurd h
EachPair-at R (x ∷ xs) (y ∷ ys) zero d e h less = h.0
EachPair-at R (x ∷ xs) (y ∷ ys) (suc k) d e h less = EachPair-at R xs ys k d e h.1 (omega arith)

-- what holds of the second item of each pair
pub All-seconds : {X Y : Type 0} (R : X → Y → Type 0) (P : Y → Type 0) → ((x : X) (y : Y) → R x y → P y) → (xs : List X) (ys : List Y)
    → EachPair R xs ys → All P ys
All-seconds R P gives [] [] h = All-nil P
All-seconds R P gives [] (y ∷ ys) h = absurd h
All-seconds R P gives (x ∷ xs) [] h = absurd h
All-seconds R P gives (x ∷ xs) (y ∷ ys) h = All-cons P y ys (gives x y h.0) (All-seconds R P gives xs ys h.1)

-- a relation of what is made of the items
pub EachPair-map_left : {X Y Z : Type 0} (f : X → Z) (R : Z → Y → Type 0) (xs : List X) (ys : List Y) → EachPair (λ x y. R (f x) y) xs ys
    → EachPair R (map f xs) ys
EachPair-map_left f R [] [] h = tt
EachPair-map_left f R [] (y ∷ ys) h = absurd h
EachPair-map_left f R (x ∷ xs) [] h = absurd h
EachPair-map_left f R (x ∷ xs) (y ∷ ys) h = (h.0, EachPair-map_left f R xs ys h.1)

pub EachPair-map_right : {X Y Z : Type 0} (f : Y → Z) (R : X → Z → Type 0) (xs : List X) (ys : List Y) → EachPair (λ x y. R x (f y)) xs ys
    → EachPair R xs (map f ys)
EachPair-map_right f R [] [] h = tt
EachPair-map_right f R [] (y ∷ ys) h = absurd h
EachPair-map_right f R (x ∷ xs) [] h = absurd h
EachPair-map_right f R (x ∷ xs) (y ∷ ys) h = (h.0, EachPair-map_right f R xs ys h.1)

-- where the first items are made of the second ones
pub map-pairs : {X Y : Type 0} (f : Y → X) (R : X → Y → Type 0) → ((x : X) (y : Y) → R x y → f y ≡ x) → (xs : List X) (ys : List Y)
    → EachPair R xs ys → map f ys ≡ xs
map-pairs f R gives [] [] h = refl
map-pairs f R gives [] (y ∷ ys) h = absurd h
map-pairs f R gives (x ∷ xs) [] h = absurd h
map-pairs f R gives (x ∷ xs) (y ∷ ys) h =
    let here = gives x y h.0 in
    let rest = map-pairs f R gives xs ys h.1 in
    λ i. here i ∷ rest i

-- what is made of both items of each pair is the same
pub map-same : {X Y Z : Type 0} (f : X → Z) (g : Y → Z) (R : X → Y → Type 0) → ((x : X) (y : Y) → R x y → g y ≡ f x) → (xs : List X) (ys : List Y)
    → EachPair R xs ys → map g ys ≡ map f xs
map-same f g R gives [] [] h = refl
map-same f g R gives [] (y ∷ ys) h = absurd h
map-same f g R gives (x ∷ xs) [] h = absurd h
map-same f g R gives (x ∷ xs) (y ∷ ys) h =
    let here = gives x y h.0 in
    let rest = map-same f g R gives xs ys h.1 in
    λ i. here i ∷ rest i

-- what holds of all first items, and goes from the first to the second item of each pair
pub All-along : {X Y : Type 0} (P : X → Type 0) (Q : Y → Type 0) (R : X → Y → Type 0) → ((x : X) (y : Y) → R x y → P x → Q y)
    → (xs : List X) (ys : List Y) → EachPair R xs ys → All P xs → All Q ys
All-along P Q R gives [] [] h all = All-nil Q
All-along P Q R gives [] (y ∷ ys) h all = absurd h
All-along P Q R gives (x ∷ xs) [] h all = absurd h
All-along P Q R gives (x ∷ xs) (y ∷ ys) h all =
    All-cons Q y ys (gives x y h.0 (All-head P x xs all)) (All-along P Q R gives xs ys h.1 (All-tail P x xs all))
