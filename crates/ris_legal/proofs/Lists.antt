-- Items of lists by their places.
use Rattle.std.proofs.Common.{◌≡◌, ℕ, zero, suc, ◌+◌, ◌<◌, ◌≤◌, ◌⊎◌, inl, inr, Bool, true, false, if◌then◌else◌, List, [], ◌∷◌, ◌++◌, length, take, map, Option, Some, None, IfSome, arith, refl, ap, subst, ◌∙◌}
use Rattle.std.specs.List.{slice_get, filter}
use Rattle.std.specs.Option.{IsSomeAnd}
use Rattle.std.proofs.lemmas.Option.{slice_get_within}
use Rattle.ris_base.specs.Forest.{Forest, AreForests, IsForest}
use Rattle.ris_base.specs.Lists.{EachPair}
use Rattle.ris_base.specs.declared.analyses.Spec.{Spec}
use Rattle.ris_base.specs.declared.graphs.PlainGraph.{PlainGraph}
use Rattle.ris_legal.specs.Account.{AreRight}

pub slice_get_some : {X : Type 0} (xs : List X) (q : ℕ) → q < length xs → (x : X) × (slice_get xs q ≡ Some x)
slice_get_some [] q h = absurd (omega arith)
slice_get_some (x ∷ xs) zero h = (x, refl)
slice_get_some (x ∷ xs) (suc q) h = slice_get_some xs q (omega arith)

pub at-middle : {X : Type 0} (before rest : List X) (l : X) → slice_get (before ++ l ∷ rest) (length before) ≡ Some l
at-middle [] rest l = refl
at-middle (x ∷ before) rest l = at-middle before rest l

-- an item of a mapped list comes from one of the list
pub slice_get-mapped : {X Y : Type 0} (f : X → Y) (xs : List X) (q : ℕ) (y : Y) → slice_get (map f xs) q ≡ Some y → (x : X) × (slice_get xs q ≡ Some x) × (f x ≡ y)
slice_get-mapped f [] q y h = absurd (cc)
slice_get-mapped f (x ∷ xs) zero y h = (x, refl, cc)
slice_get-mapped f (x ∷ xs) (suc q) y h = slice_get-mapped f xs q y h

pub slice_get-map : {X Y : Type 0} (f : X → Y) (xs : List X) (q : ℕ) (x : X) → slice_get xs q ≡ Some x → slice_get (map f xs) q ≡ Some (f x)
slice_get-map f [] q x h = absurd (cc)
slice_get-map f (y ∷ xs) zero x h = let same : y ≡ x = cc in ap (λ z. Some (f z)) same
slice_get-map f (y ∷ xs) (suc q) x h = slice_get-map f xs q x h

pub take-within : {X : Type 0} (xs : List X) (k : ℕ) → k ≤ length xs → length (take k xs) ≡ k
take-within xs zero h = refl
take-within [] (suc k) h = absurd (omega arith)
take-within (x ∷ xs) (suc k) h = let more = take-within xs k (omega arith) in omega arith

pub same_some : {X : Type 0} (o : Option X) (x y : X) → o ≡ Some x → o ≡ Some y → x ≡ y
same_some o x y a b = cc

pub if_some : {X : Type 0} (P : X → Type 0) (o : Option X) (x : X) → IfSome o P → o ≡ Some x → P x
if_some P None x h e = absurd (cc)
if_some P (Some y) x h e = let same : y ≡ x = cc in subst P same h

pub to_some : {X : Type 0} (P : X → Type 0) (o : Option X) → ((x : X) → o ≡ Some x → P x) → IfSome o P
to_some P None h = tt
to_some P (Some x) h = h x refl

pub is_some_and : {X : Type 0} (P : X → Type 0) (o : Option X) → IsSomeAnd o P → (x : X) × (o ≡ Some x) × P x
is_some_and P None h = absurd h
is_some_and P (Some x) h = (x, refl, h)

pub to_some_and : {X : Type 0} (P : X → Type 0) (o : Option X) (x : X) → o ≡ Some x → P x → IsSomeAnd o P
to_some_and P None x e h = absurd (cc)
to_some_and P (Some y) x e h = let same : x ≡ y = cc in subst P same h

-- an item stays where more come behind
pub at-more : {X : Type 0} (xs ys : List X) (q : ℕ) (x : X) → slice_get xs q ≡ Some x → slice_get (xs ++ ys) q ≡ Some x
at-more [] ys q x h = absurd (let w = slice_get_within [] q x h in omega arith)
at-more (y ∷ xs) ys zero x h = h
at-more (y ∷ xs) ys (suc q) x h = at-more xs ys q x h

-- an item of two lists in turn is of the first or of the second
pub at-cases : {X : Type 0} (xs ys : List X) (q : ℕ) (x : X) → slice_get (xs ++ ys) q ≡ Some x
    → (slice_get xs q ≡ Some x) ⊎ ((k : ℕ) × (q ≡ length xs + k) × (slice_get ys k ≡ Some x))
at-cases [] ys q x h = inr (q, omega arith, h)
at-cases (y ∷ xs) ys zero x h = inl h
at-cases (y ∷ xs) ys (suc q) x h = elim (at-cases xs ys q x h) [ inl old ↦ inl old | inr new ↦ inr (new.0, (let e = new.1 in omega arith), new.2) ]

-- an item of a list with one more at its end
pub at-end : {X : Type 0} (xs : List X) (y : X) (q : ℕ) (x : X) → slice_get (xs ++ y ∷ []) q ≡ Some x
    → ((q < length xs) × (slice_get xs q ≡ Some x)) ⊎ ((q ≡ length xs) × (y ≡ x))
at-end xs y q x h = elim (at-cases xs (y ∷ []) q x h) [ inl old ↦ inl (slice_get_within xs q x old, old) | inr new ↦ last new.0 new.1 new.2 ]
  where
    last : (k : ℕ) → q ≡ length xs + k → slice_get (y ∷ []) k ≡ Some x → ((q < length xs) × (slice_get xs q ≡ Some x)) ⊎ ((q ≡ length xs) × (y ≡ x))
    last zero e at = inr ((omega arith), cc)
    last (suc k) e at = absurd (let w = slice_get_within [] k x at in omega arith)

-- the places before the end are as before
pub get-before : {X : Type 0} (xs ys : List X) (v : ℕ) → v < length xs → slice_get (xs ++ ys) v ≡ slice_get xs v
get-before [] ys v h = absurd (omega arith)
get-before (x ∷ xs) ys zero h = refl
get-before (x ∷ xs) ys (suc v) h = get-before xs ys v (omega arith)

-- Filters

-- an item that meets a test stands in what the filter leaves
pub in-filter : {X : Type 0} (t : X → Bool) (xs : List X) (i : ℕ) (x : X) → slice_get xs i ≡ Some x → t x ≡ true → (j : ℕ) × (slice_get (filter t xs) j ≡ Some x)
in-filter t [] i x at e = absurd (let w = slice_get_within [] i x at in omega arith)
in-filter t (y ∷ xs) zero x at e = let same : y ≡ x = cc in let e2 : t y ≡ true = ap t same ∙ e in rw e2 (0, at)
in-filter t (y ∷ xs) (suc i) x at e = go (t y) (in-filter t xs i x at e)
  where
    go : (b : Bool) → ((j : ℕ) × (slice_get (filter t xs) j ≡ Some x)) → (j : ℕ) × (slice_get (if b then y ∷ filter t xs else filter t xs) j ≡ Some x)
    go true more = (suc more.0, more.1)
    go false more = more

-- two such items stand there in the same order
pub two-filter : {X : Type 0} (t : X → Bool) (xs : List X) (i j : ℕ) (x y : X) → i < j → slice_get xs i ≡ Some x → slice_get xs j ≡ Some y → t x ≡ true → t y ≡ true
    → (m n : ℕ) × (m < n) × (slice_get (filter t xs) m ≡ Some x) × (slice_get (filter t xs) n ≡ Some y)
two-filter t [] i j x y less first second a b = absurd (let w = slice_get_within [] i x first in omega arith)
two-filter t (z ∷ xs) i zero x y less first second a b = absurd (omega arith)
two-filter t (z ∷ xs) zero (suc j) x y less first second a b =
    let same : z ≡ x = cc in let e : t z ≡ true = ap t same ∙ a in let more = in-filter t xs j y second b in rw e (0, suc more.0, omega arith, first, more.1)
two-filter t (z ∷ xs) (suc i) (suc j) x y less first second a b = go (t z) (two-filter t xs i j x y (omega arith) first second a b)
  where
    go : (c : Bool) → ((m n : ℕ) × (m < n) × (slice_get (filter t xs) m ≡ Some x) × (slice_get (filter t xs) n ≡ Some y))
        → (m n : ℕ) × (m < n) × (slice_get (if c then z ∷ filter t xs else filter t xs) m ≡ Some x) × (slice_get (if c then z ∷ filter t xs else filter t xs) n ≡ Some y)
    go true more = (suc more.0, suc more.1, (let l = more.2 in omega arith), more.3, more.4)
    go false more = more

-- what a filter leaves stands in the list
pub from-filter : {X : Type 0} (t : X → Bool) (xs : List X) (i : ℕ) (x : X) → slice_get (filter t xs) i ≡ Some x → (j : ℕ) × (slice_get xs j ≡ Some x)
from-filter t [] i x at = absurd (let w = slice_get_within [] i x at in omega arith)
from-filter t (y ∷ xs) i x at = go (t y) i at (λ k there. from-filter t xs k x there)
  where
    go : (b : Bool) (i : ℕ) → slice_get (if b then y ∷ filter t xs else filter t xs) i ≡ Some x → ((k : ℕ) → slice_get (filter t xs) k ≡ Some x → (j : ℕ) × (slice_get xs j ≡ Some x))
        → (j : ℕ) × (slice_get (y ∷ xs) j ≡ Some x)
    go true zero at more = (0, at)
    go true (suc i) at more = let r = more i at in (suc r.0, r.1)
    go false i at more = let r = more i at in (suc r.0, r.1)

-- Pairs

-- a pair of lists at one place
each-at : {X Y : Type 0} (R : X → Y → Type 0) (xs : List X) (ys : List Y) (i : ℕ) (x : X) (y : Y) → EachPair R xs ys
    → slice_get xs i ≡ Some x → slice_get ys i ≡ Some y → R x y
each-at R [] ys i x y h a b = absurd (let w = slice_get_within [] i x a in omega arith)
each-at R (z ∷ xs) [] i x y h a b = absurd h
each-at R (z ∷ xs) (w ∷ ys) zero x y h a b =
    let e : z ≡ x = cc in let f : w ≡ y = cc in subst (λ v. R x v) f (subst (λ v. R v w) e h.0)
each-at R (z ∷ xs) (w ∷ ys) (suc i) x y h a b = each-at R xs ys i x y h.1 a b

-- forests of all analyses are right ones at their places
pub are-right : (g : PlainGraph) (specs : List Spec) (forests : List Forest) → AreForests g specs forests → AreRight g specs forests
are-right g specs forests right k spec F one two = each-at (IsForest g) specs forests k spec F right one two
