-- What is left of a list behind its first items, as a loop walks through it.
use Rattle.std.proofs.Common.{◌≡◌, ℕ, zero, suc, ◌+◌, ◌<◌, ◌≤◌, Bool, true, false, ◌||◌, ◌&&◌, map, List, [], ◌∷◌, ◌++◌, length, take, drop, get_or, Some, None, arith, add-one, refl, sym, subst, ap, ◌∙◌}
use Rattle.std.specs.List.{All, count_by, list_any, slice_get}
use Rattle.std.proofs.lemmas.Option.{get_or_from_slice_get, slice_get-get_or, slice_get_within}
use Rattle.ris_base.specs.Lists.{each_pair}
use Rattle.ris_core.proofs.EntryState.{map-push}
use Rattle.ris_legal.proofs.Lists.{slice_get-map}
use Rattle.ris_base.proofs.EffectLemmas.{count_by-cons, one_if}

-- the next item, and what is behind it
drop-suc : {X : Type 0} (xs : List X) (k : ℕ) (x : X) → slice_get xs k ≡ Some x → drop k xs ≡ x ∷ drop (suc k) xs
drop-suc [] k x h = absurd (cc)
drop-suc (y ∷ xs) zero x h = let same : y ≡ x = cc in ap (λ z. z ∷ xs) same
drop-suc (y ∷ xs) (suc k) x h = drop-suc xs k x h

pub drop-next : {X : Type 0} (xs : List X) (k : ℕ) (x : X) → slice_get xs k ≡ Some x → drop k xs ≡ x ∷ drop (k + 1) xs
drop-next xs k x h = drop-suc xs k x h ∙ ap (λ n. x ∷ drop n xs) (sym (add-one k))

-- nothing is left behind the last item
pub drop-end : {X : Type 0} (xs : List X) (k : ℕ) → length xs ≤ k → drop k xs ≡ []
drop-end [] zero h = refl
drop-end [] (suc k) h = refl
drop-end (x ∷ xs) zero h = absurd (omega arith)
drop-end (x ∷ xs) (suc k) h = drop-end xs k (omega arith)

-- an item that was read by its place
pub read-at : {X : Type 0} (xs : List X) (k : ℕ) (x : X) → k < length xs → x ≡ get_or xs k x → slice_get xs k ≡ Some x
read-at xs k x less is = slice_get-get_or xs k x less ∙ ap Some (sym is)

-- one item more of the first ones
take-suc : {X : Type 0} (xs : List X) (k : ℕ) (x : X) → slice_get xs k ≡ Some x → take (suc k) xs ≡ take k xs ++ x ∷ []
take-suc [] k x h = absurd (cc)
take-suc (y ∷ xs) zero x h = let same : y ≡ x = cc in ap (λ z. z ∷ []) same
take-suc (y ∷ xs) (suc k) x h = ap (λ ys. y ∷ ys) (take-suc xs k x h)

pub take-next : {X : Type 0} (xs : List X) (k : ℕ) (x : X) → slice_get xs k ≡ Some x → take (k + 1) xs ≡ take k xs ++ x ∷ []
take-next xs k x h = ap (λ n. take n xs) (add-one k) ∙ take-suc xs k x h

-- all items
pub take-end : {X : Type 0} (xs : List X) (k : ℕ) → length xs ≤ k → take k xs ≡ xs
take-end [] zero h = refl
take-end [] (suc k) h = refl
take-end (x ∷ xs) zero h = absurd (omega arith)
take-end (x ∷ xs) (suc k) h = ap (λ ys. x ∷ ys) (take-end xs k (omega arith))

-- a copy that has grown by one item
pub copied-next : {X : Type 0} (xs ys old : List X) (k : ℕ) (x : X) → slice_get xs k ≡ Some x → old ≡ take k xs → ys ≡ old ++ x ∷ [] → ys ≡ take (k + 1) xs
copied-next xs ys old k x at same is = is ∙ ap (λ zs. zs ++ x ∷ []) same ∙ sym (take-next xs k x at)

-- Tests

-- an item passes the test, or the others decide
pub any-here : {X : Type 0} (p : X → Bool) (xs : List X) (k : ℕ) (x : X) → slice_get xs k ≡ Some x → p x ≡ true → list_any p (drop k xs) ≡ true
any-here p xs k x at passes = ap (list_any p) (drop-next xs k x at) ∙ ap (λ b. b || list_any p (drop (k + 1) xs)) passes

pub any-passed : {X : Type 0} (p : X → Bool) (xs : List X) (k : ℕ) (x : X) → slice_get xs k ≡ Some x → p x ≡ false → list_any p (drop (k + 1) xs) ≡ list_any p (drop k xs)
any-passed p xs k x at fails = sym (ap (list_any p) (drop-next xs k x at) ∙ ap (λ b. b || list_any p (drop (k + 1) xs)) fails)

-- one more counts, or not
pub count-next : {X : Type 0} (p : X → Bool) (xs : List X) (k : ℕ) (x : X) → slice_get xs k ≡ Some x → count_by p (drop k xs) ≡ one_if (p x) + count_by p (drop (k + 1) xs)
count-next p xs k x at = ap (count_by p) (drop-next xs k x at) ∙ count_by-cons p x (drop (k + 1) xs)

-- each place below the length has an item
pub none-within : {X : Type 0} (xs : List X) (k : ℕ) → k < length xs → slice_get xs k ≡ None → ⊥
none-within [] k less none = omega arith
none-within (x ∷ xs) zero less none = cc
none-within (x ∷ xs) (suc k) less none = none-within xs k (omega arith) none

-- the same of mapped items
pub any-here-mapped : {X Y : Type 0} (f : X → Y) (p : Y → Bool) (xs : List X) (k : ℕ) (x : X) → slice_get xs k ≡ Some x → p (f x) ≡ true → list_any p (map f (drop k xs)) ≡ true
any-here-mapped f p xs k x at passes = ap (λ ys. list_any p (map f ys)) (drop-next xs k x at) ∙ ap (λ b. b || list_any p (map f (drop (k + 1) xs))) passes

pub any-passed-mapped : {X Y : Type 0} (f : X → Y) (p : Y → Bool) (xs : List X) (k : ℕ) (x : X) → slice_get xs k ≡ Some x → p (f x) ≡ false
    → list_any p (map f (drop (k + 1) xs)) ≡ list_any p (map f (drop k xs))
any-passed-mapped f p xs k x at fails = sym (ap (λ ys. list_any p (map f ys)) (drop-next xs k x at) ∙ ap (λ b. b || list_any p (map f (drop (k + 1) xs))) fails)

-- pairs, of which the second items are mapped
pair-first : {X Y Z : Type 0} (f : Y → Z) (test : X → Z → Bool) (xs : List X) (ys : List Y) (k : ℕ) (x : X) (y : Y) → slice_get xs k ≡ Some x → slice_get ys k ≡ Some y
    → each_pair test (drop k xs) (map f (drop k ys)) ≡ (test x (f y) && each_pair test (drop (k + 1) xs) (map f (drop (k + 1) ys)))
pair-first f test xs ys k x y at there =
    ap (λ zs. each_pair test zs (map f (drop k ys))) (drop-next xs k x at) ∙ ap (λ zs. each_pair test (x ∷ drop (k + 1) xs) (map f zs)) (drop-next ys k y there)

pub pair-fails : {X Y Z : Type 0} (f : Y → Z) (test : X → Z → Bool) (xs : List X) (ys : List Y) (k : ℕ) (x : X) (y : Y) → slice_get xs k ≡ Some x → slice_get ys k ≡ Some y
    → test x (f y) ≡ false → each_pair test (drop k xs) (map f (drop k ys)) ≡ false
pair-fails f test xs ys k x y at there fails = pair-first f test xs ys k x y at there ∙ ap (λ b. b && each_pair test (drop (k + 1) xs) (map f (drop (k + 1) ys))) fails

pub pair-passed : {X Y Z : Type 0} (f : Y → Z) (test : X → Z → Bool) (xs : List X) (ys : List Y) (k : ℕ) (x : X) (y : Y) → slice_get xs k ≡ Some x → slice_get ys k ≡ Some y
    → test x (f y) ≡ true → each_pair test (drop (k + 1) xs) (map f (drop (k + 1) ys)) ≡ each_pair test (drop k xs) (map f (drop k ys))
pair-passed f test xs ys k x y at there passes = sym (pair-first f test xs ys k x y at there ∙ ap (λ b. b && each_pair test (drop (k + 1) xs) (map f (drop (k + 1) ys))) passes)

-- the first items, mapped, and one more
pub mapped-next : {X Y : Type 0} (f : X → Y) (xs : List X) (k : ℕ) (x : X) → slice_get xs k ≡ Some x → map f (take (k + 1) xs) ≡ map f (take k xs) ++ f x ∷ []
mapped-next f xs k x at = ap (map f) (take-next xs k x at) ∙ map-push f (take k xs) x

-- items at one place of lists that are mapped to the same
pub same-mapped : {X Y : Type 0} (f : X → Y) (xs ys : List X) (k : ℕ) (x y : X) → slice_get xs k ≡ Some x → slice_get ys k ≡ Some y → map f xs ≡ map f ys → f x ≡ f y
same-mapped f xs ys k x y at there same =
    let e : Some (f x) ≡ Some (f y) = sym (slice_get-map f xs k x at) ∙ ap (λ zs. slice_get zs k) same ∙ slice_get-map f ys k y there in cc

-- an item below the length
pub there-at : {X : Type 0} (xs : List X) (k : ℕ) → k < length xs → (x : X) × (slice_get xs k ≡ Some x)
there-at [] k less = absurd (omega arith)
there-at (x ∷ xs) zero less = (x, refl)
there-at (x ∷ xs) (suc k) less = there-at xs k (omega arith)

-- what holds of all items holds of each
pub all-at : {X : Type 0} (P : X → Type 0) (xs : List X) → All P xs → (k : ℕ) (x : X) → slice_get xs k ≡ Some x → P x
all-at P xs h k x at = subst P (get_or_from_slice_get xs k x x at) (h k x (slice_get_within xs k x at))
