-- Counts, filters and lists joined end to end, where one item of a list changes.
use Rattle.std.proofs.Common.{◌≡◌, ◌≢◌, ℕ, zero, suc, ◌+◌, ◌<◌, ◌≤◌, Bool, true, false, not, ◌==◌, if◌then◌else◌, cond, List, [], ◌∷◌, ◌++◌, length, get_or, set, take, arith, append_assoc, refl, inl, inr, sym, ap, subst, ◌∙◌}
use Rattle.std.specs.List.{All, AllPairs, Contains, count_by, filter, flat_map}
use Rattle.std.specs.List.Sorted.{IsPermutation}
use Rattle.std.proofs.lemmas.List.Sorted.{IsPermutation-trans, IsPermutation-append_left, IsPermutation-append_right, IsPermutation-append_comm}
use Rattle.std.proofs.lemmas.Bool.{cases_Bool, cases_lt, cases_eq, eq-eqb}
use Rattle.std.proofs.lemmas.List.{get_or-take, get_or_append_left, length-append, length-take-le}
use Rattle.std.proofs.lemmas.List.Concat.{flat_map-cons}
use Rattle.std.proofs.lemmas.List.Elements.{All-head, All-tail, All-contains, Contains-get_or}
use Rattle.std.proofs.lemmas.List.Sums.{length-filter, sum_by_more_le}
use Rattle.std.proofs.lemmas.List.Filters.{length-filter_both}
use Rattle.ris_base.proofs.EffectLemmas.{one_if, count_by-cons}
use Rattle.ris_base.proofs.ListLemmas.{Contains-first, Contains-rest, Contains-filter}
use Rattle.std.proofs.lemmas.Bool.{eqb-false, not-true}

-- Counts

-- what is counted stands in the list
pub found-count : {X : Type 0} (p : X → Bool) (xs : List X) → 0 < count_by p xs → (x : X) × Contains xs x × (p x ≡ true)
found-count p [] some = absurd (omega arith)
found-count p (x ∷ xs) some =
    let first = count_by-cons p x xs in
    elim (cases_Bool (p x)) [
      | inl passes ↦ (x, Contains-first x xs, passes)
      | inr fails ↦ (let none : one_if (p x) ≡ 0 = rw fails refl in
          let r = found-count p xs (omega arith) in (r.0, Contains-rest x xs r.0 r.1, r.2))
    ]

-- a test and its opposite count all
count_by-both : {X : Type 0} (p : X → Bool) (xs : List X) → count_by p xs + count_by (λ x. not (p x)) xs ≡ length xs
count_by-both p xs = (let a = length-filter p xs in let b = length-filter (λ x. not (p x)) xs in let both = length-filter_both p (λ x. not (p x)) (λ x. refl) xs in omega arith)

-- a filter counts no more than its list
count_by-filter_le : {X : Type 0} (p q : X → Bool) (xs : List X) → count_by p (filter q xs) ≤ count_by p xs
count_by-filter_le p q [] = omega arith
count_by-filter_le p q (x ∷ xs) =
    let rest = count_by-filter_le p q xs in
    let first = count_by-cons p x xs in
    elim (cases_Bool (q x)) [
      | inl stays ↦ rw stays (let kept = count_by-cons p x (filter q xs) in omega arith)
      | inr goes ↦ rw goes (omega arith)
    ]

-- numbers below n, of which each stands once at most, are at most n
pub few-once : (n : ℕ) (xs : List ℕ) → All (λ x. x < n) xs → ((x : ℕ) → count_by (λ y. y == x) xs ≤ 1) → length xs ≤ n
few-once zero [] low once = omega arith
few-once zero (x ∷ xs) low once = (let lt = low 0 0 (omega arith) in absurd (omega arith))
few-once (suc n) xs low once =
    let others = filter (λ y. not (y == n)) xs in
    let size : length others ≡ count_by (λ y. not (y == n)) xs = length-filter (λ y. not (y == n)) xs in
    let both = count_by-both (λ y. y == n) xs in
    let one = once n in
    let less = few-once n others (λ k d lt. (
    let x = get_or others k d in
    let from = Contains-filter (λ y. not (y == n)) xs x (Contains-get_or others k d lt) in
    let below = All-contains (λ y. y < suc n) xs x low from.0 in
    let other = eqb-false x n (not-true (x == n) from.1) in
    omega arith)) (λ x. (let le = count_by-filter_le (λ y. y == x) (λ y. not (y == n)) xs in let few = once x in omega arith)) in
    omega arith

-- what is counted once at most stands at one place
once-before : {X : Type 0} (f : X → ℕ) (xs : List X) (d : X) → ((n : ℕ) → count_by (λ x. f x == n) xs ≤ 1) → (i j : ℕ) → i < j → j < length xs → f (get_or xs i d) ≡ f (get_or xs j d) → ⊥
once-before {X} f xs d once i j before lt same =
    let n = f (get_or xs j d) in
    let test = λ (x : X). one_if (f x == n) in
    let size = length-take-le j xs (omega arith) in
    let inner = sum_by_more_le test (take j xs) i d (omega arith) in
    let outer = sum_by_more_le test xs j d lt in
    let few = once n in
    let read = get_or-take j xs i d before in
    let first : one_if (f (get_or (take j xs) i d) == f (get_or xs j d)) ≡ 1 = rw (read, eq-eqb (f (get_or xs i d)) (f (get_or xs j d)) same) refl in
    let second : one_if (f (get_or xs j d) == f (get_or xs j d)) ≡ 1 = rw (eq-eqb (f (get_or xs j d)) (f (get_or xs j d)) refl) refl in
    omega arith

pub once-place : {X : Type 0} (f : X → ℕ) (xs : List X) (d : X) → ((n : ℕ) → count_by (λ x. f x == n) xs ≤ 1) → (i j : ℕ) → i < length xs → j < length xs
    → f (get_or xs i d) ≡ f (get_or xs j d) → i ≡ j
once-place f xs d once i j li lj same =
    elim (cases_lt i j) [
      | inl before ↦ absurd (once-before f xs d once i j before lj same)
      | inr past ↦ elim (cases_eq i j) [ inl e ↦ e | inr n ↦ absurd (once-before f xs d once j i (omega arith) li (sym same)) ]
    ]

-- Filters

-- an item that fails may be another that fails
pub filter-set_same : {X : Type 0} (p : X → Bool) (xs : List X) (k : ℕ) (y d : X) → p (get_or xs k d) ≡ false → p y ≡ false → filter p (set xs k y) ≡ filter p xs
filter-set_same p [] k y d was now = refl
filter-set_same p (x ∷ xs) zero y d was now = rw (was, now) refl
filter-set_same p (x ∷ xs) (suc k) y d was now = ap (λ l. cond (p x) (x ∷ l) l) (filter-set_same p xs k y d was now)

-- where all fail, nothing is left
pub filter-none : {X : Type 0} (p : X → Bool) (xs : List X) (d : X) → ((i : ℕ) → i < length xs → p (get_or xs i d) ≡ false) → filter p xs ≡ []
filter-none p [] d none = refl
filter-none p (x ∷ xs) d none = rw (none 0 (omega arith)) (filter-none p xs d (λ i lt. none (suc i) (omega arith)))

-- where all others fail, at most the item at one place is left
pub filter-at : {X : Type 0} (p : X → Bool) (xs : List X) (k : ℕ) (d : X) → k < length xs → ((i : ℕ) → i < length xs → i ≢ k → p (get_or xs i d) ≡ false)
    → filter p xs ≡ (if p (get_or xs k d) then get_or xs k d ∷ [] else [])
filter-at p [] k d lt others = absurd (omega arith)
filter-at p (x ∷ xs) zero d lt others = ap (λ l. cond (p x) (x ∷ l) l) (filter-none p xs d (λ i less. others (suc i) (omega arith) (λ e. absurd (omega arith))))
filter-at p (x ∷ xs) (suc k) d lt others =
    rw (others 0 (omega arith) (λ e. absurd (omega arith))) (filter-at p xs k d (omega arith) (λ i less ne. others (suc i) (omega arith) (λ e. ne (omega arith))))

-- Lists joined end to end

pub flat_map-agree : {X Y : Type 0} (f g : X → List Y) (xs : List X) → All (λ x. f x ≡ g x) xs → flat_map f xs ≡ flat_map g xs
flat_map-agree f g [] same = refl
flat_map-agree f g (x ∷ xs) same =
    flat_map-cons f x xs ∙ ap (λ l. l ++ flat_map f xs) (All-head (λ y. f y ≡ g y) x xs same)
    ∙ ap (λ l. g x ++ l) (flat_map-agree f g xs (All-tail (λ y. f y ≡ g y) x xs same)) ∙ sym (flat_map-cons g x xs)

-- the front and the rest of what holds of two lists one after the other
pub All-front : {X : Type 0} (P : X → Type 0) (xs ys : List X) → All P (xs ++ ys) → All P xs
All-front P xs ys h k d lt = (let size = length-append xs ys in subst P (get_or_append_left xs ys d k lt) (h k d (omega arith)))

pub All-behind : {X : Type 0} (P : X → Type 0) (xs ys : List X) → All P (xs ++ ys) → All P ys
All-behind P [] ys h = h
All-behind P (x ∷ xs) ys h = All-behind P xs ys (All-tail P x (xs ++ ys) h)

-- Pairs

pub AllPairs-nil : {X : Type 0} (R : X → X → Type 0) → AllPairs R []
AllPairs-nil R i j d lt less = absurd (omega arith)

pub AllPairs-head : {X : Type 0} (R : X → X → Type 0) (x : X) (xs : List X) → AllPairs R (x ∷ xs) → All (R x) xs
AllPairs-head R x xs pairs k d lt = pairs 0 (suc k) d (omega arith) (omega arith)

pub AllPairs-tail : {X : Type 0} (R : X → X → Type 0) (x : X) (xs : List X) → AllPairs R (x ∷ xs) → AllPairs R xs
AllPairs-tail R x xs pairs i j d lt less = pairs (suc i) (suc j) d (omega arith) (omega arith)

-- Lists joined end to end

-- one of the pieces gains what is put before all of them, in some order
pub IsPermutation-flat_map_set : {X A : Type 0} (f : X → List A) (more : List A) (pieces : List X) (k : ℕ) (old new : X) → k < length pieces → old ≡ get_or pieces k old
    → IsPermutation (more ++ f old) (f new) → IsPermutation (more ++ flat_map f pieces) (flat_map f (set pieces k new))
IsPermutation-flat_map_set f more [] k old new lt is moved = absurd (omega arith)
IsPermutation-flat_map_set f more (x ∷ rest) zero old new lt is moved =
    rw (← append_assoc more (f x) (flat_map f rest)) (IsPermutation-append_left (flat_map f rest) (more ++ f x) (f new) (rw is at moved))
IsPermutation-flat_map_set f more (x ∷ rest) (suc k) old new lt is moved =
    let inner = IsPermutation-flat_map_set f more rest k old new (omega arith) is moved in
    let front = IsPermutation-append_left (flat_map f rest) (more ++ f x) (f x ++ more) (IsPermutation-append_comm more (f x)) in
    IsPermutation-trans _ _ _ (rw (append_assoc more (f x) (flat_map f rest), append_assoc (f x) more (flat_map f rest)) at front)
    (IsPermutation-append_right (f x) (more ++ flat_map f rest) (flat_map f (set rest k new)) inner)
