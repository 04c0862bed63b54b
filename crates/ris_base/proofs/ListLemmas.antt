-- What lists contain, what filters leave, and lists in which each number stands once.
use Rattle.std.proofs.Common.{◌≡◌, ℕ, zero, suc, ◌<◌, Bool, true, false, ◌⊎◌, inl, inr, List, [], ◌∷◌, ◌++◌, length, get_or, arith, refl, sym, subst, ap, ◌∙◌, cond}
use Rattle.std.specs.List.{All, Contains, filter, list_any}
use Rattle.std.proofs.lemmas.Bool.{true≢false, and_parts, or_cases, or_left, or_right, cond_both}
use Rattle.std.proofs.lemmas.List.{get_or_default}
use Rattle.std.proofs.lemmas.List.Elements.{All-nil, All-cons, All-contains, All-contains_itself, All-filter, filter_passes, Contains-append_cases, Contains-append_right, Contains-push_cases}
use Rattle.ris_base.specs.Graph.{EachOnce}
use Rattle.ris_base.specs.Lists.{EachPair, each_pair}

-- Membership

-- nothing is in an empty list
pub Contains-none : {X : Type 0} (x : X) → ¬ (Contains [] x)
Contains-none x h = let less = h.1 in absurd (omega arith)

-- the first item is in its list
pub Contains-first : {X : Type 0} (m : X) (rest : List X) → Contains (m ∷ rest) m
Contains-first m rest = (0, omega arith, refl)

-- and so are the others
pub Contains-rest : {X : Type 0} (m : X) (rest : List X) (n : X) → Contains rest n → Contains (m ∷ rest) n
Contains-rest m rest n h = Contains-append_right (m ∷ []) rest n h

-- the item at a place of a list of one
single_at : {X : Type 0} (m n : X) (k : ℕ) → k < 1 → get_or (m ∷ []) k n ≡ n → m ≡ n
single_at m n zero less e = e
single_at m n (suc k) less e = absurd (omega arith)

-- the one item of a list
pub Contains-one : {X : Type 0} (m n : X) → Contains (m ∷ []) n → m ≡ n
Contains-one m n h = single_at m n h.0 h.1 h.2

-- an item is the first or one of the others
pub Contains-cases : {X : Type 0} (m : X) (rest : List X) (n : X) → Contains (m ∷ rest) n → (m ≡ n) ⊎ Contains rest n
Contains-cases m rest n h = elim (Contains-append_cases (m ∷ []) rest n h) [ inl one ↦ inl (Contains-one m n one) | inr other ↦ inr other ]

-- what holds of each item that a list contains holds of all
pub All-from_Contains : {X : Type 0} (P : X → Type 0) (xs : List X) → ((x : X) → Contains xs x → P x) → All P xs
All-from_Contains P xs h k d less = h (get_or xs k d) (k, less, get_or_default xs k _ d less)

-- Tests of items

-- where a test finds something, an item passes it
pub Contains-from_list_any : {X : Type 0} (p : X → Bool) (xs : List X) → list_any p xs ≡ true → (x : X) × Contains xs x × (p x ≡ true)
Contains-from_list_any p [] h = absurd (true≢false (sym h))
Contains-from_list_any p (x ∷ xs) h = elim (or_cases (p x) (list_any p xs) h) [
  | inl here ↦ (x, Contains-first x xs, here)
  | inr more ↦ (let r = Contains-from_list_any p xs more in (r.0, Contains-rest x xs r.0 r.1, r.2))
]

-- an item that passes a test is found
pub list_any-from_passing : {X : Type 0} (p : X → Bool) (xs : List X) (x : X) → Contains xs x → p x ≡ true → list_any p xs ≡ true
list_any-from_passing p [] x h passes = absurd (Contains-none x h)
list_any-from_passing p (m ∷ rest) x h passes = elim (Contains-cases m rest x h) [
  | inl same ↦ or_left (p m) (list_any p rest) (subst (λ y. p y ≡ true) (sym same) passes)
  | inr other ↦ or_right (p m) (list_any p rest) (list_any-from_passing p rest x other passes)
]

-- Pairs

-- what holds of each pair, with what a test says of it, gives something else of each pair
pub EachPair-tested : {X Y : Type 0} (R S : X → Y → Type 0) (test : X → Y → Bool) → ((x : X) (y : Y) → R x y → test x y ≡ true → S x y)
    → (xs : List X) (ys : List Y) → EachPair R xs ys → each_pair test xs ys ≡ true → EachPair S xs ys
EachPair-tested R S test gives [] [] h k = tt
EachPair-tested R S test gives [] (y ∷ ys) h k = absurd h
EachPair-tested R S test gives (x ∷ xs) [] h k = absurd h
EachPair-tested R S test gives (x ∷ xs) (y ∷ ys) h k =
    let parts = and_parts (test x y) (each_pair test xs ys) k in
    (gives x y h.0 parts.0, EachPair-tested R S test gives xs ys h.1 parts.1)

-- what holds of each pair by two relations gives something of each first item
pub All-from_pairs : {X Y : Type 0} (R S : X → Y → Type 0) (P : X → Type 0) → ((x : X) (y : Y) → R x y → S x y → P x)
    → (xs : List X) (ys : List Y) → EachPair R xs ys → EachPair S xs ys → All P xs
All-from_pairs R S P gives [] [] h k = All-nil P
All-from_pairs R S P gives [] (y ∷ ys) h k = absurd h
All-from_pairs R S P gives (x ∷ xs) [] h k = absurd h
All-from_pairs R S P gives (x ∷ xs) (y ∷ ys) h k =
    All-cons P x xs (gives x y h.0 k.0) (All-from_pairs R S P gives xs ys h.1 k.1)

-- Filters

-- what a filter leaves was in the list and passes the test
pub Contains-filter : {X : Type 0} (p : X → Bool) (xs : List X) (x : X) → Contains (filter p xs) x → Contains xs x × (p x ≡ true)
Contains-filter p xs x h = (
  All-contains (Contains xs) (filter p xs) x (All-filter p (Contains xs) xs (All-contains_itself xs)) h,
  All-contains (λ y. p y ≡ true) (filter p xs) x (filter_passes p xs) h,
)

-- an item that passes the test stays
pub Contains-filtered : {X : Type 0} (p : X → Bool) (xs : List X) (x : X) → Contains xs x → p x ≡ true → Contains (filter p xs) x
Contains-filtered p [] x h passes = h
Contains-filtered p (m ∷ rest) x h passes = go (p m) refl (Contains-cases m rest x h) (λ other. Contains-filtered p rest x other passes)
  where
    go : (b : Bool) → p m ≡ b → (m ≡ x) ⊎ Contains rest x → (Contains rest x → Contains (filter p rest) x)
        → Contains (cond b (m ∷ filter p rest) (filter p rest)) x
    go true e (inl same) more = subst (Contains (m ∷ filter p rest)) same (Contains-first m (filter p rest))
    go true e (inr other) more = Contains-rest m (filter p rest) x (more other)
    go false e (inl same) more = absurd (true≢false (sym passes ∙ ap p (sym same) ∙ e))
    go false e (inr other) more = more other

-- Numbers that stand once

-- no numbers
pub EachOnce-nil : EachOnce []
EachOnce-nil i j less other same = absurd (omega arith)

-- one more number in front, which the list lacks
pub EachOnce-cons : (x : ℕ) (xs : List ℕ) → ¬ (Contains xs x) → EachOnce xs → EachOnce (x ∷ xs)
EachOnce-cons x xs new once zero zero a b same = refl
EachOnce-cons x xs new once zero (suc j) a b same =
    let less : j < length xs = omega arith in absurd (new (j, less, get_or_default xs j x 0 less ∙ sym same))
EachOnce-cons x xs new once (suc i) zero a b same =
    let less : i < length xs = omega arith in absurd (new (i, less, get_or_default xs i x 0 less ∙ same))
EachOnce-cons x xs new once (suc i) (suc j) a b same = ap (λ n. suc n) (once i j (omega arith) (omega arith) same)

-- the first number doesn't stand again
pub EachOnce-head : (x : ℕ) (xs : List ℕ) → EachOnce (x ∷ xs) → ¬ (Contains xs x)
EachOnce-head x xs once h =
    let less = h.1 in
    let e : 0 ≡ suc h.0 = once 0 (suc h.0) (omega arith) (omega arith) (sym (sym (get_or_default xs h.0 x 0 h.1) ∙ h.2)) in
    absurd (omega arith)

-- nor do the others stand twice
pub EachOnce-tail : (x : ℕ) (xs : List ℕ) → EachOnce (x ∷ xs) → EachOnce xs
EachOnce-tail x xs once i j a b same = let e = once (suc i) (suc j) (omega arith) (omega arith) same in omega arith

-- one more number at the end, which the list lacks
pub EachOnce-push : (xs : List ℕ) (x : ℕ) → EachOnce xs → ¬ (Contains xs x) → EachOnce (xs ++ x ∷ [])
EachOnce-push [] x once new = EachOnce-cons x [] (Contains-none x) EachOnce-nil
EachOnce-push (m ∷ rest) x once new =
    EachOnce-cons m (rest ++ x ∷ [])
    (λ h. elim (Contains-push_cases rest x m h) [
      | inl old ↦ EachOnce-head m rest once old
      | inr last ↦ new (subst (λ n. Contains (m ∷ rest) n) (sym last) (Contains-first m rest))
    ])
    (EachOnce-push rest x (EachOnce-tail m rest once) (λ h. new (Contains-rest m rest x h)))

-- a filter keeps the numbers once
pub EachOnce-filter : (p : ℕ → Bool) (xs : List ℕ) → EachOnce xs → EachOnce (filter p xs)
EachOnce-filter p [] once = once
EachOnce-filter p (x ∷ xs) once =
    let more = EachOnce-filter p xs (EachOnce-tail x xs once) in
    cond_both (p x) (x ∷ filter p xs) (filter p xs) EachOnce
    (λ e. EachOnce-cons x (filter p xs) (λ h. EachOnce-head x xs once (Contains-filter p xs x h).0) more)
    (λ e. more)
