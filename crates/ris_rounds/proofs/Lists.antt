-- Commands with their numbers, the rest of a list, pairs, and items found by a key.
use Rattle.std.proofs.Common.{◌≡◌, ◌≢◌, ℕ, zero, suc, ◌+◌, ◌==◌, inl, inr, Bool, true, false, cond, List, [], ◌∷◌, ◌++◌, length, map, take, drop, get_or, Option, Some, None, arith, refl, sym, subst, ap, ◌∙◌}
use Rattle.std.specs.List.{Contains, find, list_any, slice_get}
use Rattle.std.proofs.lemmas.Bool.{cond-true, cond-false, eq-eqb, eqb-true, ne_eqb, true≢false}
use Rattle.std.proofs.lemmas.List.Elements.{Contains-append_right}
use Rattle.std.proofs.lemmas.Option.{slice_get_within}
use Rattle.ris_base.specs.Graph.{EachOnce}
use Rattle.ris_base.specs.Legal.{Asked}
use Rattle.ris_base.specs.Lists.{EachPair}
use Rattle.ris_base.specs.Machine.{is_leave, next_seq}
use Rattle.ris_base.specs.Shape.{EndsByLeave}
use Rattle.ris_base.specs.Transcript.{numbered_from}
use Rattle.ris_base.specs.declared.commands.Command.{Command}
use Rattle.ris_base.specs.declared.commands.Command.TheVariants as command
use Rattle.ris_base.proofs.ListLemmas.{Contains-cases, Contains-first, Contains-none, Contains-rest, EachOnce-head, EachOnce-tail}

-- Numbered commands

pub length-numbered_from : (q : ℕ) (cs : List Command) → length (numbered_from q cs) ≡ length cs
unfolding numbered_from
length-numbered_from q [] = refl
length-numbered_from q (c ∷ cs) = ap suc (length-numbered_from (q + 1) cs)

-- each has its number
pub numbered-seq : (q : ℕ) (cs : List Command) (i : ℕ) (a : Asked) → slice_get (numbered_from q cs) i ≡ Some a → a.seq ≡ q + i
unfolding numbered_from
numbered-seq q [] i a at = absurd (let w = slice_get_within [] i a at in omega arith)
numbered-seq q (c ∷ cs) zero a at =
    let same : record { seq = q; command = c } ≡ a = cc in let e = ap (λ (x : Asked). x.seq) same in omega arith
numbered-seq q (c ∷ cs) (suc i) a at = let e = numbered-seq (q + 1) cs i a at in omega arith

-- a command has its number
pub numbered-at : (q : ℕ) (cs : List Command) (i : ℕ) (c : Command) → slice_get cs i ≡ Some c
    → slice_get (numbered_from q cs) i ≡ Some (record { seq = q + i; command = c })
unfolding numbered_from
numbered-at q [] i c at = absurd (let w = slice_get_within [] i c at in omega arith)
numbered-at q (d ∷ cs) zero c at =
    let same : d ≡ c = cc in let number : q ≡ q + 0 = omega arith in
    ap (λ (k : ℕ). Some (record { seq = k; command = d })) number ∙ ap (λ (x : Command). Some (record { seq = q + 0; command = x })) same
numbered-at q (d ∷ cs) (suc i) c at =
    let number : (q + 1) + i ≡ q + suc i = omega arith in
    numbered-at (q + 1) cs i c at ∙ ap (λ (k : ℕ). Some (record { seq = k; command = c })) number

-- the next number is how many there are
next_seq-from : (q : ℕ) (c : Command) (cs : List Command) → next_seq (numbered_from q (c ∷ cs)) ≡ q + length (c ∷ cs)
unfolding numbered_from next_seq
next_seq-from q c [] = omega arith
next_seq-from q c (d ∷ cs) = let e = next_seq-from (q + 1) d cs in omega arith

pub next_seq-numbered : (cs : List Command) → next_seq (numbered_from 0 cs) ≡ length cs
unfolding numbered_from next_seq
next_seq-numbered [] = refl
next_seq-numbered (c ∷ cs) = let e = next_seq-from 0 c cs in omega arith

-- no leave stands before a command of a list that ends by one
pub no-leave : (q : ℕ) (cs : List Command) (k : ℕ) (c : Command) → EndsByLeave cs → slice_get cs k ≡ Some c
    → list_any is_leave (numbered_from q (take k cs)) ≡ false
unfolding numbered_from
no-leave q [] k c ends at = absurd (let w = slice_get_within [] k c at in omega arith)
no-leave q (x ∷ cs) zero c ends at = refl
no-leave q (command.Change parts ∷ cs) (suc k) c ends at = no-leave (q + 1) cs k c ends at
no-leave q (command.Release upto ∷ cs) (suc k) c ends at = no-leave (q + 1) cs k c ends at
no-leave q (command.Leave ∷ cs) (suc k) c ends at =
    let here : slice_get [] k ≡ Some c = ap (λ (xs : List Command). slice_get xs k) (sym ends) ∙ at in
    absurd (let w = slice_get_within [] k c here in omega arith)
no-leave q (command.Value version a x ∷ cs) (suc k) c ends at = no-leave (q + 1) cs k c ends at
no-leave q (command.Parent version a x ∷ cs) (suc k) c ends at = no-leave (q + 1) cs k c ends at
no-leave q (command.Path version a x ∷ cs) (suc k) c ends at = no-leave (q + 1) cs k c ends at
no-leave q (command.Modified version a ∷ cs) (suc k) c ends at = no-leave (q + 1) cs k c ends at
no-leave q (command.Current ∷ cs) (suc k) c ends at = no-leave (q + 1) cs k c ends at

-- Firsts and rests

-- a list without a first item has none
pub none-first : {X : Type 0} (xs : List X) → slice_get xs 0 ≡ None → xs ≡ []
none-first [] h = refl
none-first (x ∷ xs) h = absurd (let w : Some x ≡ None = h in cc)

-- the rest of each list of a list
pub rest-at : {X : Type 0} (xss : List (List X)) (n : ℕ) → get_or (map (drop 1) xss) n [] ≡ drop 1 (get_or xss n [])
rest-at [] n = refl
rest-at (xs ∷ xss) zero = refl
rest-at (xs ∷ xss) (suc n) = rest-at xss n

-- Pairs

-- lists that are as long, whose items at each place are so related
pub each-pair : {X Y : Type 0} (R : X → Y → Type 0) (xs : List X) (ys : List Y) → length xs ≡ length ys
    → ((k : ℕ) (x : X) (y : Y) → slice_get xs k ≡ Some x → slice_get ys k ≡ Some y → R x y) → EachPair R xs ys
each-pair R [] [] same each = tt
each-pair R [] (y ∷ ys) same each = absurd (omega arith)
each-pair R (x ∷ xs) [] same each = absurd (omega arith)
each-pair R (x ∷ xs) (y ∷ ys) same each =
    (each 0 x y refl refl, each-pair R xs ys (omega arith) (λ k a b first second. each (suc k) a b first second))

-- Keys

-- what a list has, the mapped list has mapped
pub Contains-mapped : {X Y : Type 0} (f : X → Y) (xs : List X) (x : X) → Contains xs x → Contains (map f xs) (f x)
Contains-mapped f [] x h = absurd (Contains-none x h)
Contains-mapped f (y ∷ xs) x h = elim (Contains-cases y xs x h) [
  | inl first ↦ subst (λ (z : _). Contains (f y ∷ map f xs) (f z)) first (Contains-first (f y) (map f xs))
  | inr later ↦ Contains-rest (f y) (map f xs) (f x) (Contains-mapped f xs x later)
]

-- a key that no item has finds nothing
pub find-no : {X : Type 0} (f : X → ℕ) (xs : List X) (n : ℕ) → ¬ (Contains (map f xs) n) → find (λ x. f x == n) xs ≡ None
find-no f [] n lacks = refl
find-no {X = X} f (x ∷ xs) n lacks =
    cond-false {A = Option X} (f x == n) (Some x) (find (λ y. f y == n) xs)
    (ne_eqb (f x) n (λ same. lacks (subst (λ (m : ℕ). Contains (f x ∷ map f xs) m) same (Contains-first (f x) (map f xs)))))
    ∙ find-no f xs n (λ h. lacks (Contains-rest (f x) (map f xs) n h))

-- what a key finds has that key and is in the list
pub find-some : {X : Type 0} (f : X → ℕ) (xs : List X) (n : ℕ) (y : X) → find (λ x. f x == n) xs ≡ Some y → (f y ≡ n) × Contains xs y
find-some f [] n y h = absurd (cc)
find-some {X = X} f (x ∷ xs) n y h = go (f x == n) refl h (λ is. find-some f xs n y is)
  where
    go : (b : Bool) → (f x == n) ≡ b → cond b (Some x) (find (λ z. f z == n) xs) ≡ Some y
        → (find (λ z. f z == n) xs ≡ Some y → (f y ≡ n) × Contains xs y) → (f y ≡ n) × Contains (x ∷ xs) y
    go true e is rest =
        let same : x ≡ y = cc in
        (ap f (sym same) ∙ eqb-true (f x) n e, subst (λ (z : X). Contains (x ∷ xs) z) same (Contains-first x xs))
    go false e is rest = let more = rest is in (more.0, Contains-rest x xs y more.1)

-- a key that finds nothing is none of an item's
pub find-none : {X : Type 0} (f : X → ℕ) (xs : List X) (n : ℕ) (y : X) → find (λ x. f x == n) xs ≡ None → Contains xs y → f y ≢ n
find-none f [] n y h has = absurd (Contains-none y has)
find-none {X = X} f (x ∷ xs) n y h has = go (f x == n) refl h (λ is later. find-none f xs n y is later)
  where
    go : (b : Bool) → (f x == n) ≡ b → cond b (Some x) (find (λ z. f z == n) xs) ≡ None
        → (find (λ z. f z == n) xs ≡ None → Contains xs y → f y ≢ n) → f y ≢ n
    go true e is rest = absurd (let w : Some x ≡ None = is in cc)
    go false e is rest = elim (Contains-cases x xs y has) [
      | inl first ↦ (λ same. true≢false (sym (eq-eqb (f x) n (ap f first ∙ same)) ∙ e))
      | inr later ↦ rest is later
    ]

-- where each key stands once, no item before another has its key
pub once-before : {X : Type 0} (f : X → ℕ) (xs ys : List X) (x y : X) → EachOnce (map f (xs ++ y ∷ ys)) → Contains xs x → f x ≢ f y
once-before f [] ys x y once has = absurd (Contains-none x has)
once-before f (z ∷ xs) ys x y once has = elim (Contains-cases z xs x has) [
  | inl first ↦ (λ same. EachOnce-head (f z) (map f (xs ++ y ∷ ys)) once
      (subst (λ (n : ℕ). Contains (map f (xs ++ y ∷ ys)) n) (sym (ap f first ∙ same))
      (Contains-mapped f (xs ++ y ∷ ys) y (Contains-append_right xs (y ∷ ys) y (Contains-first y ys)))))
  | inr later ↦ once-before f xs ys x y (EachOnce-tail (f z) (map f (xs ++ y ∷ ys)) once) later
]

-- the key of an item finds it
pub find-key : {X : Type 0} (f : X → ℕ) (xs : List X) (x : X) → EachOnce (map f xs) → Contains xs x → find (λ y. f y == f x) xs ≡ Some x
find-key f [] x once h = absurd (Contains-none x h)
find-key {X = X} f (y ∷ xs) x once h = elim (Contains-cases y xs x h) [
  | inl first ↦ cond-true {A = Option X} (f y == f x) (Some y) (find (λ z. f z == f x) xs) (eq-eqb (f y) (f x) (ap f first)) ∙ ap Some first
  | inr later ↦ cond-false {A = Option X} (f y == f x) (Some y) (find (λ z. f z == f x) xs)
      (ne_eqb (f y) (f x) (λ same. EachOnce-head (f y) (map f xs) once (subst (λ (n : ℕ). Contains (map f xs) n) (sym same) (Contains-mapped f xs x later))))
      ∙ find-key f xs x (EachOnce-tail (f y) (map f xs) once) later
]
