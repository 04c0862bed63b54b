-- Words on lists and options that the definitions share.
use Rattle.std.specs.Prelude.{ℕ, zero, suc, ◌≤◌, Bool, true, false, ◌&&◌, List, [], ◌∷◌, ◌++◌, Option, Some, None, Result, Ok, Err, ⊤}

-- the two lists are as long, and R holds of each pair
abbrev pub EachPair : {X Y : Type 0} → (X → Y → Type 0) → List X → List Y → Type 0
EachPair R [] [] = ⊤
EachPair R (x ∷ xs) (y ∷ ys) = R x y × EachPair R xs ys
EachPair R [] (y ∷ ys) = ⊥
EachPair R (x ∷ xs) [] = ⊥

-- whether the two lists are as long, and each pair passes the test
abbrev pub each_pair : {X Y : Type 0} → (X → Y → Bool) → List X → List Y → Bool
each_pair test [] [] = true
each_pair test (x ∷ xs) (y ∷ ys) = test x y && each_pair test xs ys
each_pair test [] (y ∷ ys) = false
each_pair test (x ∷ xs) [] = false

-- the least number of which P holds
abbrev pub IsLeast : (ℕ → Type 0) → ℕ → Type 0
IsLeast P n = P n × ((m : ℕ) → P m → n ≤ m)

-- a result, unless there is an error
abbrev pub unless : {A E : Type 0} → Option E → A → Result A E
unless None a = Ok a
unless (Some e) a = Err e

-- the numbers from 0 up to n less one
unfoldable pub numbers_below : ℕ → List ℕ
numbers_below zero = []
numbers_below (suc n) = numbers_below n ++ n ∷ []
