-- What the tests of a neighbour against an end and a weight say of each other.
use Rattle.std.proofs.Common.{◌≡◌, ℕ, Bool, true, false, ◌&&◌, ◌||◌, ◌==◌, nat_lt, arith}
use Rattle.std.proofs.lemmas.Bool.Decides.{nat_tests}

-- the order of two ends and weights
abbrev pub below : ℕ → ℕ → ℕ → ℕ → Bool
below e w f v = nat_lt e f || (e == f && nat_lt w v)

pub below-trans : (a b c d e f : ℕ) → below a b c d ≡ true → below c d e f ≡ true → below a b e f ≡ true
below-trans a b c d e f h k = grind (arith, nat_tests)

pub below-same : (a b c d : ℕ) → below a b c d ≡ true → (a == c && b == d) ≡ false
below-same a b c d h = grind (arith, nat_tests)

-- of two that differ one is below the other
pub below-other : (a b c d : ℕ) → below a b c d ≡ false → (a == c && b == d) ≡ false → below c d a b ≡ true
below-other a b c d h k = grind (arith, nat_tests)

pub same-first : (a b c d : ℕ) → (a == c && b == d) ≡ true → a ≡ c
same-first a b c d h = grind (arith, nat_tests)

pub same-second : (a b c d : ℕ) → (a == c && b == d) ≡ true → b ≡ d
same-second a b c d h = grind (arith, nat_tests)

-- what isn't below (e, w) stands before nothing that is one of (e, w)
pub below-past : (a b c d e w : ℕ) → below a b e w ≡ false → below a b c d ≡ true → below c d e w ≡ false
below-past a b c d e w h k = grind (arith, nat_tests)

pub same-past : (a b c d e w : ℕ) → below a b e w ≡ false → below a b c d ≡ true → (c == e && d == w) ≡ false
same-past a b c d e w h k = grind (arith, nat_tests)

pub below-self : (a b : ℕ) → below a b a b ≡ false
below-self a b = grind (arith, nat_tests)

pub same-self : (a b : ℕ) → (a == a && b == b) ≡ true
same-self a b = grind (arith, nat_tests)

pub below-back : (a b c d : ℕ) → below a b c d ≡ true → below c d a b ≡ false
below-back a b c d h = grind (arith, nat_tests)

pub same-back : (a b c d : ℕ) → below a b c d ≡ true → (c == a && d == b) ≡ false
same-back a b c d h = grind (arith, nat_tests)

pub below-not_same : (a b c d : ℕ) → (a == c && b == d) ≡ true → below a b c d ≡ false
below-not_same a b c d h = grind (arith, nat_tests)
