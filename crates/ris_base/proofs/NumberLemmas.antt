-- What the definition of a field's number says in each case.
use Rattle.std.proofs.Common.{◌≡◌, ℕ, ◌+◌, ◌-◌, ◌*◌, ◌^◌, ◌<◌, ◌≤◌, true, false, List, [], ◌∷◌, length, Some, None, arith, lit<, refl, subst}
use Rattle.std.specs.List.{list_all}
use Rattle.std.proofs.Math.Nat.{pow-le-pow_right}
use Rattle.std.proofs.lemmas.Grind.{common_steps, pow_more}
use Rattle.ris_base.specs.Number.{is_digit, spelled_behind, number_of}

-- more digits make no smaller number
pub spelled_behind-least : (a : ℕ) (digits : List ℕ) → a ≤ spelled_behind a digits
spelled_behind-least a [] = omega arith
spelled_behind-least a (d ∷ ds) = let more = spelled_behind-least (10 * a + (d - 48)) ds in omega arith

pub number_of-empty : (field : List ℕ) → length field ≡ 0 → number_of field ≡ None
unfolding number_of
number_of-empty field h = rw h refl

pub number_of-long : (field : List ℕ) → 20 < length field → number_of field ≡ None
unfolding number_of
number_of-long field h = grind (arith, common_steps)

pub number_of-other : (field : List ℕ) → list_all is_digit field ≡ false → number_of field ≡ None
unfolding number_of
number_of-other field h = grind (arith, common_steps)

pub number_of-great : (field : List ℕ) → 2 ^ 64 ≤ spelled_behind 0 field → number_of field ≡ None
unfolding number_of
number_of-great field h = grind (arith, common_steps)

pub number_of-spelled : (field : List ℕ) → 0 < length field → length field ≤ 20 → list_all is_digit field ≡ true → spelled_behind 0 field < 2 ^ 64
    → number_of field ≡ Some (spelled_behind 0 field)
unfolding number_of
number_of-spelled field h1 h2 h3 h4 = grind (arith, common_steps)

-- a digit behind a number makes it too great, and then so are all digits behind it
pub number_of-overflow : (field : List ℕ) (a d : ℕ) (ds : List ℕ) → spelled_behind a (d ∷ ds) ≡ spelled_behind 0 field → 2 ^ 64 ≤ 10 * a + (d - 48)
    → number_of field ≡ None
number_of-overflow field a d ds same great =
    let more : 10 * a + (d - 48) ≤ spelled_behind 0 field = subst (λ (n : ℕ). 10 * a + (d - 48) ≤ n) same (spelled_behind-least (10 * a + (d - 48)) ds) in
    number_of-great field (omega arith)

-- one digit more behind a number of k digits
pub more_digits : (a d k : ℕ) → a < 10 ^ k → d < 10 → 10 * a + d < 10 ^ (k + 1)
more_digits a d k h b = let power = pow_more 10 k in omega (arith, power)

-- up to 19 digits stay below 2^64
pub few_digits : (a k : ℕ) → a < 10 ^ k → k ≤ 19 → a < 2 ^ 64
few_digits a k h few =
    let most : 10 ^ k ≤ 10 ^ 19 = pow-le-pow_right (lit< tt) few in
    let least : 10 ^ 19 < 2 ^ 64 = lit< tt in
    omega arith
