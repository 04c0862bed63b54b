-- The numbers that up to six bytes spell, each by the number of the bytes before the last one.
use Rattle.std.proofs.Common.{◌≡◌, ℕ, ◌+◌, ◌-◌, ◌*◌, ◌^◌, ◌<◌, Bool, true, false, ◌&&◌, nat_le, List, [], ◌∷◌, ◌++◌, length, Option, Some, None, arith, lit<, refl, ap, ◌∙◌, if◌then◌else◌}
use Rattle.std.specs.List.{list_all}
use Rattle.std.proofs.lemmas.Bool.Decides.{nat_tests}
use Rattle.std.proofs.lemmas.Grind.{common_steps}
use Rattle.ris_base.specs.Number.{is_digit, number_of, spelled_behind}
use Rattle.ris_base.proofs.NumberLemmas.{few_digits, more_digits, number_of-other, number_of-spelled}
use Rattle.ris_script.specs.Digits.{digit_of}

-- a digit is below ten
digit-small : (byte : ℕ) → is_digit byte ≡ true → byte - 48 < 10
digit-small byte e = by (nat_le 48 byte) (nat_le byte 57) refl refl e
  where
    by : (a b : Bool) → nat_le 48 byte ≡ a → nat_le byte 57 ≡ b → (a && b) ≡ true → byte - 48 < 10
    by false b p q f = cc f
    by true false p q f = cc f
    by true true p q f = let least : 48 < byte + 1 = grind (arith, nat_tests) in let most : byte < 58 = grind (arith, nat_tests) in omega (arith, most)

-- digits behind a number of k digits
spelled_behind-small : (a k j : ℕ) (digits : List ℕ) → a < 10 ^ k → list_all is_digit digits ≡ true → j ≡ k + length digits → spelled_behind a digits < 10 ^ j
spelled_behind-small a k j [] small all same =
    let here : j ≡ k = omega (arith, same) in
    rw here small
spelled_behind-small a k j (d ∷ ds) small all same =
    let first : is_digit d ≡ true = grind (arith, common_steps, all) in
    let rest : list_all is_digit ds ≡ true = grind (arith, common_steps, all) in
    let more = more_digits a (d - 48) k small (digit-small d first) in
    spelled_behind-small (10 * a + (d - 48)) (k + 1) j ds more rest (omega (arith, same))

-- up to 19 digits spell a number
number_of-few : (field : List ℕ) → 0 < length field → length field < 20 → list_all is_digit field ≡ true → number_of field ≡ Some (spelled_behind 0 field)
number_of-few field filled few all =
    let small = spelled_behind-small 0 0 (length field) field (lit< tt) all (omega arith) in
    number_of-spelled field filled (omega (arith, few)) all (few_digits (spelled_behind 0 field) (length field) small (omega (arith, few)))

-- the digit behind the others counts once, and they ten times
spelled_behind-last : (a : ℕ) (digits : List ℕ) (d : ℕ) → spelled_behind a (digits ++ d ∷ []) ≡ 10 * spelled_behind a digits + (d - 48)
spelled_behind-last a [] d = refl
spelled_behind-last a (x ∷ xs) d = spelled_behind-last (10 * a + (x - 48)) xs d

-- the number with a digit behind it, where both are there
abbrev pub with_digit : Option ℕ → Option ℕ → Option ℕ
with_digit (Some n) (Some d) = Some (10 * n + d)
with_digit n d = None

-- one digit behind 1 to 18
last_digit : (field : List ℕ) (d : ℕ) → 0 < length field → length field < 19 → number_of (field ++ d ∷ []) ≡ with_digit (number_of field) (digit_of d)
last_digit field d filled few = by (list_all is_digit field) (is_digit d) refl refl
  where
    longer : length (field ++ d ∷ []) ≡ length field + 1
    longer = grind (arith, common_steps)

    by : (p q : Bool) → list_all is_digit field ≡ p → is_digit d ≡ q
        → number_of (field ++ d ∷ []) ≡ with_digit (number_of field) (if q then Some (d - 48) else None)
    by false q e f =
        let other : list_all is_digit (field ++ d ∷ []) ≡ false = grind (arith, common_steps, e) in
        rw (number_of-other field e) (number_of-other (field ++ d ∷ []) other)
    by true false e f =
        let other : list_all is_digit (field ++ d ∷ []) ≡ false = grind (arith, common_steps, e, f) in
        rw (number_of-few field filled (omega (arith, few)) e) (number_of-other (field ++ d ∷ []) other)
    by true true e f =
        let all : list_all is_digit (field ++ d ∷ []) ≡ true = grind (arith, common_steps, e, f) in
        let value = number_of-few (field ++ d ∷ []) (omega (arith, longer)) (omega (arith, longer, few)) all in
        rw (number_of-few field filled (omega (arith, few)) e) (rw (spelled_behind-last 0 field d) at value)

pub one_digit : (a : ℕ) → number_of (a ∷ []) ≡ digit_of a
one_digit a = by (is_digit a) refl
  where
    by : (b : Bool) → is_digit a ≡ b → number_of (a ∷ []) ≡ (if b then Some (a - 48) else None)
    by false e = number_of-other (a ∷ []) (rw e refl)
    by true e =
        let same : spelled_behind 0 (a ∷ []) ≡ a - 48 = omega arith in
        number_of-few (a ∷ []) (lit< tt) (lit< tt) (rw e refl) ∙ ap Some same

pub two_digits : (a b : ℕ) → number_of (a ∷ b ∷ []) ≡ with_digit (number_of (a ∷ [])) (digit_of b)
two_digits a b = last_digit (a ∷ []) b (lit< tt) (lit< tt)

pub three_digits : (a b c : ℕ) → number_of (a ∷ b ∷ c ∷ []) ≡ with_digit (number_of (a ∷ b ∷ [])) (digit_of c)
three_digits a b c = last_digit (a ∷ b ∷ []) c (lit< tt) (lit< tt)

pub four_digits : (a b c d : ℕ) → number_of (a ∷ b ∷ c ∷ d ∷ []) ≡ with_digit (number_of (a ∷ b ∷ c ∷ [])) (digit_of d)
four_digits a b c d = last_digit (a ∷ b ∷ c ∷ []) d (lit< tt) (lit< tt)

pub five_digits : (a b c d e : ℕ) → number_of (a ∷ b ∷ c ∷ d ∷ e ∷ []) ≡ with_digit (number_of (a ∷ b ∷ c ∷ d ∷ [])) (digit_of e)
five_digits a b c d e = last_digit (a ∷ b ∷ c ∷ d ∷ []) e (lit< tt) (lit< tt)

pub six_digits : (a b c d e f : ℕ) → number_of (a ∷ b ∷ c ∷ d ∷ e ∷ f ∷ []) ≡ with_digit (number_of (a ∷ b ∷ c ∷ d ∷ e ∷ [])) (digit_of f)
six_digits a b c d e f = last_digit (a ∷ b ∷ c ∷ d ∷ e ∷ []) f (lit< tt) (lit< tt)
