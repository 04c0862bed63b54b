-- The numbers behind the first two fields of a record, from the field at each place.
use Rattle.std.proofs.Common.{◌≡◌, ◌≢◌, ◌==◌, ℕ, suc, Bool, true, false, List, [], ◌∷◌, Option, Some, None, length, drop, arith, refl, sym, ap, ◌∙◌, if◌then◌else◌}
use Rattle.std.specs.Option.{option_and_then, option_map}
use Rattle.std.proofs.lemmas.Grind.{common_steps}
use Rattle.csv.specs.Records.{field_at}
use Rattle.ris_base.specs.Number.{number_of}
use Rattle.ris_base.specs.Script.{Fields, numbers_of, version_of}
use Rattle.ris_base.specs.declared.commands.Version.{Version}
use Rattle.ris_script.specs.Sayings.{numbers_in, version_and_numbers_in}

-- another number of fields
pub other-count : {X : Type 0} (n m : ℕ) (o : Option X) → n ≢ m → (if n == m then o else None) ≡ None
other-count {X} n m o h = by (n == m) refl
  where
    by : (b : Bool) → (n == m) ≡ b → (if b then o else None) ≡ None
    by true e = absurd (h (grind (arith, common_steps)))
    by false e = refl

-- each field spells one number
length-numbers_of : (fields : Fields) (numbers : List ℕ) → numbers_of fields ≡ Some numbers → length numbers ≡ length fields
length-numbers_of [] numbers e = let same : [] ≡ numbers = cc e in rw (← same) refl
length-numbers_of (field ∷ fields) numbers e = by (number_of field) (numbers_of fields) refl e (length-numbers_of fields)
  where
    by : (o : Option ℕ) (p : Option (List ℕ)) → numbers_of fields ≡ p
        → option_and_then (λ (n : ℕ). option_map (λ (ns : List ℕ). n ∷ ns) p) o ≡ Some numbers
        → ((ns : List ℕ) → numbers_of fields ≡ Some ns → length ns ≡ length fields) → length numbers ≡ suc (length fields)
    by None p q f more = cc f
    by (Some n) None q f more = cc f
    by (Some n) (Some ns) q f more =
        let same : n ∷ ns ≡ numbers = cc f in
        let count = more ns q in
        rw (← same) (omega (arith, count))

-- a function of so many numbers asks for so many fields
pub numbers_in-enough : {X : Type 0} (f : List ℕ → Option X) (n : ℕ) (fields : Fields) → ((numbers : List ℕ) → length numbers ≢ n → f numbers ≡ None)
    → option_and_then f (numbers_of fields) ≡ option_and_then f (numbers_in n fields)
numbers_in-enough {X} f n fields none = by (length fields == n) refl (numbers_of fields) refl
  where
    by : (b : Bool) → (length fields == n) ≡ b → (o : Option (List ℕ)) → numbers_of fields ≡ o
        → option_and_then f o ≡ option_and_then f (if b then o else None)
    by true e o p = refl
    by false e None p = refl
    by false e (Some numbers) p =
        let count = length-numbers_of fields numbers p in
        none numbers (differs count)
      where
        differs : length numbers ≡ length fields → length numbers ≢ n
        differs c d = absurd (grind (arith, common_steps))

one : (x : Option ℕ) → option_and_then (λ (n : ℕ). option_map (λ (ns : List ℕ). n ∷ ns) (Some [])) x ≡ option_map (λ (n : ℕ). n ∷ []) x
one None = refl
one (Some u) = refl

pub one_number : (fields : Fields) → numbers_in 1 (drop 2 fields) ≡ (if length fields == 3 then option_map (λ (x : ℕ). x ∷ []) (option_and_then number_of (field_at fields 2)) else None)
unfolding field_at
one_number [] = refl
one_number (a ∷ []) = refl
one_number (a ∷ b ∷ []) = refl
one_number (a ∷ b ∷ c ∷ []) = one (number_of c)
one_number (a ∷ b ∷ c ∷ d ∷ rest) =
    other-count (length (c ∷ d ∷ rest)) 1 (numbers_of (c ∷ d ∷ rest)) (omega arith)
    ∙ sym (other-count (length (a ∷ b ∷ c ∷ d ∷ rest)) 3 (option_map (λ (x : ℕ). x ∷ []) (number_of c)) (omega arith))

-- the numbers, where each of them is there
abbrev pub all_two : Option ℕ → Option ℕ → Option (List ℕ)
all_two (Some u) (Some v) = Some (u ∷ v ∷ [])
all_two u v = None

abbrev pub all_three : Option ℕ → Option ℕ → Option ℕ → Option (List ℕ)
all_three (Some u) (Some v) (Some w) = Some (u ∷ v ∷ w ∷ [])
all_three u v w = None

abbrev pub all_four : Option ℕ → Option ℕ → Option ℕ → Option ℕ → Option (List ℕ)
all_four (Some u) (Some v) (Some w) (Some w2) = Some (u ∷ v ∷ w ∷ w2 ∷ [])
all_four u v w w2 = None

-- a number in front of numbers
abbrev in_front : Option ℕ → Option (List ℕ) → Option (List ℕ)
in_front o p = option_and_then (λ (n : ℕ). option_map (λ (ns : List ℕ). n ∷ ns) p) o

two : (x y : Option ℕ) → in_front x (in_front y (Some [])) ≡ all_two x y
two None y = refl
two (Some u) None = refl
two (Some u) (Some v) = refl

three : (x y z : Option ℕ) → in_front x (in_front y (in_front z (Some []))) ≡ all_three x y z
three None y z = refl
three (Some u) None z = refl
three (Some u) (Some v) None = refl
three (Some u) (Some v) (Some w) = refl

four : (x y z t : Option ℕ) → in_front x (in_front y (in_front z (in_front t (Some [])))) ≡ all_four x y z t
four None y z t = refl
four (Some u) None z t = refl
four (Some u) (Some v) None t = refl
four (Some u) (Some v) (Some w) None = refl
four (Some u) (Some v) (Some w) (Some w2) = refl

pub base_numbers : (fields : Fields) → numbers_in 3 (drop 1 fields) ≡ (if length fields == 4
    then all_three (option_and_then number_of (field_at fields 1)) (option_and_then number_of (field_at fields 2)) (option_and_then number_of (field_at fields 3))
    else None)
unfolding field_at
base_numbers [] = refl
base_numbers (a ∷ []) = refl
base_numbers (a ∷ b ∷ []) = refl
base_numbers (a ∷ b ∷ c ∷ []) = refl
base_numbers (a ∷ b ∷ c ∷ d ∷ []) = three (number_of b) (number_of c) (number_of d)
base_numbers (a ∷ b ∷ c ∷ d ∷ e ∷ rest) =
    other-count (length (b ∷ c ∷ d ∷ e ∷ rest)) 3 (numbers_of (b ∷ c ∷ d ∷ e ∷ rest)) (omega arith)
    ∙ sym (other-count (length (a ∷ b ∷ c ∷ d ∷ e ∷ rest)) 4 (all_three (number_of b) (number_of c) (number_of d)) (omega arith))

pub three_numbers : (fields : Fields) → numbers_in 3 (drop 2 fields) ≡ (if length fields == 5
    then all_three (option_and_then number_of (field_at fields 2)) (option_and_then number_of (field_at fields 3)) (option_and_then number_of (field_at fields 4))
    else None)
unfolding field_at
three_numbers [] = refl
three_numbers (a ∷ []) = refl
three_numbers (a ∷ b ∷ []) = refl
three_numbers (a ∷ b ∷ c ∷ []) = refl
three_numbers (a ∷ b ∷ c ∷ d ∷ []) = refl
three_numbers (a ∷ b ∷ c ∷ d ∷ e ∷ []) = three (number_of c) (number_of d) (number_of e)
three_numbers (a ∷ b ∷ c ∷ d ∷ e ∷ f ∷ rest) =
    other-count (length (c ∷ d ∷ e ∷ f ∷ rest)) 3 (numbers_of (c ∷ d ∷ e ∷ f ∷ rest)) (omega arith)
    ∙ sym (other-count (length (a ∷ b ∷ c ∷ d ∷ e ∷ f ∷ rest)) 5 (all_three (number_of c) (number_of d) (number_of e)) (omega arith))

pub four_numbers : (fields : Fields) → numbers_in 4 (drop 2 fields) ≡ (if length fields == 6
    then all_four (option_and_then number_of (field_at fields 2)) (option_and_then number_of (field_at fields 3)) (option_and_then number_of (field_at fields 4)) (option_and_then number_of (field_at fields 5))
    else None)
unfolding field_at
four_numbers [] = refl
four_numbers (a ∷ []) = refl
four_numbers (a ∷ b ∷ []) = refl
four_numbers (a ∷ b ∷ c ∷ []) = refl
four_numbers (a ∷ b ∷ c ∷ d ∷ []) = refl
four_numbers (a ∷ b ∷ c ∷ d ∷ e ∷ []) = refl
four_numbers (a ∷ b ∷ c ∷ d ∷ e ∷ f ∷ []) = four (number_of c) (number_of d) (number_of e) (number_of f)
four_numbers (a ∷ b ∷ c ∷ d ∷ e ∷ f ∷ g ∷ rest) =
    other-count (length (c ∷ d ∷ e ∷ f ∷ g ∷ rest)) 4 (numbers_of (c ∷ d ∷ e ∷ f ∷ g ∷ rest)) (omega arith)
    ∙ sym (other-count (length (a ∷ b ∷ c ∷ d ∷ e ∷ f ∷ g ∷ rest)) 6 (all_four (number_of c) (number_of d) (number_of e) (number_of f)) (omega arith))

-- a version with numbers, where both are there
abbrev pub with_version : Option Version → Option (List ℕ) → Option (Version × List ℕ)
with_version o p = option_and_then (λ (version : Version). option_map (λ (numbers : List ℕ). (version, numbers)) p) o

no-numbers : (o : Option Version) → with_version o None ≡ None
no-numbers None = refl
no-numbers (Some version) = refl

pub version_and_one : (fields : Fields) → version_and_numbers_in 1 (drop 2 fields) ≡ (if length fields == 4
    then with_version (option_and_then version_of (field_at fields 2)) (option_map (λ (x : ℕ). x ∷ []) (option_and_then number_of (field_at fields 3)))
    else None)
unfolding field_at version_and_numbers_in
version_and_one [] = refl
version_and_one (a ∷ []) = refl
version_and_one (a ∷ b ∷ []) = refl
version_and_one (a ∷ b ∷ c ∷ []) = no-numbers (version_of c)
version_and_one (a ∷ b ∷ c ∷ d ∷ []) = ap (λ (o : Option (List ℕ)). with_version (version_of c) o) (one (number_of d))
version_and_one (a ∷ b ∷ c ∷ d ∷ e ∷ rest) =
    ap (λ (o : Option (List ℕ)). with_version (version_of c) o) (other-count (length (d ∷ e ∷ rest)) 1 (numbers_of (d ∷ e ∷ rest)) (omega arith))
    ∙ no-numbers (version_of c)
    ∙ sym (other-count (length (a ∷ b ∷ c ∷ d ∷ e ∷ rest)) 4 (with_version (version_of c) (option_map (λ (x : ℕ). x ∷ []) (number_of d))) (omega arith))

pub version_and_two : (fields : Fields) → version_and_numbers_in 2 (drop 2 fields) ≡ (if length fields == 5
    then with_version (option_and_then version_of (field_at fields 2)) (all_two (option_and_then number_of (field_at fields 3)) (option_and_then number_of (field_at fields 4)))
    else None)
unfolding field_at version_and_numbers_in
version_and_two [] = refl
version_and_two (a ∷ []) = refl
version_and_two (a ∷ b ∷ []) = refl
version_and_two (a ∷ b ∷ c ∷ []) = no-numbers (version_of c)
version_and_two (a ∷ b ∷ c ∷ d ∷ []) = no-numbers (version_of c)
version_and_two (a ∷ b ∷ c ∷ d ∷ e ∷ []) = ap (λ (o : Option (List ℕ)). with_version (version_of c) o) (two (number_of d) (number_of e))
version_and_two (a ∷ b ∷ c ∷ d ∷ e ∷ f ∷ rest) =
    ap (λ (o : Option (List ℕ)). with_version (version_of c) o) (other-count (length (d ∷ e ∷ f ∷ rest)) 2 (numbers_of (d ∷ e ∷ f ∷ rest)) (omega arith))
    ∙ no-numbers (version_of c)
    ∙ sym (other-count (length (a ∷ b ∷ c ∷ d ∷ e ∷ f ∷ rest)) 5 (with_version (version_of c) (all_two (number_of d) (number_of e))) (omega arith))
