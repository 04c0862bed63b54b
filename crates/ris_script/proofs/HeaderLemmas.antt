-- What a header and a base triple are, by the parts that their fields give.
use Rattle.std.proofs.Common.{◌≡◌, ◌≢◌, ◌==◌, ℕ, Bool, true, false, List, [], ◌∷◌, Option, Some, None, length, arith, refl, sym, codes, if◌then◌else◌}
use Rattle.std.specs.Option.{option_and_then, option_map, option_map_or}
use Rattle.std.specs.Str.{bytes_eq}
use Rattle.csv.specs.Records.{field_at}
use Rattle.ris_base.specs.Limits.{vertex_limit}
use Rattle.ris_base.specs.Number.{number_of}
use Rattle.ris_base.specs.Script.{Fields, Header, at_most, base_by, format_of, header_of, numbers_of, sessions_within}
use Rattle.ris_base.specs.declared.graphs.Format.{Format}
use Rattle.ris_script.proofs.FieldLemmas.{numbers_in-enough, other-count}
use Rattle.ris_script.specs.Sayings.{numbers_in}

-- a header, where each part is there
abbrev pub all_parts : Bool → Option Format → Option ℕ → Option ℕ → Option Header
all_parts true (Some f) (Some n) (Some m) = Some (record { format = f; vertices = n; sessions = m })
all_parts named f n m = None

pub header_fields : (fields : Fields) → header_of fields ≡ (if length fields == 4
    then all_parts (option_map_or (λ (field : List ℕ). bytes_eq field (codes "risgraph")) (field_at fields 0) false)
    (option_and_then format_of (field_at fields 1))
    (option_and_then (at_most vertex_limit) (option_and_then number_of (field_at fields 2)))
    (option_and_then sessions_within (option_and_then number_of (field_at fields 3)))
    else None)
unfolding header_of field_at
header_fields [] = refl
header_fields (a ∷ []) = refl
header_fields (a ∷ b ∷ []) = refl
header_fields (a ∷ b ∷ c ∷ []) = refl
header_fields (a ∷ b ∷ c ∷ d ∷ []) =
    by (bytes_eq a (codes "risgraph")) (format_of b) (option_and_then (at_most vertex_limit) (number_of c)) (option_and_then sessions_within (number_of d))
  where
    by : (named : Bool) (f : Option Format) (n m : Option ℕ)
        → (if named then option_and_then (λ (f : Format). option_and_then (λ (n : ℕ). option_map (λ (m : ℕ). record { format = f; vertices = n; sessions = m }) m) n) f else None) ≡ all_parts named f n m
    by false f n m = refl
    by true None n m = refl
    by true (Some f) None m = refl
    by true (Some f) (Some n) None = refl
    by true (Some f) (Some n) (Some m) = refl
header_fields (a ∷ b ∷ c ∷ d ∷ e ∷ rest) = sym (other-count (length (a ∷ b ∷ c ∷ d ∷ e ∷ rest)) 4 _ (omega arith))

-- three numbers alone make a base triple
base_by-other : (h : Header) (numbers : List ℕ) → length numbers ≢ 3 → base_by h numbers ≡ None
base_by-other h [] e = refl
base_by-other h (a ∷ []) e = refl
base_by-other h (a ∷ b ∷ []) e = refl
base_by-other h (a ∷ b ∷ c ∷ []) e = absurd (e refl)
base_by-other h (a ∷ b ∷ c ∷ d ∷ rest) e = refl

pub base_numbers : (h : Header) (fields : Fields) → option_and_then (base_by h) (numbers_of fields) ≡ option_and_then (base_by h) (numbers_in 3 fields)
base_numbers h fields = numbers_in-enough (base_by h) 3 fields (base_by-other h)
