-- How a number is spelled.
use Rattle.std.specs.Prelude.{ℕ, ◌+◌, ◌-◌, ◌*◌, ◌^◌, Bool, ◌&&◌, nat_le, nat_lt, if◌then◌else◌, List, [], ◌∷◌, length, Some, None, Option}
use Rattle.std.specs.List.{list_all}

-- a byte is one of the digits 0 to 9
abbrev pub is_digit : ℕ → Bool
is_digit byte = nat_le 48 byte && nat_le byte 57

-- the number that digits spell behind those of the number a
abbrev pub spelled_behind : ℕ → List ℕ → ℕ
spelled_behind a [] = a
spelled_behind a (digit ∷ digits) = spelled_behind (10 * a + (digit - 48)) digits

-- the number that a field spells: 1 to 20 decimal digits, leading zeros allowed, with a value below 2^64
unfoldable pub number_of : List ℕ → Option ℕ
number_of field =
    if nat_le 1 (length field) && nat_le (length field) 20 && list_all is_digit field && nat_lt (spelled_behind 0 field) (2 ^ 64)
    then Some (spelled_behind 0 field) else None
