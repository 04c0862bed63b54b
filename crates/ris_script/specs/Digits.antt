-- The value of a digit.
use Rattle.std.specs.Prelude.{ℕ, ◌-◌, if◌then◌else◌, Option, Some, None}
use Rattle.ris_base.specs.Number.{is_digit}

-- the value of a byte that is a decimal digit
abbrev pub digit_of : ℕ → Option ℕ
digit_of byte = if is_digit byte then Some (byte - 48) else None
