-- What a call does to the bytes that a source has left or a sink holds.
use Rattle.std.specs.Prelude.{ℕ, List, Option, None, Some}

-- bytes that were told as xs are told as some ys with P xs ys, and bytes that weren't told still aren't
abbrev pub WhereTold : Option (List ℕ) → Option (List ℕ) → (List ℕ → List ℕ → Type 0) → Type 0
WhereTold None None P = Unit {0}
WhereTold None (Some ys) P = ⊥
WhereTold (Some xs) None P = ⊥
WhereTold (Some xs) (Some ys) P = P xs ys
