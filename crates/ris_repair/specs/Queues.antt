-- Vertices that wait, as pairs of a priority and a vertex.
use Rattle.std.specs.Prelude.{ℕ, ◌≤◌, ◌-◌, Bool, true, false, List, length, Option, Some, None, nat_lt, nat_le, slice_get}
use Rattle.std.specs.List.{AllPairs}
use Rattle.std.specs.Option.{option_map, option_map_or}

-- whether a priority is greater than this one, or there is none to compare with
abbrev pub is_above : Option ℕ → ℕ → Bool
is_above None priority = true
is_above (Some bound) priority = nat_lt bound priority

-- whether there is a first priority, and the second isn't as great or is missing
abbrev pub leads : Option ℕ → Option ℕ → Bool
leads None second = false
leads (Some priority) second = is_above second priority

-- no item has a greater priority than one before it
abbrev pub IsNonRising : List (ℕ × ℕ) → Type 0
IsNonRising items = AllPairs (λ x y. y.0 ≤ x.0) items

-- the priority of the first item, if there is one
abbrev pub front_priority : List (ℕ × ℕ) → Option ℕ
front_priority items = option_map (λ item. item.0) (slice_get items 0)

-- whether there is no item, or the last one's priority is at least this one
abbrev pub may_follow : List (ℕ × ℕ) → ℕ → Bool
may_follow items priority = option_map_or (λ item. nat_le priority item.0) (slice_get items (length items - 1)) true
