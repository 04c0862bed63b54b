-- The rounds of the plain program, over tables which hold a value for each vertex number.
use Rattle.std.specs.Prelude.{◌≡◌, ℕ, zero, suc, ◌<◌, Bool, if◌then◌else◌, List, length, map, slice_index_or, fold, Vec, Option, Some, None, ⊤}
use Rattle.std.specs.List.{Contains, range_with_len}
use Rattle.std.specs.declared.alloc.Global.{Global}
use Rattle.ris_base.specs.declared.analyses.Value.{Value}
use Rattle.ris_base.specs.declared.analyses.Value.TheVariants.{Absent, Unreached, Num}
use Rattle.ris_four.specs.declared.neighbours.Neighbour.{Neighbour}
use Rattle.ris_four.specs.Neighbours.{neighbours_at}

-- the value of x in a table, absent past its end
abbrev pub value_at : List Value → ℕ → Value
value_at values x = slice_index_or values x Absent

-- a value's number, where it has one, is below the bound
abbrev pub IsBelow : ℕ → Value → Type 0
IsBelow bound Absent = ⊤
IsBelow bound Unreached = ⊤
IsBelow bound (Num c) = c < bound

-- the value of a vertex of the graph before any round: its start value, or unreached
abbrev pub value_from : Option ℕ → Value
value_from None = Unreached
value_from (Some c) = Num c

-- a table before any round: these vertices have what they start with, and no other number has a value
pub record AreFirst (start : ℕ → Option ℕ) (these : List ℕ) (values : List Value) : Type 0 where
  pub placed : (x : ℕ) → Contains these x → value_at values x ≡ value_from (start x)
  pub others : (x : ℕ) → ¬ (Contains these x) → value_at values x ≡ Absent

module _ (step : ℕ → ℕ → ℕ) (better : ℕ → ℕ → Bool) where
  -- the better one of a vertex's value and a number
  abbrev pub better_value : Value → ℕ → Value
  better_value Absent c = Num c
  better_value Unreached c = Num c
  better_value (Num b) c = if better c b then Num c else Num b

  -- a vertex's value, or what a step from a neighbour's value over a weight makes, where that is better
  abbrev pub improved_value : Value → Value → ℕ → Value
  improved_value present Absent w = present
  improved_value present Unreached w = present
  improved_value present (Num c) w = better_value present (step c w)

  -- the best of a vertex's value and the steps from its neighbours' values
  abbrev pub best_value : List Value → Value → List Neighbour → Value
  best_value values present neighbours = fold (λ v n. improved_value v (value_at values n.other) n.weight) present neighbours

  -- the value of x after a round
  abbrev pub next_value : List (Vec Neighbour Global) → List Value → ℕ → Value
  next_value lists values x = best_value values (value_at values x) (neighbours_at lists x)

  -- a table after a round
  abbrev pub next_values : List (Vec Neighbour Global) → List Value → List Value
  next_values lists values = map (next_value lists values) (range_with_len 0 (length values))

  -- a table after so many rounds
  abbrev pub values_after : List (Vec Neighbour Global) → ℕ → List Value → List Value
  values_after lists zero values = values
  values_after lists (suc n) values = next_values lists (values_after lists n values)
