-- The changes of a few vertices: the vertices and their changes side by side, and both as one list of pairs.
use Rattle.std.specs.Prelude.{◌≡◌, ℕ, List, Option, nat_eq, length}
use Rattle.std.specs.List.{IsDistinct}
use Rattle.std.specs.Map.{lookup}
use Rattle.ris_repair.specs.declared.stores.Change.{Change}

-- there are as many vertices as changes, and each vertex stands once
pub record AreSideBySide (vertices : List ℕ) (changes : List Change) : Type 0 where
  pub size : length changes ≡ length vertices
  pub once : IsDistinct nat_eq vertices

-- the change of each vertex that stands in the list
abbrev pub change_in : List (ℕ × Change) → ℕ → Option Change
change_in changes x = lookup (nat_eq x) changes
