-- What contracts see of a forest.
use Rattle.std.specs.Prelude.{◌≡◌, ◌↔◌, ℕ, ◌^◌, ◌<◌, List, length, slice_index_or, ⊤}
use Rattle.std.specs.List.{Contains}
use Rattle.ris_base.specs.Forest.{Forest, up}
use Rattle.ris_base.specs.Graph.{EachOnce}
use Rattle.ris_base.specs.declared.analyses.Value.{Value}
use Rattle.ris_base.specs.declared.analyses.Value.TheVariants.{Absent, Unreached, Num}
use Rattle.ris_base.specs.declared.forests.Parent.{Parent}
use Rattle.ris_base.specs.declared.forests.Parent.TheVariants as parent

-- the value and the parent of a vertex number
pub record Cell : Type 0 where
  pub value : Value
  pub parent : Parent

-- the algorithm of the analysis, and the cells of the vertex numbers from 0 on
pub record ForestView (A : Type 0) : Type 0 where
  pub algo : A
  pub cells : List Cell

-- the cell of a vertex that is absent
abbrev pub absent_cell : Cell
absent_cell = record { value = Absent; parent = parent.None }

-- the cell of a vertex number: past the end of the cells, that of an absent vertex
abbrev pub cell_at : List Cell → ℕ → Cell
cell_at cells x = slice_index_or cells x absent_cell

-- the forest that cells say
abbrev pub forest_of : List Cell → Forest
forest_of cells = record { value = λ x. (cell_at cells x).value; parent = λ x. (cell_at cells x).parent }

-- from each vertex number some number of parents lead to one without a parent
abbrev pub IsRooted : Forest → Type 0
IsRooted F = (x : ℕ) → (k : ℕ) × (F.parent (up F k x) ≡ parent.None)

-- a value that is a number is below 2 ^ 59
abbrev pub IsSmall : Value → Type 0
IsSmall Absent = ⊤
IsSmall Unreached = ⊤
IsSmall (Num c) = c < 2 ^ 59

-- the vertex of a parent, where there is one, is below n
abbrev pub IsParentBelow : ℕ → Parent → Type 0
IsParentBelow n parent.None = ⊤
IsParentBelow n (parent.From vertex source target weight) = vertex < n

-- what the cells of every forest keep
pub record IsSound (cells : List Cell) : Type 0 where
  -- parents lead to a start
  pub rooted : IsRooted (forest_of cells)
  -- numbers are below 2 ^ 59
  pub small : (x : ℕ) → IsSmall ((forest_of cells).value x)
  -- the vertex of each parent has a cell
  pub inside : (x : ℕ) → IsParentBelow (length cells) ((forest_of cells).parent x)
  -- there are fewer cells than 2 ^ 32
  pub few : length cells < 2 ^ 32

-- y is x, or hangs below it: some number of parents up from y is x
abbrev pub IsBelow : Forest → ℕ → ℕ → Type 0
IsBelow F x y = (k : ℕ) × (up F k y ≡ x)

-- these are exactly x and the vertices that hang below it, each once
pub record AreBelow (F : Forest) (x : ℕ) (ys : List ℕ) : Type 0 where
  pub once : EachOnce ys
  pub each : (y : ℕ) → Contains ys y ↔ IsBelow F x y
