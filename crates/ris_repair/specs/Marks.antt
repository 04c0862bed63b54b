-- The values with which fallen vertices begin.
use Rattle.std.specs.Prelude.{◌≡◌, ℕ, Bool, false, ◌==◌, if◌then◌else◌, List, Option, Some, None}
use Rattle.std.specs.List.{list_any}
use Rattle.ris_base.specs.declared.analyses.Value.{Value}
use Rattle.ris_base.specs.declared.analyses.Value.TheVariants.{Absent, Unreached, Num}
use Rattle.ris_base.specs.declared.forests.Parent.TheVariants as parent
use Rattle.ris_graph.specs.GraphView.{GraphView, vertex_in}
use Rattle.ris_repair.specs.declared.stores.Change.{Change}

-- a start value as a value
abbrev pub started : Option ℕ → Value
started None = Unreached
started (Some c) = Num c

-- a vertex begins with its start value, unreached where it has none, or absent where it isn't in the graph
abbrev pub marked : GraphView → (ℕ → Option ℕ) → ℕ → Change
marked graph start x = record {
  value = if vertex_in graph x then started (start x) else Absent;
  parent = parent.None;
  settled = false;
}

-- whether x stands in a list
abbrev pub among : List ℕ → ℕ → Bool
among xs x = list_any (λ y. y == x) xs

-- the vertices that pass the test begin so, and nothing else changed
abbrev pub AreMarked : GraphView → (ℕ → Option ℕ) → (ℕ → Bool) → (ℕ → Option Change) → Type 0
AreMarked graph start test changes = (x : ℕ) → changes x ≡ (if test x then Some (marked graph start x) else None)
