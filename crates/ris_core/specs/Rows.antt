-- Rows of a forest: up to which vertex number they say something, and when they are right at one.
use Rattle.std.specs.Prelude.{◌≡◌, ℕ, ◌+◌, max, Bool, true, false, ◌==◌, ◌&&◌, List, [], ◌∷◌, length, slice_get, unwrap_or}
use Rattle.ris_base.specs.Forest.{Forest, IsParent, up}
use Rattle.ris_base.specs.Value.{IsValue}
use Rattle.ris_base.specs.declared.analyses.Spec.{Spec}
use Rattle.ris_base.specs.declared.analyses.Value.{Value}
use Rattle.ris_base.specs.declared.analyses.Value.TheVariants.{Absent, Unreached, Num}
use Rattle.ris_base.specs.declared.forests.ForestRow.{ForestRow}
use Rattle.ris_base.specs.declared.forests.Parent.{Parent}
use Rattle.ris_base.specs.declared.forests.Parent.TheVariants as parents
use Rattle.ris_base.specs.declared.graphs.PlainGraph.{PlainGraph}

-- one more than the greatest vertex of the rows, or `least` where that is more
unfoldable pub bound_of : ℕ → List ForestRow → ℕ
bound_of least [] = least
bound_of least (row ∷ rows) = bound_of (max least (row.vertex + 1)) rows

-- the value of x in a list of values, absent past its end
abbrev pub value_at : List Value → ℕ → Value
value_at values x = unwrap_or (slice_get values x) Absent

-- whether two values are the same
abbrev pub is_same_value : Value → Value → Bool
is_same_value Absent Absent = true
is_same_value Unreached Unreached = true
is_same_value (Num a) (Num b) = a == b
is_same_value a b = false

-- whether two parents are the same
abbrev pub is_same_parent : Parent → Parent → Bool
is_same_parent parents.None parents.None = true
is_same_parent (parents.From v s t w) (parents.From x u y z) = (v == x) && (s == u) && (t == y) && (w == z)
is_same_parent a b = false

-- a forest is right at x: its value is that of the graph, its parent is right, and where it has a number, parents lead to a start
pub record IsRightAt (g : PlainGraph) (spec : Spec) (F : Forest) (x : ℕ) : Type 0 where
  pub value : IsValue g spec x (F.value x)
  pub parent : IsParent g spec F.value x (F.parent x)
  pub rooted : (c : ℕ) → F.value x ≡ Num c → F.parent (up F (length g.vertices) x) ≡ parents.None
