-- What an analysis gives a vertex number.
use Rattle.std.specs.Prelude.{◌≡◌, ◌≢◌, ◌↔◌, ℕ, ◌+◌, max, List, [], ◌∷◌, length, slice_get, Some}
use Rattle.std.specs.List.{Contains}
use Rattle.std.specs.List.Sorted.{IsStrictlyIncreasing}
use Rattle.ris_base.specs.Graph.{HasVertex}
use Rattle.ris_base.specs.Walk.{Walk, IsWalk, worth, IsBetter}
use Rattle.ris_base.specs.declared.graphs.PlainGraph.{PlainGraph}
use Rattle.ris_base.specs.declared.analyses.Spec.{Spec}
use Rattle.ris_base.specs.declared.analyses.Value.{Value}
use Rattle.ris_base.specs.declared.analyses.Value.TheVariants.{Absent, Unreached, Num}

-- c is the best worth of a walk to x: some walk is worth c, and no walk has a better worth
pub record IsBestWorth (g : PlainGraph) (spec : Spec) (x c : ℕ) : Type 0 where
  pub some : (w : Walk) × IsWalk g spec x w × (worth g spec.kind w ≡ c)
  pub best : (w : Walk) → IsWalk g spec x w → ¬ (IsBetter spec.kind (worth g spec.kind w) c)

-- a vertex's value: absent where it isn't in the graph, unreached where it is and no walk leads to it, else the best worth
-- of a walk to it
abbrev pub IsValue : PlainGraph → Spec → ℕ → Value → Type 0
IsValue g spec x Absent = ¬ (HasVertex g x)
IsValue g spec x Unreached = HasVertex g x × ((w : Walk) → ¬ (IsWalk g spec x w))
IsValue g spec x (Num c) = HasVertex g x × IsBestWorth g spec x c

-- how many vertex numbers there are from 0 to the greatest one of a list
abbrev pub number_bound : List ℕ → ℕ
number_bound [] = 0
number_bound (x ∷ xs) = max (x + 1) (number_bound xs)

-- the value of every vertex number from 0 to the greatest vertex of the graph, by place in the list
pub record AreValues (g : PlainGraph) (spec : Spec) (values : List Value) : Type 0 where
  pub all : length values ≡ number_bound g.vertices
  pub each : (x : ℕ) (value : Value) → slice_get values x ≡ Some value → IsValue g spec x value

-- the value of x differs between two graphs
pub record Moves (before now : PlainGraph) (spec : Spec) (x : ℕ) : Type 0 where
  pub old : Value
  pub new : Value
  pub was : IsValue before spec x old
  pub is : IsValue now spec x new
  pub differs : old ≢ new

-- the ascending list of exactly the vertex numbers whose values differ between two graphs
pub record AreMoved (before now : PlainGraph) (spec : Spec) (xs : List ℕ) : Type 0 where
  pub ascending : IsStrictlyIncreasing xs
  pub each : (x : ℕ) → Contains xs x ↔ Moves before now spec x
