-- What is gathered into the list of fallen vertices.
use Rattle.std.specs.Prelude.{◌≡◌, ◌↔◌, ℕ, true, ◌⊎◌, List}
use Rattle.std.specs.List.{Contains}
use Rattle.ris_base.specs.Forest.{Forest}
use Rattle.ris_base.specs.Safe.{is_along}
use Rattle.ris_base.specs.declared.analyses.Value.TheVariants.{Absent}
use Rattle.ris_base.specs.declared.graphs.Triple.{Triple}
use Rattle.ris_forest.specs.Cells.{IsBelow}
use Rattle.ris_forest.specs.Growing.{IsClosed}
use Rattle.ris_graph.specs.declared.nets.NetTriple.{NetTriple}

-- a list grows by exactly the vertices of which P holds, and all that hang below its vertices are in it
pub record Gathers (F : Forest) (P : ℕ → Type 0) (old new : List ℕ) : Type 0 where
  pub each : (y : ℕ) → Contains new y ↔ (Contains old y ⊎ P y)
  pub closed : IsClosed F new

-- y is one of these vertices or hangs below one
pub record HangsBelowOne (F : Forest) (xs : List ℕ) (y : ℕ) : Type 0 where
  pub vertex : ℕ
  pub listed : Contains xs vertex
  pub below : IsBelow F vertex y

-- the parent of x is along a triple, and y is x or hangs below it
pub record HangsAlong (F : Forest) (t : Triple) (x y : ℕ) : Type 0 where
  pub along : is_along t (F.parent x) ≡ true
  pub below : IsBelow F x y

-- a triple of a net has no copy after it, and y hangs at or below it
pub record HangsByGone (F : Forest) (net : NetTriple) (y : ℕ) : Type 0 where
  pub gone : net.after ≡ 0
  pub hangs : HangsAlong F net.triple net.triple.source y ⊎ HangsAlong F net.triple net.triple.target y

-- y hangs at or below one of these triples that has no copy after the net
pub record HangsBelowGone (F : Forest) (triples : List NetTriple) (y : ℕ) : Type 0 where
  pub net : NetTriple
  pub listed : Contains triples net
  pub by : HangsByGone F net y

-- y is one of these vertices and absent
pub record IsNew (F : Forest) (added : List ℕ) (y : ℕ) : Type 0 where
  pub listed : Contains added y
  pub absent : F.value y ≡ Absent
