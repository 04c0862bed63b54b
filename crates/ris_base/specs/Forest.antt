-- Forests of an analysis: a value and a parent for each vertex number.
use Rattle.std.specs.Prelude.{◌≡◌, ◌≢◌, ℕ, zero, suc, Bool, IsTrue, ◌==◌, if◌then◌else◌, ◌⊎◌, List, [], ◌∷◌, length, Option, Some, None, ⊤}
use Rattle.ris_base.specs.Analysis.{start, step}
use Rattle.ris_base.specs.Graph.{HasTriple, triple}
use Rattle.ris_base.specs.Lists.{EachPair}
use Rattle.ris_base.specs.Walk.{both_ways}
use Rattle.ris_base.specs.Value.{IsValue}
use Rattle.ris_base.specs.declared.graphs.PlainGraph.{PlainGraph}
use Rattle.ris_base.specs.declared.graphs.Triple.{Triple}
use Rattle.ris_base.specs.declared.analyses.Spec.{Spec}
use Rattle.ris_base.specs.declared.analyses.Value.{Value}
use Rattle.ris_base.specs.declared.analyses.Value.TheVariants.{Absent, Unreached, Num}
use Rattle.ris_base.specs.declared.forests.Parent.{Parent}
use Rattle.ris_base.specs.declared.forests.Parent.TheVariants as parent
use Rattle.ris_base.specs.declared.forests.ForestRow.{ForestRow}

-- a value and a parent for each vertex number
pub record Forest : Type 0 where
  pub value : ℕ → Value
  pub parent : ℕ → Parent

-- the value and the parent that rows give a vertex number: a vertex that is left out is absent and has no parent
unfoldable pub value_in : List ForestRow → ℕ → Value
value_in [] x = Absent
value_in (row ∷ rows) x = if row.vertex == x then row.value else value_in rows x

unfoldable pub parent_in : List ForestRow → ℕ → Parent
parent_in [] x = parent.None
parent_in (row ∷ rows) x = if row.vertex == x then row.parent else parent_in rows x

-- the forest that rows say
abbrev pub forest_in : List ForestRow → Forest
forest_in rows = record { value = value_in rows; parent = parent_in rows }

-- Parents

-- a walk may go along t from a to b
abbrev pub Joins : Bool → Triple → ℕ → ℕ → Type 0
Joins both t a b = ((t.source ≡ a) × (t.target ≡ b)) ⊎ (IsTrue both × (t.target ≡ a) × (t.source ≡ b))

-- a vertex of this value has no parent: it is absent, unreached or has its own start value
abbrev pub NeedsNone : PlainGraph → Spec → ℕ → Value → Type 0
NeedsNone g spec x Absent = ⊤
NeedsNone g spec x Unreached = ⊤
NeedsNone g spec x (Num c) = start g spec x ≡ Some c

-- a triple of the graph leads from a vertex with a number to x, whose value is the step of that number over its weight and
-- isn't x's own start
pub record IsFrom (g : PlainGraph) (spec : Spec) (value : ℕ → Value) (x vertex : ℕ) (t : Triple) : Type 0 where
  pub number : ℕ
  pub has : HasTriple g t
  pub joins : Joins (both_ways spec.kind) t vertex x
  pub above : value vertex ≡ Num number
  pub here : value x ≡ Num (step spec.kind number t.weight)
  pub not_start : start g spec x ≢ Some (step spec.kind number t.weight)

-- p is a right parent of x where vertices have these values: none exactly where x is absent, unreached or has its own start
-- value, else a neighbour from which x has its value
abbrev pub IsParent : PlainGraph → Spec → (ℕ → Value) → ℕ → Parent → Type 0
IsParent g spec value x parent.None = NeedsNone g spec x (value x)
IsParent g spec value x (parent.From vertex source target weight) = IsFrom g spec value x vertex (triple source target weight)

-- the vertex of a parent, where there is one
abbrev pub vertex_of : Parent → Option ℕ
vertex_of parent.None = None
vertex_of (parent.From vertex source target weight) = Some vertex

-- the vertex of a parent, or x where there is none
abbrev pub vertex_or : ℕ → Parent → ℕ
vertex_or x parent.None = x
vertex_or x (parent.From vertex source target weight) = vertex

-- k parents up from x, standing still where there is none
unfoldable pub up : Forest → ℕ → ℕ → ℕ
up F zero x = x
up F (suc k) x = up F k (vertex_or x (F.parent x))

-- Right forests

-- a right forest: the values of the graph, right parents, and from each vertex with a number at most as many parent steps as
-- the graph has vertices lead to one without a parent
pub record IsForest (g : PlainGraph) (spec : Spec) (F : Forest) : Type 0 where
  pub values : (x : ℕ) → IsValue g spec x (F.value x)
  pub parents : (x : ℕ) → IsParent g spec F.value x (F.parent x)
  pub rooted : (x c : ℕ) → F.value x ≡ Num c → F.parent (up F (length g.vertices) x) ≡ parent.None

-- one right forest for each analysis
abbrev pub AreForests : PlainGraph → List Spec → List Forest → Type 0
AreForests g specs forests = EachPair (IsForest g) specs forests

-- Paths

-- these vertices follow x, each being the parent of the one before it, up to one without a parent
abbrev pub Follows : Forest → ℕ → List ℕ → Type 0
Follows F x [] = F.parent x ≡ parent.None
Follows F x (y ∷ rest) = (vertex_of (F.parent x) ≡ Some y) × Follows F y rest

-- the path of x: none where x has no number, else x, its parent, and so on to a vertex without a parent
abbrev pub IsPath : Forest → ℕ → List ℕ → Type 0
IsPath F x [] = (c : ℕ) → F.value x ≢ Num c
IsPath F x (y ∷ rest) = (y ≡ x) × ((c : ℕ) × (F.value x ≡ Num c)) × Follows F x rest
