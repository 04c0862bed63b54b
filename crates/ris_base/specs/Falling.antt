-- What falls when an entry takes edges and vertices away, and how many visits its repair may take.
use Rattle.std.specs.Prelude.{◌≡◌, ◌↔◌, ℕ, ◌+◌, ◌⊎◌, if◌then◌else◌, List, [], ◌∷◌, Option, Some, None, sum, sum_by, ⊤}
use Rattle.std.specs.List.{Contains}
use Rattle.ris_base.specs.Forest.{Forest, up}
use Rattle.ris_base.specs.Graph.{HasVertex, EachOnce, copies, in_degree, out_degree}
use Rattle.ris_base.specs.Requests.{RefusedPart, refusal_of, entered}
use Rattle.ris_base.specs.Value.{Moves}
use Rattle.ris_base.specs.Walk.{both_ways}
use Rattle.ris_base.specs.declared.graphs.PlainGraph.{PlainGraph}
use Rattle.ris_base.specs.declared.graphs.Triple.{Triple}
use Rattle.ris_base.specs.declared.analyses.Spec.{Spec}
use Rattle.ris_base.specs.declared.updates.Update.{Update}
use Rattle.ris_base.specs.declared.updates.Update.TheVariants.{AddV, DelV, AddE, DelE, SetW}
use Rattle.ris_base.specs.declared.forests.Parent.TheVariants as parent

-- What falls

-- a part of a request drops x
abbrev pub Drops : List Update → ℕ → Type 0
Drops parts x = Contains parts (DelV x)

-- x's parent is along this triple
pub record HangsBy (F : Forest) (x : ℕ) (t : Triple) : Type 0 where
  pub vertex : ℕ
  pub is : F.parent x ≡ parent.From vertex t.source t.target t.weight

-- an edge of a graph is lost by a request: it has no copy after it, or it names a vertex that a part drops, even if a later
-- part puts a copy back
abbrev pub IsLost : PlainGraph → List Update → Triple → Type 0
IsLost g parts t = (copies (entered g parts) t ≡ 0) ⊎ Drops parts t.source ⊎ Drops parts t.target

-- x hangs by a lost edge
pub record HangsLost (g : PlainGraph) (parts : List Update) (F : Forest) (x : ℕ) : Type 0 where
  pub edge : Triple
  pub by_edge : HangsBy F x edge
  pub lost : IsLost g parts edge

-- x hangs at or below a vertex that hangs by a lost edge
pub record HangsBelowLost (g : PlainGraph) (parts : List Update) (F : Forest) (x : ℕ) : Type 0 where
  pub steps : ℕ
  pub lost : HangsLost g parts F (up F steps x)

-- a vertex is fallen: it was in the graph and a part drops it; it is in the graph after the request and wasn't before; or it
-- hangs at or below a lost edge
abbrev pub IsFallen : PlainGraph → List Update → Forest → ℕ → Type 0
IsFallen g parts F x =
    (HasVertex g x × Drops parts x)
    ⊎ (HasVertex (entered g parts) x × (¬ (HasVertex g x)))
    ⊎ HangsBelowLost g parts F x

-- these are exactly the fallen vertices, each once
pub record AreFallen (g : PlainGraph) (parts : List Update) (F : Forest) (xs : List ℕ) : Type 0 where
  pub once : EachOnce xs
  pub each : (x : ℕ) → Contains xs x ↔ IsFallen g parts F x

-- these are exactly the vertices that aren't fallen and whose value the request changes, each once
pub record AreImproved (g : PlainGraph) (spec : Spec) (parts : List Update) (F : Forest) (xs : List ℕ) : Type 0 where
  pub once : EachOnce xs
  pub each : (x : ℕ) → Contains xs x ↔ ((¬ (IsFallen g parts F x)) × Moves g (entered g parts) spec x)

-- Reach

-- both degrees of a vertex: how many distinct triples lead to it, and how many leave it
abbrev pub both_degrees : PlainGraph → ℕ → ℕ
both_degrees g x = in_degree g x + out_degree g x

-- the triples along which an analysis may come to a vertex, and those along which it may leave it
abbrev pub pull : PlainGraph → Spec → ℕ → ℕ
pull g spec x = if both_ways spec.kind then both_degrees g x else in_degree g x

abbrev pub push : PlainGraph → Spec → ℕ → ℕ
push g spec x = if both_ways spec.kind then both_degrees g x else out_degree g x

-- the reach of a request for one analysis: pull and push of each fallen vertex, and push of every other vertex whose value
-- changes, in the graph after it
pub record IsReachFor (g : PlainGraph) (spec : Spec) (parts : List Update) (F : Forest) (n : ℕ) : Type 0 where
  pub fallen : List ℕ
  pub improved : List ℕ
  pub all_fallen : AreFallen g parts F fallen
  pub all_improved : AreImproved g spec parts F improved
  pub count : n ≡ sum_by (λ x. pull (entered g parts) spec x + push (entered g parts) spec x) fallen
      + sum_by (push (entered g parts) spec) improved

-- for each part that drops a vertex, both its degrees in a graph
abbrev pub degrees_of : PlainGraph → Update → ℕ
degrees_of g (DelV x) = both_degrees g x
degrees_of g (AddV x) = 0
degrees_of g (AddE u v w) = 0
degrees_of g (DelE u v w) = 0
degrees_of g (SetW u v w w2) = 0

abbrev pub dropped_degrees : PlainGraph → List Update → ℕ
dropped_degrees g parts = sum_by (degrees_of g) parts

-- so many numbers, each the reach for an analysis with its forest
abbrev pub AreReaches : PlainGraph → List Update → List Spec → List Forest → List ℕ → Type 0
AreReaches g parts [] [] [] = ⊤
AreReaches g parts (spec ∷ specs) (F ∷ forests) (n ∷ counts) = IsReachFor g spec parts F n × AreReaches g parts specs forests counts
AreReaches g parts _ _ _ = ⊥

-- the reach of an accepted request: the sum over the analyses, and, once for each part that drops a vertex, both its degrees
-- in the graph before
pub record IsReachOfEntry (g : PlainGraph) (specs : List Spec) (forests : List Forest) (parts : List Update) (n : ℕ) : Type 0 where
  pub counts : List ℕ
  pub each : AreReaches g parts specs forests counts
  pub count : n ≡ sum counts + dropped_degrees g parts

-- the reach of a request: that of one which is refused is 0
abbrev pub IsReachUnless : Option RefusedPart → PlainGraph → List Spec → List Forest → List Update → ℕ → Type 0
IsReachUnless (Some refused) g specs forests parts n = n ≡ 0
IsReachUnless None g specs forests parts n = IsReachOfEntry g specs forests parts n

abbrev pub IsReach : PlainGraph → List Spec → List Forest → List Update → ℕ → Type 0
IsReach g specs forests parts n = IsReachUnless (refusal_of g parts) g specs forests parts n

-- the reach of the start: every vertex is fallen
abbrev pub start_reach : PlainGraph → List Spec → ℕ
start_reach g specs = sum_by (λ spec. sum_by (λ x. pull g spec x + push g spec x) g.vertices) specs
