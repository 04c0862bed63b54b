-- What holds at each stage of a repair.
use Rattle.std.specs.Prelude.{◌≡◌, ◌⊎◌, ℕ, ◌<◌, true, false, IsTrue, ◌↔◌, ◌≢◌, List, Option, Some}
use Rattle.std.specs.List.{Contains, All}
use Rattle.ris_base.specs.Forest.{Forest}
use Rattle.ris_base.specs.Graph.{HasVertex, HasTriple, has_equal}
use Rattle.ris_base.specs.Safe.{beats}
use Rattle.ris_base.specs.Value.{IsValue}
use Rattle.ris_base.specs.declared.graphs.PlainGraph.{PlainGraph}
use Rattle.ris_base.specs.declared.graphs.Triple.{Triple}
use Rattle.ris_base.specs.declared.analyses.Kind.{Kind}
use Rattle.ris_base.specs.declared.analyses.Spec.{Spec}
use Rattle.ris_base.specs.declared.analyses.Value.TheVariants.{Num}
use Rattle.ris_algo.specs.Spreading.{IsSpreading, IsSettling, IsTaken, in_row}
use Rattle.ris_graph.specs.declared.nets.NetTriple.{NetTriple}
use Rattle.ris_forest.specs.declared.deltas.DeltaRow.{DeltaRow}
use Rattle.ris_repair.specs.Changes.{state_of, IsGain, AreDue, AreBelow, AreQueued, NoneSettled}
use Rattle.ris_repair.specs.declared.stores.Change.{Change}

-- values spread, of vertices below n; what changed is fallen or better than before, and what waits is queued
pub record IsCarried (g : PlainGraph) (spec : Spec) (F : Forest) (n : ℕ) (fallen : List ℕ) (changes : ℕ → Option Change) (queue : List (ℕ × ℕ))
    (todo : Triple → ℕ → ℕ → Type 0) : Type 0 where
  pub inside : (x : ℕ) → HasVertex g x → x < n
  pub spreading : IsSpreading g spec (state_of F changes) todo
  pub due : AreDue spec.kind F fallen changes
  pub below : AreBelow n changes
  pub queued : AreQueued spec.kind changes queue

-- before the push: nothing is settled
pub record IsPrepared (g : PlainGraph) (spec : Spec) (F : Forest) (n : ℕ) (fallen : List ℕ) (changes : ℕ → Option Change) (queue : List (ℕ × ℕ))
    (todo : Triple → ℕ → ℕ → Type 0) : Type 0 where
  pub carried : IsCarried g spec F n fallen changes queue todo
  pub fresh : NoneSettled changes

-- in the push: what is settled has its value
pub record IsPushing (g : PlainGraph) (spec : Spec) (F : Forest) (n : ℕ) (fallen : List ℕ) (changes : ℕ → Option Change) (queue : List (ℕ × ℕ))
    (todo : Triple → ℕ → ℕ → Type 0) : Type 0 where
  pub carried : IsCarried g spec F n fallen changes queue todo
  pub settling : IsSettling g spec (state_of F changes)

-- while what is left of v's row is handed out
pub record PushesOn (g : PlainGraph) (spec : Spec) (F : Forest) (n : ℕ) (fallen : List ℕ) (changes : ℕ → Option Change) (queue : List (ℕ × ℕ))
    (v c : ℕ) (left : List (ℕ × ℕ)) : Type 0 where
  pub pushing : IsPushing g spec F n fallen changes queue (in_row v left)
  pub taken : IsTaken spec (state_of F changes) v c

-- still to be pulled are these vertices, what is left of the row of x, and the triples that weren't there before
abbrev pub unpulled : PlainGraph → ℕ → List (ℕ × ℕ) → List ℕ → Triple → ℕ → ℕ → Type 0
unpulled p x left rest t a y = Contains rest y ⊎ ((y ≡ x) × Contains left (a, t.weight)) ⊎ (has_equal p t ≡ false)

-- still to be looked at are those of these triples that have more copies than before
pub record IsUnadded (rest : List NetTriple) (t : Triple) : Type 0 where
  pub triple : NetTriple
  pub listed : Contains rest triple
  pub same : triple.triple ≡ t
  pub more : triple.before < triple.after

abbrev pub unadded : List NetTriple → Triple → ℕ → ℕ → Type 0
unadded rest t a x = IsUnadded rest t

-- a list has each vertex that may be settled: those that are fallen, and those whose value is better than before
abbrev pub Covers : PlainGraph → Spec → Forest → List ℕ → List ℕ → Type 0
Covers g spec F fallen xs = (x d : ℕ) → IsValue g spec x (Num d) → Contains fallen x ⊎ (beats spec.kind d (F.value x) ≡ true) → Contains xs x

-- a row tells a change, and whether its value differs from before
pub record IsRowOf (F : Forest) (changes : ℕ → Option Change) (row : DeltaRow) : Type 0 where
  pub change : Change
  pub is : changes row.vertex ≡ Some change
  pub value : row.value ≡ change.value
  pub parent : row.parent ≡ change.parent
  pub moved : IsTrue row.moved ↔ (row.value ≢ F.value row.vertex)

-- the rows tell exactly the changes
pub record AreRowsOf (F : Forest) (changes : ℕ → Option Change) (rows : List DeltaRow) : Type 0 where
  pub each : All (IsRowOf F changes) rows
  pub whole : (x : ℕ) (c : Change) → changes x ≡ Some c → (row : DeltaRow) × Contains rows row × (row.vertex ≡ x)

-- each row's vertex stands in the list or has a better number than before
abbrev pub AreRowsDue : Kind → Forest → List ℕ → List DeltaRow → Type 0
AreRowsDue kind F fallen rows = All (λ row. Contains fallen row.vertex ⊎ IsGain kind row.value (F.value row.vertex)) rows

-- each triple that has more copies than before is in the graph
abbrev pub AreAdded : PlainGraph → List NetTriple → Type 0
AreAdded g triples = All (λ n. n.before < n.after → HasTriple g n.triple) triples
