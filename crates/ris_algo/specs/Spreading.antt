-- What holds while values spread along triples, best first, from the vertices that changed.
use Rattle.std.specs.Prelude.{◌≡◌, ◌≢◌, ℕ, ◌<◌, Bool, true, false, List, Some}
use Rattle.std.specs.List.{Contains}
use Rattle.ris_base.specs.Analysis.{start, step, better}
use Rattle.ris_base.specs.Forest.{Joins, NeedsNone}
use Rattle.ris_base.specs.Graph.{HasVertex, HasTriple, triple}
use Rattle.ris_base.specs.Safe.{beats, improves}
use Rattle.ris_base.specs.Value.{IsValue}
use Rattle.ris_base.specs.Walk.{Walk, IsWalk, worth, both_ways}
use Rattle.ris_base.specs.declared.graphs.PlainGraph.{PlainGraph}
use Rattle.ris_base.specs.declared.graphs.Triple.{Triple}
use Rattle.ris_base.specs.declared.analyses.Spec.{Spec}
use Rattle.ris_base.specs.declared.analyses.Value.{Value}
use Rattle.ris_base.specs.declared.analyses.Value.TheVariants.{Num}
use Rattle.ris_base.specs.declared.forests.Parent.{Parent}
use Rattle.ris_base.specs.declared.forests.Parent.TheVariants as parent
use Rattle.ris_algo.specs.Certificate.{IsPlaced}

-- values and parents so far, which vertices wait for their neighbours to be looked at, and of which this is done
pub record State : Type 0 where
  pub value : ℕ → Value
  pub parent : ℕ → Parent
  pub waiting : ℕ → Bool
  pub settled : ℕ → Bool

-- x got its value along t from a vertex that then had this number. The vertex may have become better since; while it hasn't, it
-- stands before x in an order
pub record IsAlong (g : PlainGraph) (spec : Spec) (value : ℕ → Value) (order : ℕ → ℕ) (x vertex : ℕ) (t : Triple) : Type 0 where
  pub number : ℕ
  pub current : ℕ
  pub has : HasTriple g t
  pub joins : Joins (both_ways spec.kind) t vertex x
  pub above : value vertex ≡ Num current
  pub kept : better spec.kind number current ≡ false
  pub here : value x ≡ Num (step spec.kind number t.weight)
  pub not_start : start g spec x ≢ Some (step spec.kind number t.weight)
  pub before : number ≡ current → order vertex < order x

-- p was a right parent of x when x got its value
abbrev pub IsLoose : PlainGraph → Spec → (ℕ → Value) → (ℕ → ℕ) → ℕ → Parent → Type 0
IsLoose g spec value order x parent.None = NeedsNone g spec x (value x)
IsLoose g spec value order x (parent.From vertex source target weight) = IsAlong g spec value order x vertex (triple source target weight)

-- some walk to x is worth c
abbrev pub IsReached : PlainGraph → Spec → ℕ → ℕ → Type 0
IsReached g spec x c = (w : Walk) × IsWalk g spec x w × (worth g spec.kind w ≡ c)

-- the numbers so far are worths of walks, and stable but for the triples out of vertices that wait and those still to be looked at
pub record IsSpreading (g : PlainGraph) (spec : Spec) (S : State) (todo : Triple → ℕ → ℕ → Type 0) : Type 0 where
  pub order : ℕ → ℕ
  pub placed : (x : ℕ) → IsPlaced g x (S.value x)
  pub loose : (x : ℕ) → IsLoose g spec S.value order x (S.parent x)
  pub sound : (x c : ℕ) → S.value x ≡ Num c → IsReached g spec x c
  pub started : (x c : ℕ) → HasVertex g x → start g spec x ≡ Some c → beats spec.kind c (S.value x) ≡ false
  pub stepped : (t : Triple) (a x : ℕ) → HasTriple g t → Joins (both_ways spec.kind) t a x → S.waiting a ≡ false → ¬ (todo t a x)
      → improves spec.kind (S.value a) t.weight (S.value x) ≡ false
  pub numbered : (x : ℕ) → S.waiting x ≡ true → (d : ℕ) × (S.value x ≡ Num d)

-- the vertices whose neighbours were looked at have their values of the definition, and none that waits has a better number
pub record IsSettling (g : PlainGraph) (spec : Spec) (S : State) : Type 0 where
  pub apart : (x : ℕ) → S.settled x ≡ true → S.waiting x ≡ false
  pub exact : (x : ℕ) → S.settled x ≡ true → (d : ℕ) × (S.value x ≡ Num d) × IsValue g spec x (Num d)
  pub final : (a b c d : ℕ) → S.settled a ≡ true → S.waiting b ≡ true → S.value a ≡ Num c → S.value b ≡ Num d → better spec.kind d c ≡ false

-- v was taken with the number c: it is no better than those taken before, and none that waits is better
pub record IsTaken (spec : Spec) (S : State) (v c : ℕ) : Type 0 where
  pub number : S.value v ≡ Num c
  pub taken : S.settled v ≡ true
  pub behind : (a d : ℕ) → S.settled a ≡ true → S.value a ≡ Num d → better spec.kind c d ≡ false
  pub ahead : (b d : ℕ) → S.waiting b ≡ true → S.value b ≡ Num d → better spec.kind d c ≡ false

-- What is left to be looked at

-- nothing
abbrev pub nothing : Triple → ℕ → ℕ → Type 0
nothing t a x = ⊥

-- the triples from v to these ends, with their weights
abbrev pub in_row : ℕ → List (ℕ × ℕ) → Triple → ℕ → ℕ → Type 0
in_row v left t a x = (a ≡ v) × Contains left (x, t.weight)

-- Steps

-- two states say the same of x
pub record IsSameAt (S S2 : State) (x : ℕ) : Type 0 where
  pub value : S2.value x ≡ S.value x
  pub parent : S2.parent x ≡ S.parent x
  pub waiting : S2.waiting x ≡ S.waiting x
  pub settled : S2.settled x ≡ S.settled x

-- y, which wasn't settled, has a number and a parent, and waits
pub record IsOffered (S S2 : State) (y number : ℕ) (p : Parent) : Type 0 where
  pub free : S.settled y ≡ false
  pub value : S2.value y ≡ Num number
  pub parent : S2.parent y ≡ p
  pub waiting : S2.waiting y ≡ true
  pub settled : S2.settled y ≡ false
  pub others : (x : ℕ) → ¬ (x ≡ y) → IsSameAt S S2 x

-- v, which waited with the number c, is settled
pub record IsTakenFrom (S S2 : State) (v c : ℕ) : Type 0 where
  pub waited : S.waiting v ≡ true
  pub number : S.value v ≡ Num c
  pub value : S2.value v ≡ S.value v
  pub parent : S2.parent v ≡ S.parent v
  pub waiting : S2.waiting v ≡ false
  pub settled : S2.settled v ≡ true
  pub others : (x : ℕ) → ¬ (x ≡ v) → IsSameAt S S2 x
