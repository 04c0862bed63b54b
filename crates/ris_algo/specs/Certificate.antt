-- What shows, without a walk, that a forest is right.
use Rattle.std.specs.Prelude.{◌≡◌, ℕ, false, length, Some}
use Rattle.ris_base.specs.Analysis.{start}
use Rattle.ris_base.specs.Forest.{Forest, Joins, IsParent, up}
use Rattle.ris_base.specs.Graph.{HasVertex, HasTriple}
use Rattle.ris_base.specs.Safe.{beats, improves}
use Rattle.ris_base.specs.Walk.{both_ways}
use Rattle.ris_base.specs.declared.graphs.PlainGraph.{PlainGraph}
use Rattle.ris_base.specs.declared.graphs.Triple.{Triple}
use Rattle.ris_base.specs.declared.analyses.Spec.{Spec}
use Rattle.ris_base.specs.declared.analyses.Value.{Value}
use Rattle.ris_base.specs.declared.analyses.Value.TheVariants.{Absent, Unreached, Num}
use Rattle.ris_base.specs.declared.forests.Parent.TheVariants as parent

-- a value says whether its vertex is in the graph: it is absent exactly where the vertex isn't
abbrev pub IsPlaced : PlainGraph → ℕ → Value → Type 0
IsPlaced g x Absent = ¬ (HasVertex g x)
IsPlaced g x Unreached = HasVertex g x
IsPlaced g x (Num c) = HasVertex g x

-- each number is its vertex's start value or the step from its parent's along a triple of the graph, and parents lead to a start
pub record IsJustified (g : PlainGraph) (spec : Spec) (F : Forest) : Type 0 where
  pub placed : (x : ℕ) → IsPlaced g x (F.value x)
  pub parents : (x : ℕ) → IsParent g spec F.value x (F.parent x)
  pub rooted : (x c : ℕ) → F.value x ≡ Num c → F.parent (up F (length g.vertices) x) ≡ parent.None

-- no start value of a vertex, and no step along a triple in a direction that walks may take, is better than the value where it leads
pub record IsStable (g : PlainGraph) (spec : Spec) (value : ℕ → Value) : Type 0 where
  pub started : (x c : ℕ) → HasVertex g x → start g spec x ≡ Some c → beats spec.kind c (value x) ≡ false
  pub stepped : (t : Triple) (a x : ℕ) → HasTriple g t → Joins (both_ways spec.kind) t a x
      → improves spec.kind (value a) t.weight (value x) ≡ false
