-- Overlays in which more triples are noted, while the notes say what they said.
use Rattle.std.specs.Prelude.{◌≡◌, ℕ, ◌+◌, ◌<◌, ◌⊎◌, Bool, if◌then◌else◌, List, length, IsSome}
use Rattle.std.specs.HashMap.{get}
use Rattle.std.specs.List.{All, Contains}
use Rattle.ris_base.specs.Graph.{triple}
use Rattle.ris_base.specs.declared.graphs.Triple.{Triple}
use Rattle.ris_graph.specs.GraphView.{GraphView, copies_in, in_row, out_row}
use Rattle.ris_rows.specs.declared.neighbours.Neighbour.{Neighbour}
use Rattle.ris_txn.specs.Overlays.{key, same_key, triple_note, vertex_note}
use Rattle.ris_txn.specs.declared.overlays.Overlay.{Overlay}

-- a triple has a note
abbrev pub IsNoted : Overlay → Triple → Type 0
IsNoted o t = IsSome (get same_key o.triples (key t))

-- the triple of a neighbour in a row of x, out of x or into it
abbrev pub triple_along : Bool → ℕ → Neighbour → Triple
triple_along out x n = if out then triple x n.end n.weight else triple n.end x n.weight

-- t is noted too, and the notes say what they said in each graph that has so many copies of it
pub record IsTouched (old new : Overlay) (t : Triple) (count : ℕ) : Type 0 where
  pub vertices : (g : GraphView) (x : ℕ) → vertex_note g new x ≡ vertex_note g old x
  pub triples : (g : GraphView) → copies_in g t ≡ count → (s : Triple) → triple_note g new s ≡ triple_note g old s
  pub noted : IsNoted new t
  pub kept : (s : Triple) → IsNoted old s → IsNoted new s

-- the same of each triple of a row
pub record IsRowTouched (old new : Overlay) (out : Bool) (x : ℕ) (ns : List Neighbour) : Type 0 where
  pub vertices : (g : GraphView) (y : ℕ) → vertex_note g new y ≡ vertex_note g old y
  pub triples : (g : GraphView) → All (λ n. copies_in g (triple_along out x n) ≡ n.copies) ns → (s : Triple) → triple_note g new s ≡ triple_note g old s
  pub noted : All (λ n. IsNoted new (triple_along out x n)) ns
  pub kept : (s : Triple) → IsNoted old s → IsNoted new s

-- the triples of the graph that name one of these vertices are noted too, and the notes say what they said
pub record AreTouched (g : GraphView) (old new : Overlay) (xs : List ℕ) : Type 0 where
  pub vertices : (y : ℕ) → vertex_note g new y ≡ vertex_note g old y
  pub triples : (t : Triple) → triple_note g new t ≡ triple_note g old t
  pub noted : (t : Triple) → 0 < copies_in g t → (Contains xs t.source ⊎ Contains xs t.target) → IsNoted new t
  pub kept : (t : Triple) → IsNoted old t → IsNoted new t

-- how many neighbours the two rows of a vertex have
abbrev pub rows_length : GraphView → ℕ → ℕ
rows_length g x = length (in_row g x).items + length (out_row g x).items
