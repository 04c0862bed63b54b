-- What an overlay says of the vertices and triples of a graph, and which plain graph the two make.
use Rattle.std.specs.Prelude.{◌≡◌, ℕ, ◌<◌, Bool, ◌&&◌, ◌==◌, nat_eq, nat_le, if◌then◌else◌, unwrap_or, Result, Ok, Err}
use Rattle.std.specs.HashMap.{get}
use Rattle.ris_base.specs.Graph.{copies, has_vertex, is_equal}
use Rattle.ris_base.specs.declared.graphs.PlainGraph.{PlainGraph}
use Rattle.ris_base.specs.declared.graphs.Triple.{Triple}
use Rattle.ris_graph.specs.GraphView.{GraphView, copies_in, vertex_in}
use Rattle.ris_txn.specs.declared.faults.Fault.{Fault}
use Rattle.ris_txn.specs.declared.faults.Fault.TheVariants as fault
use Rattle.ris_txn.specs.declared.overlays.Overlay.{Overlay}
use Rattle.ris_txn.specs.declared.overlays.TripleNote.{TripleNote}
use Rattle.ris_txn.specs.declared.overlays.VertexNote.{VertexNote}

-- the key of a triple's note
abbrev pub key : Triple → ℕ × ℕ × ℕ
key t = (t.source, t.target, t.weight)

-- whether two keys are the same
abbrev pub same_key : (ℕ × ℕ × ℕ) → (ℕ × ℕ × ℕ) → Bool
same_key a b = (nat_eq a.0 b.0 && nat_eq a.1 b.1) && nat_eq a.2 b.2

-- the note of a vertex; without one it is as in the graph
unfoldable pub vertex_note : GraphView → Overlay → ℕ → VertexNote
vertex_note g o x = unwrap_or (get nat_eq o.vertices x) (record { dropped = 0; present = vertex_in g x })

-- the note of a triple; without one it is as in the graph
unfoldable pub triple_note : GraphView → Overlay → Triple → TripleNote
triple_note g o t = unwrap_or (get same_key o.triples (key t)) (record { before = copies_in g t; copies = copies_in g t; part = 0 })

-- the copies of a triple's note, by the notes of its ends; they are gone where an end was dropped since
abbrev pub left : VertexNote → VertexNote → TripleNote → ℕ
left source target note = if nat_le source.dropped note.part && nat_le target.dropped note.part then note.copies else 0

-- how many copies of a triple there are now
abbrev pub copies_over : GraphView → Overlay → Triple → ℕ
copies_over g o t = left (vertex_note g o t.source) (vertex_note g o t.target) (triple_note g o t)

-- the graph with the notes is this plain graph
pub record Shows (g : GraphView) (o : Overlay) (p : PlainGraph) : Type 0 where
  pub format : p.format ≡ g.format
  pub vertices : (x : ℕ) → (vertex_note g o x).present ≡ has_vertex p x
  pub triples : (t : Triple) → copies_over g o t ≡ copies p t

-- the parts in the notes have numbers below n
pub record AreBelow (g : GraphView) (o : Overlay) (n : ℕ) : Type 0 where
  pub vertices : (x : ℕ) → (vertex_note g o x).dropped < n
  pub triples : (t : Triple) → (triple_note g o t).part < n

-- x has this note now, and all else is as it was
pub record PutsVertex (old new : Overlay) (x : ℕ) (note : VertexNote) : Type 0 where
  pub vertices : (g : GraphView) (y : ℕ) → vertex_note g new y ≡ (if x == y then note else vertex_note g old y)
  pub triples : (g : GraphView) (t : Triple) → triple_note g new t ≡ triple_note g old t

-- t has this note now, and all else is as it was
pub record PutsTriple (old new : Overlay) (t : Triple) (note : TripleNote) : Type 0 where
  pub vertices : (g : GraphView) (x : ℕ) → vertex_note g new x ≡ vertex_note g old x
  pub triples : (g : GraphView) (s : Triple) → triple_note g new s ≡ (if is_equal t s then note else triple_note g old s)

-- the note of a triple with the copies that there are now, where both its ends are there; else the first end that is missing
abbrev pub standing_in : GraphView → Overlay → Triple → Result TripleNote Fault
standing_in g o t =
    if (vertex_note g o t.source).present
    then (if (vertex_note g o t.target).present then Ok (record (triple_note g o t) { copies = copies_over g o t }) else Err (fault.NoVertex t.target))
    else Err (fault.NoVertex t.source)
