-- The lists of a net, as an overlay gives them.
use Rattle.std.specs.Prelude.{ℕ, Bool, ◌&&◌, ◌==◌, not, nat_lt, if◌then◌else◌, List, [], ◌∷◌}
use Rattle.ris_base.specs.Graph.{triple}
use Rattle.ris_graph.specs.GraphView.{GraphView, vertex_in}
use Rattle.ris_graph.specs.declared.nets.NetTriple.{NetTriple}
use Rattle.ris_txn.specs.Overlays.{left, vertex_note}
use Rattle.ris_txn.specs.declared.overlays.Overlay.{Overlay}
use Rattle.ris_txn.specs.declared.overlays.TripleNote.{TripleNote}
use Rattle.ris_txn.specs.declared.overlays.VertexNote.{VertexNote}

-- whether a vertex was in the graph and a part dropped it
abbrev pub is_dropped : GraphView → ℕ → VertexNote → Bool
is_dropped g x note = vertex_in g x && nat_lt 0 note.dropped

-- whether a vertex is there now, and wasn't in the graph or was dropped
abbrev pub is_added : GraphView → ℕ → VertexNote → Bool
is_added g x note = note.present && not (vertex_in g x && note.dropped == 0)

-- the vertices whose notes pass a test
abbrev pub chosen : (ℕ → VertexNote → Bool) → List (ℕ × VertexNote) → List ℕ
chosen test [] = []
chosen test (entry ∷ rest) = if test entry.0 entry.1 then entry.0 ∷ chosen test rest else chosen test rest

-- a noted triple with its copies before and now
abbrev pub net_triple : GraphView → Overlay → ((ℕ × ℕ × ℕ) × TripleNote) → NetTriple
net_triple g o entry = record {
  triple = triple entry.0.0 entry.0.1 entry.0.2;
  before = entry.1.before;
  after = left (vertex_note g o entry.0.0) (vertex_note g o entry.0.1) entry.1;
}
