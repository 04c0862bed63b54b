-- What a contract sees of a graph, and which plain graph it is.
use Rattle.std.specs.Prelude.{◌≡◌, ◌↔◌, ℕ, ◌≤◌, ◌/◌, ◌%◌, Bool, false, IsTrue, List, [], length, slice_index_or}
use Rattle.ris_base.specs.Graph.{HasVertex, IsProper, copies}
use Rattle.ris_base.specs.declared.graphs.Format.{Format}
use Rattle.ris_base.specs.declared.graphs.PlainGraph.{PlainGraph}
use Rattle.ris_base.specs.declared.graphs.Triple.{Triple}
use Rattle.ris_rows.specs.Neighbours.{IsAscending, copies_of}
use Rattle.ris_rows.specs.RowView.{RowView}

-- the out rows in 64 stripes, the in rows by vertex, and for each vertex number of the table whether it is present
pub record GraphView : Type 0 where
  pub format : Format
  pub stripes : List (List RowView)
  pub ins : List RowView
  pub present : List Bool

-- a row without neighbours and without room
abbrev pub no_row : RowView
no_row = record { items = []; spare = 0 }

-- the row at a place of a table, empty past its end
abbrev pub row_at : List RowView → ℕ → RowView
row_at rows k = slice_index_or rows k no_row

-- the out row of u stands in the stripe u mod 64 at the place u div 64
unfoldable pub out_row : GraphView → ℕ → RowView
out_row g u = row_at (slice_index_or g.stripes (u % 64) []) (u / 64)

-- the in row of v
unfoldable pub in_row : GraphView → ℕ → RowView
in_row g v = row_at g.ins v

-- whether x is a vertex of the graph
unfoldable pub vertex_in : GraphView → ℕ → Bool
vertex_in g x = slice_index_or g.present x false

-- how many copies of a triple the graph has
abbrev pub copies_in : GraphView → Triple → ℕ
copies_in g t = copies_of (out_row g t.source).items t.target t.weight

-- The graph is this plain graph: the same format, the same vertices, and as many copies of each triple in the out rows and in
-- the in rows, each of which ascends. This is the one way in which contracts speak of what a graph is
pub record IsOf (g : GraphView) (p : PlainGraph) : Type 0 where
  pub format : p.format ≡ g.format
  pub proper : IsProper p
  pub vertices : (x : ℕ) → IsTrue (vertex_in g x) ↔ HasVertex p x
  pub triples : (t : Triple) → copies_in g t ≡ copies p t
  pub transposed : (t : Triple) → copies_of (in_row g t.target).items t.source t.weight ≡ copies p t
  pub outs : (u : ℕ) → IsAscending (out_row g u).items
  pub ins : (v : ℕ) → IsAscending (in_row g v).items

-- the same graph, each of whose rows has at least the room that it had, in tables that are at least as long
pub record HasRoomOf (old new : GraphView) : Type 0 where
  pub format : new.format ≡ old.format
  pub tables : length old.present ≤ length new.present
  pub vertices : (x : ℕ) → vertex_in new x ≡ vertex_in old x
  pub outs : (u : ℕ) → (out_row new u).items ≡ (out_row old u).items
  pub ins : (v : ℕ) → (in_row new v).items ≡ (in_row old v).items
  pub out_room : (u : ℕ) → (out_row old u).spare ≤ (out_row new u).spare
  pub in_room : (v : ℕ) → (in_row old v).spare ≤ (in_row new v).spare
