-- What holds of every graph.
use Rattle.std.specs.Prelude.{◌≡◌, ℕ, ◌<◌, ◌≤◌, IsTrue, length}
use Rattle.ris_base.specs.Limits.{vertex_limit, greatest_of}
use Rattle.ris_base.specs.declared.graphs.Triple.{Triple}
use Rattle.ris_rows.specs.Neighbours.{IsAscending, copies_of}
use Rattle.ris_graph.specs.GraphView.{GraphView, out_row, in_row, vertex_in, copies_in}
use Rattle.ris_graph.specs.Tables.{HasRow}

-- each vertex number of the table has its two rows, and there are at most as many as the limit allows
pub record IsSized (g : GraphView) : Type 0 where
  pub stripes : length g.stripes ≡ 64
  pub outs : (u : ℕ) → u < length g.present → HasRow g.stripes u
  pub ins : length g.present ≤ length g.ins
  pub few : length g.present ≤ vertex_limit

-- the ends of a triple are vertices of the graph, and its weight is within the limit
pub record IsJoined (g : GraphView) (t : Triple) : Type 0 where
  pub source : IsTrue (vertex_in g t.source)
  pub target : IsTrue (vertex_in g t.target)
  pub weight : t.weight ≤ greatest_of g.format

-- the tables are large enough, each row ascends, the in rows are the transpose of the out rows, and each triple joins vertices
-- of the graph
pub record IsSound (g : GraphView) : Type 0 where
  pub sized : IsSized g
  pub outs : (u : ℕ) → IsAscending (out_row g u).items
  pub ins : (v : ℕ) → IsAscending (in_row g v).items
  pub transposed : (t : Triple) → copies_of (in_row g t.target).items t.source t.weight ≡ copies_in g t
  pub joined : (t : Triple) → 1 ≤ copies_in g t → IsJoined g t
