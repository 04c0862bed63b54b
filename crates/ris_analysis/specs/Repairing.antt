-- What is asked and told of the repair of one forest.
use Rattle.std.specs.Prelude.{◌↔◌, ℕ, ◌+◌, ◌<◌, IsTrue, List, length, map}
use Rattle.std.specs.List.{All, filter, sum_by}
use Rattle.ris_base.specs.Falling.{pull, push}
use Rattle.ris_base.specs.Forest.{IsForest}
use Rattle.ris_base.specs.Limits.{vertex_limit}
use Rattle.ris_base.specs.Requests.{entered}
use Rattle.ris_base.specs.Value.{Moves}
use Rattle.ris_base.specs.declared.analyses.Spec.{Spec}
use Rattle.ris_base.specs.declared.graphs.PlainGraph.{PlainGraph}
use Rattle.ris_base.specs.declared.updates.Update.{Update}
use Rattle.ris_forest.specs.Cells.{Cell, forest_of, IsRooted, IsSmall}
use Rattle.ris_forest.specs.Commits.{AreAscendingRows, with_rows, IsRowBelow}
use Rattle.ris_forest.specs.declared.deltas.DeltaRow.{DeltaRow}
use Rattle.ris_graph.specs.GraphView.{GraphView, vertex_in, IsOf}
use Rattle.ris_graph.specs.Nets.{IsNet}
use Rattle.ris_graph.specs.declared.nets.Net.{Net}

-- there is a cell for each vertex of a graph
abbrev pub HasPlaces : GraphView → List Cell → Type 0
HasPlaces graph cells = (x : ℕ) → IsTrue (vertex_in graph x) → x < length cells

-- the visits that the first forest of an analysis may take: every vertex is fallen
abbrev pub first_reach : PlainGraph → Spec → ℕ
first_reach p spec = sum_by (λ x. pull p spec x + push p spec x) p.vertices

-- the vertices that moved, in the order of the rows
abbrev pub moved_in : List DeltaRow → List ℕ
moved_in delta = map (λ row. row.vertex) (filter (λ row. row.moved) delta)

-- a delta may be committed to these cells: there is room for its rows, its numbers are small, and the parents of the result lead to
-- starts
pub record CanCommitOne (cells : List Cell) (delta : List DeltaRow) : Type 0 where
  pub room : All (IsRowBelow (length cells)) delta
  pub small : All (λ row. IsSmall row.value) delta
  pub rooted : IsRooted (with_rows (forest_of cells) delta)

-- the net of a request stands in the graph, and the forest was right before it
pub record IsDueForOne (graph : GraphView) (effect : Net) (spec : Spec) (cells : List Cell) (p : PlainGraph) (parts : List Update) : Type 0 where
  pub is : IsOf graph (entered p parts)
  pub net : IsNet p parts effect
  pub right : IsForest p spec (forest_of cells)

-- a delta makes the forest right after a request whose net stands in the graph, tells which values moved, and may be committed where
-- there is a cell for each vertex
pub record IsRepaired (graph : GraphView) (net : Net) (spec : Spec) (cells : List Cell) (delta : List DeltaRow) : Type 0 where
  pub right : (p : PlainGraph) (parts : List Update) → IsDueForOne graph net spec cells p parts
      → IsForest (entered p parts) spec (with_rows (forest_of cells) delta)
  pub moved : (p : PlainGraph) (parts : List Update) → IsDueForOne graph net spec cells p parts
      → All (λ row. IsTrue row.moved ↔ Moves p (entered p parts) spec row.vertex) delta
  pub fit : HasPlaces graph cells → CanCommitOne cells delta
  pub within : All (λ row. row.vertex < vertex_limit) delta
  pub ascending : AreAscendingRows delta
