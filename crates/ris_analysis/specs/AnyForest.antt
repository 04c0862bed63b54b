-- The forest of an analysis of any kind.
use Rattle.std.specs.Prelude.{◌≡◌, ℕ, List, ◌++◌, length, replicate, ⊤}
use Rattle.ris_base.specs.Forest.{Forest, IsForest}
use Rattle.ris_base.specs.declared.analyses.Kind.TheVariants as kind
use Rattle.ris_base.specs.declared.analyses.Spec.{Spec}
use Rattle.ris_base.specs.declared.graphs.Format.{Format}
use Rattle.ris_base.specs.declared.graphs.PlainGraph.{PlainGraph}
use Rattle.ris_forest.specs.Cells.{Cell, absent_cell, forest_of}
use Rattle.ris_forest.specs.Commits.{committed}
use Rattle.ris_forest.specs.declared.deltas.DeltaRow.{DeltaRow}
use Rattle.ris_graph.specs.GraphView.{GraphView, IsOf}
use Rattle.ris_analysis.specs.Repairing.{HasPlaces}
use Rattle.ris_analysis.specs.declared.kinds.AnyForest.{AnyForest}
use Rattle.ris_analysis.specs.declared.kinds.AnyForest.TheVariants as any

-- What a forest has

-- its analysis
abbrev pub spec_of : AnyForest → Spec
spec_of (any.Bfs f) = record { kind = kind.Bfs; root = f.algo.root }
spec_of (any.Sssp f) = record { kind = kind.Sssp; root = f.algo.root }
spec_of (any.Sswp f) = record { kind = kind.Sswp; root = f.algo.root }
spec_of (any.Wcc f) = record { kind = kind.Wcc; root = 0 }

-- the formats of the graphs that it may be of: all, or for widest paths the one for which it is made
abbrev pub suits_of : AnyForest → Format → Type 0
suits_of (any.Bfs f) format = ⊤
suits_of (any.Sssp f) format = ⊤
suits_of (any.Sswp f) format = format ≡ f.algo.format
suits_of (any.Wcc f) format = ⊤

-- its values and parents, by vertex number
abbrev pub cells_of : AnyForest → List Cell
cells_of (any.Bfs f) = f.cells
cells_of (any.Sssp f) = f.cells
cells_of (any.Sswp f) = f.cells
cells_of (any.Wcc f) = f.cells

-- the forest that these say
abbrev pub forest_in : AnyForest → Forest
forest_in one = forest_of (cells_of one)

-- What changes it

-- the same analysis with other values and parents
abbrev pub with_cells : AnyForest → List Cell → AnyForest
with_cells (any.Bfs f) cells = any.Bfs (record f { cells = cells })
with_cells (any.Sssp f) cells = any.Sssp (record f { cells = cells })
with_cells (any.Sswp f) cells = any.Sswp (record f { cells = cells })
with_cells (any.Wcc f) cells = any.Wcc (record f { cells = cells })

-- the same forest with room for more vertex numbers, which are those of absent vertices
pub record IsGrownOne (old new : AnyForest) : Type 0 where
  pub more : ℕ
  pub is : new ≡ with_cells old (cells_of old ++ replicate more absent_cell)

-- the forest overwritten by a delta
abbrev pub with_delta : AnyForest → List DeltaRow → AnyForest
with_delta one delta = with_cells one (committed (cells_of one) delta)

-- Of a graph

-- it has room for each vertex of a graph
abbrev pub HasRoomOne : GraphView → AnyForest → Type 0
HasRoomOne graph one = HasPlaces graph (cells_of one)

-- the first forest of an analysis, right on a graph, with room for so many vertex numbers
pub record IsStarted (graph : GraphView) (bound : ℕ) (asked : Spec) (one : AnyForest) : Type 0 where
  pub spec : spec_of one ≡ asked
  pub suits : suits_of one graph.format
  pub size : length (cells_of one) ≡ bound
  pub right : (p : PlainGraph) → IsOf graph p → IsForest p asked (forest_in one)
