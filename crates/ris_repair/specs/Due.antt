-- What a repair starts from, and when values and parents are right after it.
use Rattle.std.specs.Prelude.{ℕ, List}
use Rattle.ris_base.specs.Falling.{AreFallen}
use Rattle.ris_base.specs.Forest.{IsForest}
use Rattle.ris_base.specs.Requests.{entered}
use Rattle.ris_base.specs.declared.graphs.PlainGraph.{PlainGraph}
use Rattle.ris_base.specs.declared.analyses.Spec.{Spec}
use Rattle.ris_base.specs.declared.updates.Update.{Update}
use Rattle.ris_forest.specs.Cells.{Cell, forest_of}
use Rattle.ris_graph.specs.GraphView.{GraphView, IsOf}
use Rattle.ris_graph.specs.Nets.{IsNet}
use Rattle.ris_graph.specs.declared.nets.Net.{Net}

-- the net of the request stands in the graph, the forest was right before it, and these are exactly the vertices that it makes fall
pub record IsDue (graph : GraphView) (spec : Spec) (cells : List Cell) (xs : List ℕ) (effect : Net) (p : PlainGraph) (parts : List Update) : Type 0 where
  pub is : IsOf graph (entered p parts)
  pub net : IsNet p parts effect
  pub right : IsForest p spec (forest_of cells)
  pub fallen : AreFallen p parts (forest_of cells) xs
