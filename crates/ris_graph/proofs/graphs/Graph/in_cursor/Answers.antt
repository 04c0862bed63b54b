use Rattle.ris_graph.proofs.GraphLemmas.{in_row-is}
use Rattle.ris_graph.proofs.graphs.Graph.in_cursor.Goals as goal

pub returns-clause-items : goal.returns-clause-items
returns-clause-items g c = rw (in_row-is, ← c.self.view_is) c.cursor.ensures.items
