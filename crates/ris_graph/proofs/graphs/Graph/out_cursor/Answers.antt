use Rattle.ris_graph.proofs.GraphLemmas.{out_row-is}
use Rattle.ris_graph.proofs.graphs.Graph.out_cursor.Goals as goal

pub returns-clause-items : goal.returns-clause-items
returns-clause-items g c = rw (out_row-is, ← c.self.view_is) c.cursor.ensures.items
