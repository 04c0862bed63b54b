use Rattle.ris_graph.proofs.GraphLemmas.{out_row-is}
use Rattle.ris_graph.proofs.graphs.Graph.copies.Goals as goal

pub returns : goal.returns
returns g c =
    let t = c.args.t in
    rw (out_row-is, ← c.self.view_is) c.count.ensures
