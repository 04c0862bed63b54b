use Rattle.std.proofs.Common.{◌<◌, length, sym, subst, rules}
use Rattle.ris_graph.specs.GraphView.{GraphView}
use Rattle.ris_graph.proofs.GraphLemmas.{present-lt}
use Rattle.ris_graph.proofs.graphs.Graph.size.Goals as goal

pub returns-clause-below : goal.returns-clause-below
returns-clause-below g c = λ x there.
    let now : GraphView = record { format = c.self.inside.format; stripes = c.self.inside.outs; ins = c.self.inside.ins; present = c.self.inside.present.items } in
    let within : x < length c.self.inside.present.items = present-lt now x (rw (← c.self.view_is) at there) in
    subst (λ n. x < n) (sym c.len.ensures) (search rules)
