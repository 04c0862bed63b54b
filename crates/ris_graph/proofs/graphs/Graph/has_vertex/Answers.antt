use Rattle.std.proofs.Common.{◌<◌, ◌≤◌, length, false, sym, rules}
use Rattle.std.proofs.lemmas.List.{get_or_read, get_or_past}
use Rattle.ris_graph.proofs.GraphLemmas.{vertex_in-is}
use Rattle.ris_graph.proofs.graphs.Graph.has_vertex.Goals as goal

pub returns-in-Some : goal.returns-in-Some
returns-in-Some g c =
    let within : c.args.x < length c.self.inside.present.items = search rules in
    rw (vertex_in-is, ← c.self.view_is) (get_or_read c.self.inside.present.items c.args.x c.in-Some.there.now within (rw c.deref.ensures.value at c.in-Some.ensures.lookup.1) false)

pub returns-in-None : goal.returns-in-None
returns-in-None g c =
    let past : length c.self.inside.present.items ≤ c.args.x = search rules in
    rw (vertex_in-is, ← c.self.view_is) (sym (get_or_past c.self.inside.present.items c.args.x false past))
