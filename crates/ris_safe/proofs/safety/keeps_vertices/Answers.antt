use Rattle.std.proofs.Common.{◌≡◌, ◌&&◌, true, false, ap, sym, ◌∙◌}
use Rattle.ris_graph.specs.GraphView.{vertex_in}
use Rattle.ris_safe.proofs.PresentLemmas.{vertex_in-has, ends_test}
use Rattle.ris_safe.proofs.safety.keeps_vertices.Goals as goal

pub returns-in-AddV : goal.returns-in-AddV
returns-in-AddV g c p is = rw c.in-AddV.is (c.has_vertex.ensures ∙ vertex_in-has c.args.graph.now p c.in-AddV.x is)

pub returns-then-has_vertex : goal.returns-then-has_vertex
returns-then-has_vertex g c p is =
    let first : vertex_in c.args.graph.now c.in-AddE.u ≡ true = sym c.has_vertex-in-AddE.ensures ∙ c.if-has_vertex.true in
    c.has_vertex-then-has_vertex.ensures ∙ ap (λ b. b && vertex_in c.args.graph.now c.in-AddE.v) (sym first)
    ∙ ends_test c.args.graph.now p c.args.update.now c.in-AddE.u c.in-AddE.v is c.in-AddE.is

pub returns-else-has_vertex : goal.returns-else-has_vertex
returns-else-has_vertex g c p is =
    let first : vertex_in c.args.graph.now c.in-AddE.u ≡ false = sym c.has_vertex-in-AddE.ensures ∙ c.if-has_vertex.false in
    c.if-has_vertex.false ∙ ap (λ b. b && vertex_in c.args.graph.now c.in-AddE.v) (sym first)
    ∙ ends_test c.args.graph.now p c.args.update.now c.in-AddE.u c.in-AddE.v is c.in-AddE.is
