use Rattle.std.proofs.Common.{◌≡◌, ◌≤◌, ◌<◌, ◌∙◌, List, length, arith, sym, subst, ap}
use Rattle.ris_base.specs.Forest.{vertex_of}
use Rattle.ris_forest.specs.Cells.{Cell, IsParentBelow}
use Rattle.ris_forest.specs.Commits.{cell_of}
use Rattle.ris_forest.specs.Linking.{no_vertex, cells_of, above_of, with_packed, linked, AreLinked}
use Rattle.ris_forest.specs.declared.nodes.Node.{Node}
use Rattle.ris_base.specs.declared.forests.Parent.{Parent}
use Rattle.ris_forest.proofs.PlaceLemmas.{cells_of-packed, AreLinked-root, AreLinked-child}
use Rattle.ris_forest.proofs.TableLemmas.{cells_of-linked}
use Rattle.ris_forest.proofs.nodes.place.Goals as goal

pub returns-in-None-clause-cells : goal.returns-in-None-clause-cells
returns-in-None-clause-cells c =
    let row = c.args.row.now in
    let within = c.requires.row.vertex in
    let same = c.detach.auto.nodes in
    let few : length c.detach.new.nodes ≤ no_vertex = omega arith in
    ap cells_of c.set_packed.ensures
    ∙ cells_of-packed c.args.nodes.now c.detach.new.nodes row.vertex c.new.result few (omega arith) c.detach.ensures.cells c.detach.ensures.linked (cell_of row) c.new.ensures

pub returns-in-None-clause-linked : goal.returns-in-None-clause-linked
returns-in-None-clause-linked c =
    let row = c.args.row.now in
    let within = c.requires.row.vertex in
    let same = c.detach.auto.nodes in
    let few : length c.detach.new.nodes ≤ no_vertex = omega arith in
    subst (λ (l : List Node). AreLinked l (above_of l)) (sym c.set_packed.ensures)
    (AreLinked-root c.args.nodes.now c.detach.new.nodes row.vertex c.new.result few (omega arith) c.detach.ensures.cells c.detach.ensures.linked
    (ap (λ (d : Cell). vertex_of d.parent) c.new.ensures ∙ ap vertex_of c.in-None.is))

pub returns-in-From-clause-cells : goal.returns-in-From-clause-cells
returns-in-From-clause-cells c =
    let row = c.args.row.now in
    let within = c.requires.row.vertex in
    let same = c.detach.auto.nodes in
    let few : length c.detach.new.nodes ≤ no_vertex = omega arith in
    ap cells_of c.link.ensures ∙ cells_of-linked c.set_packed.new.nodes c.in-From.vertex row.vertex ∙ ap cells_of c.set_packed.ensures
    ∙ cells_of-packed c.args.nodes.now c.detach.new.nodes row.vertex c.new.result few (omega arith) c.detach.ensures.cells c.detach.ensures.linked (cell_of row) c.new.ensures

pub returns-in-From-clause-linked : goal.returns-in-From-clause-linked
returns-in-From-clause-linked c =
    let row = c.args.row.now in
    let within = c.requires.row.vertex in
    let same = c.detach.auto.nodes in
    let few : length c.detach.new.nodes ≤ no_vertex = omega arith in
    let inside : c.in-From.vertex < length c.args.nodes.now = subst (λ (p : Parent). IsParentBelow (length c.args.nodes.now) p) c.in-From.is c.requires.row.parent in
    let whole : c.link.new.nodes ≡ linked (with_packed c.detach.new.nodes row.vertex c.new.result) c.in-From.vertex row.vertex =
    c.link.ensures ∙ ap (λ (l : List Node). linked l c.in-From.vertex row.vertex) c.set_packed.ensures in
    subst (λ (l : List Node). AreLinked l (above_of l)) (sym whole)
    (AreLinked-child c.args.nodes.now c.detach.new.nodes row.vertex c.new.result few (omega arith) c.detach.ensures.cells c.detach.ensures.linked
    c.in-From.vertex (omega arith) (ap (λ (d : Cell). vertex_of d.parent) c.new.ensures ∙ ap vertex_of c.in-From.is))
