use Rattle.std.proofs.Common.{◌≡◌, ◌≤◌, Some, None, List, length, arith, sym, subst, ap, ◌∙◌}
use Rattle.ris_base.specs.Forest.{vertex_of}
use Rattle.ris_forest.specs.Linking.{no_vertex, cells_of, above_of, without_above, AreLinked}
use Rattle.ris_forest.specs.declared.nodes.Node.{Node}
use Rattle.ris_forest.proofs.LinkLemmas.{AreLinked-unlinked, AreLinked-same, without_above-none}
use Rattle.ris_forest.proofs.TableLemmas.{cells_of-unlinked}
use Rattle.ris_forest.proofs.nodes.detach.Goals as goal

pub returns-in-From-clause-cells : goal.returns-in-From-clause-cells
returns-in-From-clause-cells c = ap cells_of c.unlink.ensures ∙ cells_of-unlinked c.args.nodes.now c.in-From.parent c.args.vertex

pub returns-in-From-clause-linked : goal.returns-in-From-clause-linked
returns-in-From-clause-linked c =
    let few : length c.args.nodes.now ≤ no_vertex = omega arith in
    let is : above_of c.args.nodes.now c.args.vertex ≡ Some c.in-From.parent = ap vertex_of (sym c.in-From.ensures) in
    subst (λ (l : List Node). AreLinked l (without_above (above_of c.args.nodes.now) c.args.vertex)) (sym c.unlink.ensures)
    (AreLinked-unlinked c.args.nodes.now (above_of c.args.nodes.now) few c.requires.linked c.in-From.parent c.args.vertex is)

pub returns-in-None-clause-linked : goal.returns-in-None-clause-linked
returns-in-None-clause-linked c =
    let none : above_of c.args.nodes.now c.args.vertex ≡ None = ap vertex_of (sym c.in-None.ensures) in
    AreLinked-same c.args.nodes.now (above_of c.args.nodes.now) (without_above (above_of c.args.nodes.now) c.args.vertex)
    (without_above-none (above_of c.args.nodes.now) c.args.vertex none) c.requires.linked
