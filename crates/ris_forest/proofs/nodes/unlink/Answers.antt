use Rattle.ris_forest.proofs.TableLemmas.{unlinked-first, unlinked-later}
use Rattle.std.proofs.Common.{◌∙◌}
use Rattle.ris_forest.proofs.nodes.unlink.Goals as goal
use Rattle.ris_forest.proofs.nodes.unlink.Goals.{then-links, else-links}

pub returns : goal.returns
returns c =
    let links = c.links_of-links.result in
    elim c.if-links.branch [
      | then-links w ↦ unlinked-first c.args.nodes.now c.set_previous.new.nodes c.if-links.nodes c.args.parent c.args.child links c.links_of-links.ensures w.if-links.true
          (w.nodes-is ∙ w.set_first.ensures) c.set_previous.ensures
      | else-links w ↦ unlinked-later c.args.nodes.now c.set_previous.new.nodes c.if-links.nodes c.args.parent c.args.child links c.links_of-links.ensures w.if-links.false
          (w.nodes-is ∙ w.set_next.ensures) c.set_previous.ensures
    ]
