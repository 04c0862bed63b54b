use Rattle.std.proofs.Common.{ap}
use Rattle.ris_forest.proofs.TableLemmas.{linked-from}
use Rattle.ris_forest.specs.declared.nodes.Links.{Links}
use Rattle.ris_forest.proofs.nodes.link.Goals as goal

pub returns : goal.returns
returns c =
    linked-from c.args.nodes.now c.set_next.new.nodes c.set_previous.new.nodes c.set_previous-2.new.nodes c.set_first.new.nodes c.args.parent c.args.child _
    (ap (λ (l : Links). l.first) c.links_of-head.ensures) c.set_next.ensures c.set_previous.ensures c.set_previous-2.ensures c.set_first.ensures
