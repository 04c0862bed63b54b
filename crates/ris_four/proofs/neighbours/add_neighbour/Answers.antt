use Rattle.ris_four.proofs.NeighbourLemmas.{Gain-set}
use Rattle.ris_four.proofs.neighbours.add_neighbour.Goals as goal

pub returns : goal.returns
returns c =
    Gain-set c.args.lists.now.items c.args.x c.index_mut.result.now c.push.new.self
    (record { other = c.args.other; weight = c.args.weight }) c.requires c.index_mut.ensures.value c.in_ok-push.ensures.items
