use Rattle.std.proofs.Common.{ap}
use Rattle.ris_repair.proofs.RadixLemmas.{listed, listed_set}
use Rattle.ris_repair.proofs.radix.Buckets.swap.Goals as goal

pub returns-clause-self_after : goal.returns-clause-self_after
returns-clause-self_after c =
    listed_set c.self.inside.lists.items c.args.number c.args.self.now c.index_mut.result.now c.self.view_is c.requires c.index_mut.ensures.value c.swap.new.x _
    (ap listed c.swap.ensures.x_after)
