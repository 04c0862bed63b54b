use Rattle.std.proofs.Common.{◌∙◌, ap}
use Rattle.std.specs.List.{position}
use Rattle.ris_repair.proofs.RadixLemmas.{filled, lowest_some, lowest_none}
use Rattle.ris_repair.proofs.radix.Buckets.lowest.Goals as goal

pub returns-clause-some : goal.returns-clause-some
returns-clause-some c =
    lowest_some c.self.inside.lists.items c.args.self.now c.self.view_is c.first_filled.result (c.first_filled.ensures ∙ ap (position filled) c.deref.ensures.value)

pub returns-clause-none : goal.returns-clause-none
returns-clause-none c =
    lowest_none c.self.inside.lists.items c.args.self.now c.self.view_is c.first_filled.result (c.first_filled.ensures ∙ ap (position filled) c.deref.ensures.value)
