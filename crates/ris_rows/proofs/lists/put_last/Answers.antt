use Rattle.std.proofs.Common.{sym, ap, ◌∙◌, ◌++◌, ◌∷◌, []}
use Rattle.ris_rows.specs.declared.neighbours.Neighbour.{Neighbour}
use Rattle.ris_rows.proofs.Changes.{counted-last}
use Rattle.ris_rows.proofs.lists.put_last.Goals as goal

pub returns-clause-items : goal.returns-clause-items
returns-clause-items c =
    c.push_reserved.ensures.items ∙ ap (λ (y : Neighbour). c.args.items.now.items ++ y ∷ []) c.of.ensures ∙ sym (counted-last c.args.items.now.items c.args.end c.args.weight c.requires.ascending c.requires.last)
