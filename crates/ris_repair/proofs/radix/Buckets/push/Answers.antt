use Rattle.std.proofs.Common.{◌++◌, ◌∷◌, [], ap, ◌∙◌, List, ℕ, rules}
use Rattle.ris_repair.proofs.RadixLemmas.{listed_set, listed_at, listed_same}
use Rattle.ris_repair.proofs.radix.Buckets.push.Goals as goal

pub returns-in_err-push-clause-err : goal.returns-in_err-push-clause-err
returns-in_err-push-clause-err c =
    let kept = listed_same c.self.inside.lists.items c.args.number c.args.self.now c.index_mut.result.now c.self.view_is c.requires c.index_mut.ensures.value
    c.push.new.self c.in_err-push.ensures.items in
    search rules

pub returns-clause-ok : goal.returns-clause-ok
returns-clause-ok c =
    let old = c.index_mut.result.now in
    let at = listed_at c.self.inside.lists.items c.args.number c.args.self.now old c.self.view_is c.requires c.index_mut.ensures.value in
    listed_set c.self.inside.lists.items c.args.number c.args.self.now old c.self.view_is c.requires c.index_mut.ensures.value c.push.new.self _
    (c.in_ok-push.ensures.items ∙ ap (λ (xs : List (ℕ × ℕ)). xs ++ c.args.item ∷ []) at)
