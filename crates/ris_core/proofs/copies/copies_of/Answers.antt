use Rattle.std.proofs.Common.{◌∷◌, ◌++◌, [], ◌∙◌, ap, arith}
use Rattle.ris_core.proofs.Scans.{copied-next, read-at, take-end}
use Rattle.ris_core.proofs.copies.copies_of.Goals as goal

pub loop-item-preserved : goal.loop-item-preserved
loop-item-preserved g c =
    let item = c.item-item.result in
    let i = c.loop-item.item-index in
    let at = read-at c.args.items.now i item c.loop-item-test.true c.item-item.is in
    copied-next c.args.items.now c.push.new.self.items c.loop-item.copies.items i item at c.loop-item.invariant
    (c.in_ok-push.ensures.items ∙ ap (λ x. c.loop-item.copies.items ++ x ∷ []) c.in_ok-copy.ensures)

pub returns : goal.returns
returns g c = c.loop-item.invariant ∙ take-end c.args.items.now c.loop-item.item-index (let t = c.loop-item-test.false in omega arith)
