use Rattle.std.proofs.Common.{◌≡◌, ◌<◌, ◌≤◌, length, false, arith, sym, subst, ap, ◌∙◌}
use Rattle.std.specs.List.{list_all}
use Rattle.std.proofs.lemmas.List.{take_all}
use Rattle.ris_analysis.specs.declared.kinds.AnyForest.{AnyForest}
use Rattle.ris_analysis.proofs.SafeLemmas.{passes, is_safe-passes, list_all-fails}
use Rattle.ris_analysis.proofs.judging.all_safe.Goals as goal

pub returns-then-not-is_safe : goal.returns-then-not-is_safe
returns-then-not-is_safe g c = λ p of.
    let ones = c.args.forests.now in
    let test = passes p c.args.update.now in
    let less : c.loop-forest.forest-index < length c.args.forests.now = omega arith in
    let fails = sym (c.is_safe.ensures p of) ∙ c.if-not-is_safe.true in
    sym (is_safe-passes p c.args.update.now ones c.requires
    ∙ list_all-fails test ones c.loop-forest.forest-index c.forest-item.result less (subst (λ (one : AnyForest). test one ≡ false) c.forest-item.is fails))

pub returns : goal.returns
returns g c = λ p of.
    let ones = c.args.forests.now in
    let past : length c.args.forests.now ≤ c.loop-forest.forest-index = omega arith in
    sym (is_safe-passes p c.args.update.now ones c.requires
    ∙ sym (ap (list_all (passes p c.args.update.now)) (take_all c.loop-forest.forest-index ones past)) ∙ c.loop-forest.invariant p of)
