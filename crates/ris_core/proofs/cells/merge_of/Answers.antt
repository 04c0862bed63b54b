use Rattle.std.proofs.Common.{◌≡◌, ◌++◌, ◌∙◌, List, ap, sym, arith, ◌+◌, ◌≤◌, ◌≢◌, drop, length, vec_len}
use Rattle.std.specs.Option.{option_map}
use Rattle.std.proofs.lemmas.Bool.{eqb-false, eqb-true}
use Rattle.ris_base.specs.Machine.{Decided}
use Rattle.ris_core.specs.Moves.{merge_of}
use Rattle.ris_core.proofs.Pulls.{merge-end, merge-ends, merge-next, merge-stops}
use Rattle.ris_core.proofs.Scans.{drop-end, drop-next}
use Rattle.ris_core.proofs.cells.merge_of.Goals as goal

pub returns-in_default : goal.returns-in_default
returns-in_default c =
    let s = c.at.result.now in
    let order = drop (c.loop-k.k + 1) c.args.order.now in
    sym (ap (λ ns. option_map (λ more. c.loop-k.merged.items ++ more) (merge_of ns c.loop-k.rest.items)) (drop-next c.args.order.now c.loop-k.k s c.at.ensures)
    ∙ ap (option_map (λ more. c.loop-k.merged.items ++ more)) (merge-stops s order c.loop-k.rest.items c.pull.new.rest.items c.in_default.ensures))
    ∙ c.loop-k.invariant

pub loop-k-preserved : goal.loop-k-preserved
loop-k-preserved c =
    let s = c.at.result.now in
    let order = drop (c.loop-k.k + 1) c.args.order.now in
    ap (λ (ds : List Decided). option_map (λ more. ds ++ more) (merge_of order c.pull.new.rest.items)) c.in_ok-push.ensures.items
    ∙ merge-next s order c.loop-k.merged.items c.loop-k.rest.items c.pull.new.rest.items c.in-Some.decision c.in-Some.ensures
    ∙ sym (ap (λ ns. option_map (λ more. c.loop-k.merged.items ++ more) (merge_of ns c.loop-k.rest.items)) (drop-next c.args.order.now c.loop-k.k s c.at.ensures))
    ∙ c.loop-k.invariant

pub returns-then-is_empty : goal.returns-then-is_empty
returns-then-is_empty c =
    let past : length c.args.order.now ≤ c.loop-k.k = (let e = c.len-k-end.ensures in let t = c.loop-k-test.false in omega arith) in
    let none : length c.loop-k.rest.items ≡ 0 = (let e = eqb-true (vec_len c.loop-k.rest) 0 (sym c.is_empty.ensures ∙ c.if-is_empty.true) in let ok = c.loop-k.rest.ok.0 in omega arith) in
    sym (ap (λ ns. option_map (λ more. c.loop-k.merged.items ++ more) (merge_of ns c.loop-k.rest.items)) (drop-end c.args.order.now c.loop-k.k past)
    ∙ merge-end c.loop-k.merged.items c.loop-k.rest.items none)
    ∙ c.loop-k.invariant

pub returns : goal.returns
returns c =
    let past : length c.args.order.now ≤ c.loop-k.k = (let e = c.len-k-end.ensures in let t = c.loop-k-test.false in omega arith) in
    let some : length c.loop-k.rest.items ≢ 0 = λ none. eqb-false (vec_len c.loop-k.rest) 0 (sym c.is_empty.ensures ∙ c.if-is_empty.false) (let ok = c.loop-k.rest.ok.0 in omega arith) in
    sym (ap (λ ns. option_map (λ more. c.loop-k.merged.items ++ more) (merge_of ns c.loop-k.rest.items)) (drop-end c.args.order.now c.loop-k.k past)
    ∙ merge-ends c.loop-k.merged.items c.loop-k.rest.items some)
    ∙ c.loop-k.invariant
