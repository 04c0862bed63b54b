use Rattle.std.proofs.Common.{◌∙◌, sym, arith}
use Rattle.ris_words.proofs.ItemLemmas.{test-one, test-more, some-within, both, push-one, push-more}
use Rattle.ris_words.proofs.analyses.+push_analyses.Goals as goal

pub push_analysis-requires : goal.push_analysis-requires
push_analysis-requires t c =
    let some = some-within c.args.most c.args.list.now c.requires in
    sym (test-one c.args.most c.args.list.now some (sym c.in-None.ensures)) ∙ c.requires

pub push_analysis-requires-in-Some : goal.push_analysis-requires-in-Some
push_analysis-requires-in-Some t c =
    let some = some-within c.args.most c.args.list.now c.requires in
    (both _ _ (sym (test-more c.args.most c.args.list.now c.in-Some.item.now c.in-Some.rest.now some (sym c.in-Some.ensures)) ∙ c.requires)).0

pub overflow_sub-most : goal.overflow_sub-most
overflow_sub-most t c = some-within c.args.most c.args.list.now c.requires

pub push_analyses-requires : goal.push_analyses-requires
push_analyses-requires t c =
    let some = some-within c.args.most c.args.list.now c.requires in
    let measure = c.decreases in
    (omega arith, (both _ _ (sym (test-more c.args.most c.args.list.now c.in-Some.item.now c.in-Some.rest.now some (sym c.in-Some.ensures)) ∙ c.requires)).1)

pub returns-in_ok-push_analysis-in-None : goal.returns-in_ok-push_analysis-in-None
returns-in_ok-push_analysis-in-None t c =
    let some = some-within c.args.most c.args.list.now c.requires in
    push-one c.args.most c.args.list.now _ _ some (sym c.in-None.ensures) c.in_ok-push_analysis-in-None.ensures

pub returns-in_ok-push_analyses-in-Some : goal.returns-in_ok-push_analyses-in-Some
returns-in_ok-push_analyses-in-Some t c =
    let some = some-within c.args.most c.args.list.now c.requires in
    push-more c.args.most c.args.list.now c.in-Some.item.now c.in-Some.rest.now _ _ _ some (sym c.in-Some.ensures) c.in_ok-push_analysis-in-Some.ensures
    c.in_ok-push_analyses-in-Some.ensures
