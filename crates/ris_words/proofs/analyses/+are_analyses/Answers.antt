use Rattle.std.proofs.Common.{◌∙◌, sym, refl, arith, ap, is_some}
use Rattle.ris_words.proofs.ItemLemmas.{within-none, test-one, test-more}
use Rattle.ris_words.proofs.analyses.+are_analyses.Goals as goal

pub returns-then-most-eq0 : goal.returns-then-most-eq0
returns-then-most-eq0 t c = rw (c.if-most-eq0.true, within-none c.args.list.now) refl

pub returns-in-None : goal.returns-in-None
returns-in-None t c =
    c.is_some.ensures ∙ ap is_some c.analysis_named.ensures ∙ sym (test-one c.args.most c.args.list.now (omega arith) (sym c.in-None.ensures))

pub returns-then-is_some : goal.returns-then-is_some
returns-then-is_some t c =
    let test = test-more c.args.most c.args.list.now c.in-Some.item.now c.in-Some.rest.now (omega arith) (sym c.in-Some.ensures) in
    rw (test, ← c.analysis_named-in-Some.ensures, ← c.if-is_some.ensures) c.are_analyses.ensures

pub returns-else-is_some : goal.returns-else-is_some
returns-else-is_some t c =
    let test = test-more c.args.most c.args.list.now c.in-Some.item.now c.in-Some.rest.now (omega arith) (sym c.in-Some.ensures) in
    rw (test, ← c.analysis_named-in-Some.ensures, ← c.if-is_some.ensures) c.if-is_some.false
