use Rattle.std.proofs.Common.{sym, refl}
use Rattle.ris_words.proofs.ItemLemmas.{nothing_read, something_read, read_list}
use Rattle.ris_words.proofs.analyses.read_analyses.Goals as goal

pub returns-then-not-is_analysis_list-clause-usage : goal.returns-then-not-is_analysis_list-clause-usage
returns-then-not-is_analysis_list-clause-usage c =
    let none = rw c.as_bytes.ensures.value at c.if-not-is_analysis_list.ensures in
    (λ usage. nothing_read c.args.list.now (sym none), λ nothing. refl)

pub returns-in_err-listed-clause-usage : goal.returns-in_err-listed-clause-usage
returns-in_err-listed-clause-usage c =
    let some = rw c.as_bytes.ensures.value at c.if-not-is_analysis_list.ensures in
    (λ usage. let bad = rw usage at c.from_residual.ensures.1 in cc, λ nothing. absurd (something_read c.args.list.now (sym some) nothing))

pub returns-clause-ok : goal.returns-clause-ok
returns-clause-ok c = read_list c.args.list.now c.in_ok-listed.field-0 (rw c.as_bytes-2.ensures.value at c.in_ok-listed.ensures)

pub returns-clause-usage : goal.returns-clause-usage
returns-clause-usage c =
    (λ usage. cc, λ nothing. absurd (nothing _ (read_list c.args.list.now c.in_ok-listed.field-0 (rw c.as_bytes-2.ensures.value at c.in_ok-listed.ensures))))
