use Rattle.std.proofs.Common.{arith, sym, ◌∙◌}
use Rattle.ris_core.proofs.RowScans.{value-end, value-here, value-passed}
use Rattle.ris_core.proofs.tables.value_in.Goals as goal

pub returns-then-from-x : goal.returns-then-from-x
returns-then-from-x c =
    sym (value-here c.args.rows.now c.loop-k.k c.at-row.result.now c.args.x c.at-row.ensures (sym c.from.ensures ∙ c.if-from-x.true)) ∙ c.loop-k.invariant

pub loop-k-preserved : goal.loop-k-preserved
loop-k-preserved c =
    value-passed c.args.rows.now c.loop-k.k c.at-row.result.now c.args.x c.at-row.ensures (λ same. c.if-from-x.false (c.from.ensures ∙ same)) ∙ c.loop-k.invariant

pub returns : goal.returns
returns c = sym (value-end c.args.rows.now c.loop-k.k c.args.x (omega (arith, c.len-k-end.ensures))) ∙ c.loop-k.invariant
