use Rattle.std.proofs.Common.{◌+◌, ap, sym, ◌∙◌, arith, drop, max}
use Rattle.ris_core.specs.Rows.{bound_of}
use Rattle.ris_core.proofs.RowScans.{bound-end, bound-next}
use Rattle.ris_core.proofs.tables.bound_of.Goals as goal

pub loop-k-preserved : goal.loop-k-preserved
loop-k-preserved c =
    ap (λ n. bound_of n (drop (c.loop-k.k + 1) c.args.rows.now)) (c.max-bound.ensures ∙ ap (λ v. max c.loop-k.bound (v + 1)) c.from.ensures)
    ∙ bound-next c.loop-k.bound c.args.rows.now c.loop-k.k c.at.result.now c.at.ensures ∙ c.loop-k.invariant

pub returns : goal.returns
returns c = sym (bound-end c.loop-k.bound c.args.rows.now c.loop-k.k (omega (arith, c.len-k-end.ensures))) ∙ c.loop-k.invariant
