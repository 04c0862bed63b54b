use Rattle.std.proofs.Common.{◌+◌, ap, sym, ◌∙◌, drop, max}
use Rattle.ris_base.specs.Lines.{mark}
use Rattle.ris_core.proofs.LineScans.{mark-end, mark-next}
use Rattle.ris_core.proofs.Scans.{read-at}
use Rattle.ris_core.proofs.lists.mark.Goals as goal

pub loop-line-preserved : goal.loop-line-preserved
loop-line-preserved c =
    let lines = c.args.lines.now in
    let k = c.loop-line.line-index in
    let at = read-at lines k c.line-item.result c.loop-line-test.true c.line-item.is in
    ap (λ m. max m (mark (drop (k + 1) lines) c.args.session)) (c.max-greatest.ensures ∙ ap (max c.loop-line.greatest) c.mark_in.ensures)
    ∙ mark-next lines k c.line-item.result c.args.session c.loop-line.greatest at ∙ c.loop-line.invariant

pub returns : goal.returns
returns c = sym (mark-end c.args.lines.now c.loop-line.line-index c.args.session c.loop-line.greatest c.loop-line-test.false) ∙ c.loop-line.invariant
