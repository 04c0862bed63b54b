use Rattle.std.proofs.Common.{◌+◌, arith, ap, sym, ◌∙◌, Some, drop}
use Rattle.ris_base.specs.Lines.{front_at_leave}
use Rattle.ris_core.proofs.LineScans.{at-end, at-entry, at-leave, at-mark}
use Rattle.ris_core.proofs.Scans.{read-at}
use Rattle.ris_core.proofs.lists.front_at_leave.Goals.{in-Entry, in-Leave, in-Mark}
use Rattle.ris_core.proofs.lists.front_at_leave.Goals as goal

pub loop-line-preserved : goal.loop-line-preserved
loop-line-preserved c =
    let lines = c.args.lines.now in
    let k = c.loop-line.line-index in
    let at = read-at lines k c.line-item.result c.loop-line-test.true c.line-item.is in
    let low = c.loop-line.invariant.1 in
    elim c.match-line.branch [
      | in-Entry w ↦ (
        ap (λ n. front_at_leave n c.match-line.at (drop (k + 1) lines)) w.count-is ∙ ap (λ n. front_at_leave (c.loop-line.count + 1) n (drop (k + 1) lines)) w.at-is
            ∙ at-entry c.loop-line.count c.loop-line.at lines k w.in-Entry.field-0 (at ∙ ap Some w.in-Entry.is) ∙ c.loop-line.invariant.0,
        (let n = w.count-is in omega arith),
      )
      | in-Leave w ↦ (
        ap (λ n. front_at_leave n c.match-line.at (drop (k + 1) lines)) w.count-is ∙ ap (λ n. front_at_leave c.loop-line.count n (drop (k + 1) lines)) w.at-is
            ∙ at-leave c.loop-line.count c.loop-line.at lines k w.in-Leave.session w.in-Leave.seq (at ∙ ap Some w.in-Leave.is) ∙ c.loop-line.invariant.0,
        (let n = w.count-is in omega arith),
      )
      | in-Mark w ↦ (
        ap (λ n. front_at_leave n c.match-line.at (drop (k + 1) lines)) w.count-is ∙ ap (λ n. front_at_leave c.loop-line.count n (drop (k + 1) lines)) w.at-is
            ∙ at-mark c.loop-line.count c.loop-line.at lines k w.in-Mark.session w.in-Mark.seq w.in-Mark.upto (at ∙ ap Some w.in-Mark.is) ∙ c.loop-line.invariant.0,
        (let n = w.count-is in omega arith),
      )
    ]

pub returns : goal.returns
returns c = sym (at-end c.loop-line.count c.loop-line.at c.args.lines.now c.loop-line.line-index c.loop-line-test.false) ∙ c.loop-line.invariant.0
