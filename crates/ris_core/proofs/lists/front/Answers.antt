use Rattle.std.proofs.Common.{arith, ap, ◌∙◌, Some}
use Rattle.ris_core.proofs.LineScans.{front-end, front-next, front-skip}
use Rattle.ris_core.proofs.Scans.{read-at}
use Rattle.ris_core.proofs.lists.front.Goals.{in-Entry, in_default}
use Rattle.ris_core.proofs.lists.front.Goals as goal

pub loop-line-preserved : goal.loop-line-preserved
loop-line-preserved c =
    let lines = c.args.lines.now in
    let k = c.loop-line.line-index in
    let at = read-at lines k c.line-item.result c.loop-line-test.true c.line-item.is in
    let inv = c.loop-line.invariant.0 in
    let low = c.loop-line.invariant.1 in
    elim c.match-line.branch [
      | in-Entry w ↦ (let e = front-next lines k w.in-Entry.field-0 (at ∙ ap Some w.in-Entry.is) in let n = w.count-is in (omega arith, omega arith))
      | in_default w ↦ (let e = front-skip lines k c.line-item.result at w.in_default.not-Entry in let n = w.count-is in (omega arith, omega arith))
    ]

pub returns : goal.returns
returns c =
    let none = front-end c.args.lines.now c.loop-line.line-index c.loop-line-test.false in
    let inv = c.loop-line.invariant.0 in omega arith
