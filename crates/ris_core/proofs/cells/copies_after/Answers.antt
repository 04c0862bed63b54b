use Rattle.std.proofs.Common.{◌+◌, ◌∙◌, ap, sym, arith, drop}
use Rattle.ris_base.specs.Graph.{triple}
use Rattle.ris_base.specs.Machine.{copies_after}
use Rattle.ris_core.specs.Stands.{logs_of}
use Rattle.ris_core.proofs.CellScans.{copies-end, copies-next}
use Rattle.ris_core.proofs.Scans.{read-at}
use Rattle.ris_core.proofs.cells.copies_after.Goals as goal

pub loop-decision-preserved : goal.loop-decision-preserved
loop-decision-preserved c =
    let t = triple c.args.u c.args.v c.args.w in
    let i = c.loop-decision.decision-index in
    let xs = c.args.decided.now in
    let at = read-at xs i c.decision-item.result c.loop-decision-test.true c.decision-item.is in (
      ap (λ n. copies_after t n (logs_of (drop (i + 1) xs) c.args.stripe)) c.counted-left.ensures.exact
          ∙ copies-next t c.loop-decision.left c.args.stripe xs i c.decision-item.result at ∙ c.loop-decision.invariant.0,
      (let low = c.counted-left.ensures.small in let inv = c.loop-decision.invariant.1 in omega arith),
    )

pub returns : goal.returns
returns c =
    sym (copies-end (triple c.args.u c.args.v c.args.w) c.loop-decision.left c.args.stripe c.args.decided.now c.loop-decision.decision-index c.loop-decision-test.false)
    ∙ c.loop-decision.invariant.0
