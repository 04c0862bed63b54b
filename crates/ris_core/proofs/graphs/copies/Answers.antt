use Rattle.std.proofs.Common.{arith, ap, sym}
use Rattle.ris_base.specs.Graph.{is_equal, triple}
use Rattle.ris_base.proofs.EffectLemmas.{one_if}
use Rattle.ris_core.proofs.Scans.{count-next}
use Rattle.ris_core.proofs.graphs.copies.Goals.{then-is_equal, else-is_equal}
use Rattle.ris_core.proofs.graphs.copies.Goals as goal

pub loop-k-preserved : goal.loop-k-preserved
loop-k-preserved c =
    let next = count-next (is_equal (triple c.args.u c.args.v c.args.w)) c.args.graph.now.triples c.loop-k.k c.at.result.now c.at.ensures in
    let one = ap one_if (sym c.is_equal.ensures) in
    let inv = c.loop-k.invariant.0 in
    let low = c.loop-k.invariant.1 in
    elim c.if-is_equal.branch [
      | then-is_equal w ↦ (let t = ap one_if w.if-is_equal.true in let n = w.count-is in (omega arith, omega arith))
      | else-is_equal w ↦ (let t = ap one_if w.if-is_equal.false in let n = w.count-is in (omega arith, omega arith))
    ]
