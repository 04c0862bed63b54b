use Rattle.std.proofs.Common.{◌+◌, List, [], ◌∷◌, true, false, length, arith, ap, subst}
use Rattle.std.proofs.lemmas.Result.{IfOk-weaker}
use Rattle.ris_base.specs.declared.graphs.PlainGraph.{PlainGraph}
use Rattle.ris_graph.specs.GraphView.{IsOf, in_row, out_row}
use Rattle.ris_rows.specs.declared.neighbours.Neighbour.{Neighbour}
use Rattle.ris_txn.specs.Touching.{AreTouched, IsRowTouched}
use Rattle.ris_txn.proofs.TouchLemmas.{IsRise-joined, rows-touched}
use Rattle.ris_txn.proofs.overlays.Overlay.touch_rows.Goals as goal

pub returns-clause-touched : goal.returns-clause-touched
returns-clause-touched g c =
    let graph = c.args.graph.now in
    let a = c.args.self.now in
    let b = c.touch_row.new.self in
    let d = c.touch_row-2.new.self in
    IfOk-weaker c.touch_row-2.result (λ _. IsRowTouched b d true c.args.x c.out_cursor.result) (λ _. (p : PlainGraph) → IsOf graph p → AreTouched graph a d (c.args.x ∷ []))
    (λ _ outs p of. rows-touched graph p of a b d c.args.x
    (subst (λ (ns : List Neighbour). IsRowTouched a b false c.args.x ns) c.in_cursor.ensures.items c.in_ok-touch_row.ensures.touched)
    (subst (λ (ns : List Neighbour). IsRowTouched b d true c.args.x ns) c.out_cursor.ensures.items outs))
    c.touch_row-2.ensures.touched

pub returns-clause-rise : goal.returns-clause-rise
returns-clause-rise g c =
    let ins = ap length c.in_cursor.ensures.items in
    let outs = ap length c.out_cursor.ensures.items in
    IsRise-joined (g.M.Meter.ticks c.args.meter.now) (g.M.Meter.ticks c.touch_row.new.meter) (g.M.Meter.ticks c.touch_row-2.new.meter)
    (length c.in_cursor.result) (length c.out_cursor.result) (length (in_row c.args.graph.now c.args.x).items + length (out_row c.args.graph.now c.args.x).items)
    c.touch_row.ensures.rise c.touch_row-2.ensures.rise (omega arith)
