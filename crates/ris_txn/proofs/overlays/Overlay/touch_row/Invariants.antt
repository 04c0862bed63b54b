use Rattle.std.proofs.Common.{◌≡◌, List, ◌++◌, length}
use Rattle.ris_graph.specs.Ticks.{ticked}
use Rattle.ris_rows.specs.declared.neighbours.Neighbour.{Neighbour}
use Rattle.ris_txn.specs.Touching.{IsRowTouched}
use Rattle.ris_txn.proofs.overlays.Overlay.touch_row.Given as goal

abbrev pub invariant-loop-end : goal.invariant-loop-end
invariant-loop-end g l =
    (done : List Neighbour) × (done ++ l.row ≡ l.fn.row) × IsRowTouched l.fn.self l.self l.out l.x done × (g.M.Meter.ticks l.meter ≡ ticked (g.M.Meter.ticks l.fn.meter) (length done))

abbrev pub decreases-loop-end : goal.decreases-loop-end
decreases-loop-end g l = length l.row
