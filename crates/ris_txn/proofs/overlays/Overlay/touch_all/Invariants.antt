use Rattle.std.proofs.Common.{take}
use Rattle.std.specs.List.{sum_by}
use Rattle.ris_base.specs.declared.graphs.PlainGraph.{PlainGraph}
use Rattle.ris_graph.specs.GraphView.{IsOf}
use Rattle.ris_graph.specs.Ticks.{IsRise}
use Rattle.ris_txn.specs.Touching.{AreTouched, rows_length}
use Rattle.ris_txn.proofs.overlays.Overlay.touch_all.Given as goal

abbrev pub invariant-loop-k : goal.invariant-loop-k
invariant-loop-k g l = record {
  touched : (p : PlainGraph) → IsOf l.graph p → AreTouched l.graph l.fn.self l.self (take l.k l.vertices);
  rise : IsRise (g.M.Meter.ticks l.fn.meter) (g.M.Meter.ticks l.meter) (sum_by (rows_length l.graph) (take l.k l.vertices));
}
