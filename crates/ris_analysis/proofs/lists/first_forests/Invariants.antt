use Rattle.std.proofs.Common.{ℕ, ◌≡◌, take}
use Rattle.std.specs.List.{sum_by}
use Rattle.ris_base.specs.Lists.{EachPair}
use Rattle.ris_base.specs.declared.graphs.PlainGraph.{PlainGraph}
use Rattle.ris_graph.specs.GraphView.{IsOf}
use Rattle.ris_graph.specs.Ticks.{ticked, IsRise}
use Rattle.ris_analysis.specs.AnyForest.{IsStarted}
use Rattle.ris_analysis.specs.Repairing.{first_reach}
use Rattle.ris_analysis.proofs.lists.first_forests.Given as goal

abbrev pub invariant-loop-k : goal.invariant-loop-k
invariant-loop-k g l = record {
  started : EachPair (IsStarted l.graph l.size) (take l.k l.specs) l.forests.items;
  visits : (p : PlainGraph) → IsOf l.graph p → IsRise (g.M.Meter.ticks l.initial.meter) (g.M.Meter.ticks l.meter) (sum_by (first_reach p) (take l.k l.specs));
  counted : (k : ℕ) × (g.M.Meter.ticks l.meter ≡ ticked (g.M.Meter.ticks l.initial.meter) k);
}
