use Rattle.std.proofs.Common.{ℕ, ◌≡◌, List, take, sum}
use Rattle.ris_base.specs.Falling.{AreReaches}
use Rattle.ris_base.specs.Lists.{EachPair}
use Rattle.ris_base.specs.declared.graphs.PlainGraph.{PlainGraph}
use Rattle.ris_base.specs.declared.updates.Update.{Update}
use Rattle.ris_graph.specs.Ticks.{ticked, IsRise}
use Rattle.ris_analysis.specs.AnyForest.{spec_of, cells_of}
use Rattle.ris_analysis.specs.Analyses.{specs_of, forests_of, IsDueFor}
use Rattle.ris_analysis.specs.Repairing.{IsRepaired}
use Rattle.ris_analysis.proofs.lists.prepare.Given as goal

abbrev pub invariant-loop-forest : goal.invariant-loop-forest
invariant-loop-forest g l = record {
  repaired : EachPair (λ one delta. IsRepaired l.graph l.net (spec_of one) (cells_of one) delta) (take l.forest-index l.forests) l.deltas;
  visits : (p : PlainGraph) (parts : List Update) (counts : List ℕ) → IsDueFor l.graph l.forests l.net p parts
      → AreReaches p parts (specs_of l.forests) (forests_of l.forests) counts
      → IsRise (g.M.Meter.ticks l.initial.meter) (g.M.Meter.ticks l.meter) (sum (take l.forest-index counts));
  counted : (k : ℕ) × (g.M.Meter.ticks l.meter ≡ ticked (g.M.Meter.ticks l.initial.meter) k);
}
