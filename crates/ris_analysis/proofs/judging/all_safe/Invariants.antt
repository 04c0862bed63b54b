use Rattle.std.proofs.Common.{◌≡◌, true, take}
use Rattle.std.specs.List.{list_all}
use Rattle.ris_base.specs.declared.graphs.PlainGraph.{PlainGraph}
use Rattle.ris_graph.specs.GraphView.{IsOf}
use Rattle.ris_analysis.proofs.SafeLemmas.{passes}
use Rattle.ris_analysis.proofs.judging.all_safe.Given as goal

abbrev pub invariant-loop-forest : goal.invariant-loop-forest
invariant-loop-forest g l = (p : PlainGraph) → IsOf l.graph p → list_all (passes p l.update) (take l.forest-index l.forests) ≡ true
