use Rattle.std.proofs.Common.{ℕ, List, sym, subst}
use Rattle.ris_base.specs.Falling.{IsReachFor}
use Rattle.ris_base.specs.declared.graphs.PlainGraph.{PlainGraph}
use Rattle.ris_base.specs.declared.updates.Update.{Update}
use Rattle.ris_graph.specs.GraphView.{GraphView}
use Rattle.ris_graph.specs.Ticks.{IsRise}
use Rattle.ris_graph.specs.declared.nets.Net.{Net}
use Rattle.ris_analysis.specs.AnyForest.{spec_of, cells_of, forest_in}
use Rattle.ris_analysis.specs.Repairing.{IsDueForOne}
use Rattle.ris_analysis.specs.declared.kinds.AnyForest.{AnyForest}
use Rattle.ris_analysis.proofs.kinds.AnyForest.prepare.Goals as goal

-- the visits for a forest are within its reach
abbrev AreWithin : GraphView → Net → ℕ → ℕ → AnyForest → Type 0
AreWithin graph net a b one =
    (p : PlainGraph) (parts : List Update) (n : ℕ) → IsDueForOne graph net (spec_of one) (cells_of one) p parts
    → IsReachFor p (spec_of one) parts (forest_in one) n → IsRise a b n

pub returns-in-Bfs-clause-visits : goal.returns-in-Bfs-clause-visits
returns-in-Bfs-clause-visits g c =
    subst (AreWithin c.args.graph.now c.args.net.now (g.M.Meter.ticks c.args.meter.now) (g.M.Meter.ticks c.changes.new.meter)) (sym c.in-Bfs.is) c.changes.ensures.visits

pub returns-in-Sssp-clause-visits : goal.returns-in-Sssp-clause-visits
returns-in-Sssp-clause-visits g c =
    subst (AreWithin c.args.graph.now c.args.net.now (g.M.Meter.ticks c.args.meter.now) (g.M.Meter.ticks c.changes-in-Sssp.new.meter)) (sym c.in-Sssp.is) c.changes-in-Sssp.ensures.visits

pub returns-in-Sswp-clause-visits : goal.returns-in-Sswp-clause-visits
returns-in-Sswp-clause-visits g c =
    subst (AreWithin c.args.graph.now c.args.net.now (g.M.Meter.ticks c.args.meter.now) (g.M.Meter.ticks c.changes-in-Sswp.new.meter)) (sym c.in-Sswp.is) c.changes-in-Sswp.ensures.visits

pub returns-in-Wcc-clause-visits : goal.returns-in-Wcc-clause-visits
returns-in-Wcc-clause-visits g c =
    subst (AreWithin c.args.graph.now c.args.net.now (g.M.Meter.ticks c.args.meter.now) (g.M.Meter.ticks c.changes-in-Wcc.new.meter)) (sym c.in-Wcc.is) c.changes-in-Wcc.ensures.visits
