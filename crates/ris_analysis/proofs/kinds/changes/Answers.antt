use Rattle.std.proofs.Common.{sym}
use Rattle.ris_graph.proofs.ListingLemmas.{ticked-zero}
use Rattle.ris_repair.proofs.RiseLemmas.{rise_none}
use Rattle.ris_analysis.proofs.RepairedLemmas.{due_fallen}
use Rattle.ris_analysis.proofs.kinds.changes.Goals as goal

pub returns-in_err-fallen-clause-visits : goal.returns-in_err-fallen-clause-visits
returns-in_err-fallen-clause-visits g c = λ p parts n due reach. rise_none (g.M.Meter.ticks c.args.meter.now) n

pub returns-in_err-fallen-clause-counted : goal.returns-in_err-fallen-clause-counted
returns-in_err-fallen-clause-counted g c = (0, sym (ticked-zero (g.M.Meter.ticks c.args.meter.now)))

pub returns-in_err-delta-clause-visits : goal.returns-in_err-delta-clause-visits
returns-in_err-delta-clause-visits g c = λ p parts n due reach.
    c.repair.ensures.visits p parts n
    (due_fallen c.args.graph.now c.args.net.now (g.A.Monotone.spec c.args.forest.now.algo) c.args.forest.now.cells c.in_ok-fallen.fallen p parts due
    (c.in_ok-fallen.ensures p parts due.net due.right)) reach

pub returns-clause-visits : goal.returns-clause-visits
returns-clause-visits g c = λ p parts n due reach.
    c.repair.ensures.visits p parts n
    (due_fallen c.args.graph.now c.args.net.now (g.A.Monotone.spec c.args.forest.now.algo) c.args.forest.now.cells c.in_ok-fallen.fallen p parts due
    (c.in_ok-fallen.ensures p parts due.net due.right)) reach

pub returns-clause-repaired : goal.returns-clause-repaired
returns-clause-repaired g c =
    let told = c.in_ok-delta.ensures in
    record {
      right = λ p parts due. told.right p parts (due_fallen c.args.graph.now c.args.net.now (g.A.Monotone.spec c.args.forest.now.algo) c.args.forest.now.cells c.in_ok-fallen.fallen p parts due
          (c.in_ok-fallen.ensures p parts due.net due.right));
      moved = λ p parts due. told.moved p parts (due_fallen c.args.graph.now c.args.net.now (g.A.Monotone.spec c.args.forest.now.algo) c.args.forest.now.cells c.in_ok-fallen.fallen p parts due
          (c.in_ok-fallen.ensures p parts due.net due.right));
      fit = λ places. record { room = told.below places; small = told.small; rooted = told.rooted };
      within = told.within;
      ascending = c.len-rows.ensures.ascending;
    }
