use Rattle.std.proofs.Common.{◌<◌, ◌++◌, ◌∷◌, [], List, length, get_or, take, arith, sym, subst}
use Rattle.std.proofs.lemmas.List.{take_more}
use Rattle.ris_base.specs.Falling.{IsReachFor}
use Rattle.ris_base.specs.Lists.{EachPair}
use Rattle.ris_forest.specs.declared.deltas.DeltaRow.{DeltaRow}
use Rattle.ris_graph.proofs.ListingLemmas.{ticked-zero}
use Rattle.ris_repair.proofs.RiseLemmas.{rise_none}
use Rattle.ris_analysis.specs.AnyForest.{spec_of, cells_of, forest_in}
use Rattle.ris_analysis.specs.Repairing.{IsDueForOne}
use Rattle.ris_analysis.specs.declared.kinds.AnyForest.{AnyForest}
use Rattle.ris_analysis.proofs.PairLemmas.{EachPair-push}
use Rattle.ris_analysis.proofs.RepairedLemmas.{counted_more, due_at, reach_at, rise_next, rise_part, Repaired}
use Rattle.ris_analysis.proofs.lists.prepare.Goals as goal

pub loop-forest-init : goal.loop-forest-init
loop-forest-init g c = record {
  repaired = subst (λ (l : List (List DeltaRow)). EachPair (Repaired c.args.graph.now c.args.net.now) [] l) (sym c.new-deltas.ensures) tt;
  visits = λ p parts counts due reaches. rise_none (g.M.Meter.ticks c.args.meter.now) 0;
  counted = (0, sym (ticked-zero (g.M.Meter.ticks c.args.meter.now)));
}

pub prepare-requires-clause-due : goal.prepare-requires-clause-due
prepare-requires-clause-due g c κs within =
    let due = c.requires.due in
    let less : c.loop-forest.forest-index < length c.args.forests.now = omega arith in (
      due.0,
      due.1,
      subst (λ (one : AnyForest). IsDueForOne c.args.graph.now c.args.net.now (spec_of one) (cells_of one) due.0 due.1) (sym c.forest-item.is)
          (due_at c.args.graph.now c.args.forests.now c.args.net.now due.0 due.1 c.loop-forest.forest-index c.forest-item.result less due.2),
    )

pub returns-in_err-delta-clause-visits : goal.returns-in_err-delta-clause-visits
returns-in_err-delta-clause-visits g c = λ p parts counts due reaches.
    let one = c.forest-item.result in
    let k = c.loop-forest.forest-index in
    let less : c.loop-forest.forest-index < length c.args.forests.now = omega arith in
    let reach = reach_at p parts c.args.forests.now counts k one 0 reaches less in
    rise_part (λ n. n) (g.M.Meter.ticks c.args.meter.now) (g.M.Meter.ticks c.loop-forest.meter) (g.M.Meter.ticks c.prepare.new.meter) k counts 0 reach.0
    (c.loop-forest.invariant.visits p parts counts due reaches)
    (c.prepare.ensures.visits p parts (get_or counts k 0)
    (subst (λ (o : AnyForest). IsDueForOne c.args.graph.now c.args.net.now (spec_of o) (cells_of o) p parts) (sym c.forest-item.is)
    (due_at c.args.graph.now c.args.forests.now c.args.net.now p parts k one less due))
    (subst (λ (o : AnyForest). IsReachFor p (spec_of o) parts (forest_in o) (get_or counts k 0)) (sym c.forest-item.is) reach.1))

pub returns-in_err-delta-clause-counted : goal.returns-in_err-delta-clause-counted
returns-in_err-delta-clause-counted g c =
    counted_more (g.M.Meter.ticks c.args.meter.now) (g.M.Meter.ticks c.loop-forest.meter) (g.M.Meter.ticks c.prepare.new.meter) c.loop-forest.invariant.counted c.prepare.ensures.counted

pub returns-in_err-push-clause-visits : goal.returns-in_err-push-clause-visits
returns-in_err-push-clause-visits g c = λ p parts counts due reaches.
    let one = c.forest-item.result in
    let k = c.loop-forest.forest-index in
    let less : c.loop-forest.forest-index < length c.args.forests.now = omega arith in
    let reach = reach_at p parts c.args.forests.now counts k one 0 reaches less in
    rise_part (λ n. n) (g.M.Meter.ticks c.args.meter.now) (g.M.Meter.ticks c.loop-forest.meter) (g.M.Meter.ticks c.prepare.new.meter) k counts 0 reach.0
    (c.loop-forest.invariant.visits p parts counts due reaches)
    (c.prepare.ensures.visits p parts (get_or counts k 0)
    (subst (λ (o : AnyForest). IsDueForOne c.args.graph.now c.args.net.now (spec_of o) (cells_of o) p parts) (sym c.forest-item.is)
    (due_at c.args.graph.now c.args.forests.now c.args.net.now p parts k one less due))
    (subst (λ (o : AnyForest). IsReachFor p (spec_of o) parts (forest_in o) (get_or counts k 0)) (sym c.forest-item.is) reach.1))

pub returns-in_err-push-clause-counted : goal.returns-in_err-push-clause-counted
returns-in_err-push-clause-counted g c =
    counted_more (g.M.Meter.ticks c.args.meter.now) (g.M.Meter.ticks c.loop-forest.meter) (g.M.Meter.ticks c.prepare.new.meter) c.loop-forest.invariant.counted c.prepare.ensures.counted

pub loop-forest-preserved : goal.loop-forest-preserved
loop-forest-preserved g c =
    let ones = c.args.forests.now in
    let one = c.forest-item.result in
    let k = c.loop-forest.forest-index in
    let less : c.loop-forest.forest-index < length c.args.forests.now = omega arith in
    let R = Repaired c.args.graph.now c.args.net.now in
    record {
      repaired = subst (λ (l : List AnyForest). EachPair R l c.push.new.self) (sym (take_more ones k one less))
          (subst (λ (l : List (List DeltaRow)). EachPair R (take k ones ++ get_or ones k one ∷ []) l) (sym c.in_ok-push.ensures.ok)
          (EachPair-push R (take k ones) c.loop-forest.deltas (get_or ones k one) c.in_ok-delta.delta c.loop-forest.invariant.repaired
          (subst (λ (o : AnyForest). R o c.in_ok-delta.delta) c.forest-item.is c.in_ok-delta.ensures.repaired)));
      visits = λ p parts counts due reaches.
          let reach = reach_at p parts ones counts k one 0 reaches less in
          rise_next (λ n. n) (g.M.Meter.ticks c.args.meter.now) (g.M.Meter.ticks c.loop-forest.meter) (g.M.Meter.ticks c.prepare.new.meter) k counts 0 reach.0
          (c.loop-forest.invariant.visits p parts counts due reaches)
          (c.prepare.ensures.visits p parts (get_or counts k 0)
          (subst (λ (o : AnyForest). IsDueForOne c.args.graph.now c.args.net.now (spec_of o) (cells_of o) p parts) (sym c.forest-item.is)
          (due_at c.args.graph.now ones c.args.net.now p parts k one less due))
          (subst (λ (o : AnyForest). IsReachFor p (spec_of o) parts (forest_in o) (get_or counts k 0)) (sym c.forest-item.is) reach.1));
      counted = counted_more (g.M.Meter.ticks c.args.meter.now) (g.M.Meter.ticks c.loop-forest.meter) (g.M.Meter.ticks c.prepare.new.meter) c.loop-forest.invariant.counted c.prepare.ensures.counted;
    }
