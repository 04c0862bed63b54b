-- The step from one neighbour of the row is taken; the count rises by one.
use Rattle.std.proofs.Common.{◌+◌, ◌<◌, ◌^◌, ◌++◌, List, length, arith, refl, subst, ap}
use Rattle.ris_base.specs.Limits.{vertex_limit}
use Rattle.ris_forest.specs.Cells.{forest_of}
use Rattle.ris_rows.specs.declared.neighbours.Neighbour.{Neighbour}
use Rattle.ris_graph.proofs.ListingLemmas.{handed-first}
use Rattle.ris_repair.specs.Changes.{standing_value, with_change}
use Rattle.ris_repair.specs.Rows.{IsOrigin, pairs}
use Rattle.ris_repair.specs.Stages.{IsPrepared, unpulled}
use Rattle.ris_repair.specs.Stores.{change_at}
use Rattle.ris_repair.proofs.LocalLemmas.{pulled_into, pulled_kept_from}
use Rattle.ris_repair.proofs.RiseLemmas.{rise_none, rise_one}
use Rattle.ris_repair.proofs.RowLemmas.{All-first, row_end}
use Rattle.ris_repair.proofs.frontiers.Frontier.pull_row.Goals as goal

pub loop-end-init : goal.loop-end-init
loop-end-init g c = record {
  weights = c.requires.weights;
  ticks = (0, omega arith, rise_none (g.M.Meter.ticks c.args.meter.now) 0);
  unchanged = λ h. refl;
  kept = λ p graph fallen rest left queue has origins start. (origins, (queue, start));
}

pub pull-requires : goal.pull-requires
pull-requires g c =
    let n = c.in-Some in
    let item : Neighbour = record { end = n.end; weight = n.weight; copies = n.field-0-2 } in
    let first = handed-first c.loop-end.row c.next.new.self n.end n.weight n.field-0-2 n.ensures.item n.ensures.rest in
    rw c.triple_of-along.ensures
    (All-first (λ m. m.weight < 2 ^ 36) c.loop-end.row c.next.new.self item first c.loop-end.invariant.weights).0

pub loop-end-preserved : goal.loop-end-preserved
loop-end-preserved g c =
    let n = c.in-Some in
    let item : Neighbour = record { end = n.end; weight = n.weight; copies = n.field-0-2 } in
    let first = handed-first c.loop-end.row c.next.new.self n.end n.weight n.field-0-2 n.ensures.item n.ensures.rest in
    let long = ap (λ (r : List Neighbour). length r) first in
    let I = c.loop-end.invariant in
    let t = I.ticks in
    let sum = t.1 in
    let spec = g.A.Monotone.spec c.args.forest.now.algo in
    let F = forest_of c.args.forest.now.cells in
    let f = change_at c.args.self.now.changes in
    let size = vertex_limit in
    record {
      weights = (All-first (λ m. m.weight < 2 ^ 36) c.loop-end.row c.next.new.self item first I.weights).1;
      ticks = (t.0 + 1, omega arith, rise_one (g.M.Meter.ticks c.args.meter.now) (g.M.Meter.ticks c.loop-end.meter) (g.M.Meter.ticks c.next.new.meter) t.0 (t.0 + 1) t.2 n.ensures.ticks (omega arith));
      unchanged = pulled_kept_from spec.kind c.args.best.now c.loop-end.best c.pull.new.best (standing_value (F.value n.end) (f n.end)) n.end c.triple_of-along.result c.pull.ensures I.unchanged;
      kept = λ p graph fallen rest left queue has origins start. (
          let before = I.kept p graph fallen rest left queue has origins start in
          let firsts = All-first (IsOrigin graph spec.kind c.args.forward c.args.vertex) c.loop-end.row c.next.new.self item first before.0 in (
            firsts.1,
            pulled_into graph spec F size fallen f before.1.0 p c.args.vertex c.args.forward item (pairs c.next.new.self ++ left) rest c.triple_of-along.result
                c.loop-end.best c.pull.new.best has c.triple_of-along.ensures c.pull.ensures firsts.0
                (subst (λ (r : List Neighbour). IsPrepared graph spec F size fallen (with_change f c.args.vertex c.loop-end.best) before.1.0 (unpulled p c.args.vertex (pairs r ++ left) rest)) first before.1.1),
          ));
    }

pub returns-clause-kept : goal.returns-clause-kept
returns-clause-kept g c = λ p graph fallen rest left queue has origins start.
    let is = row_end c.loop-end.row c.in_default.ensures.item in
    let after = (c.loop-end.invariant.kept p graph fallen rest left queue has origins start).1 in (
      after.0,
      subst (λ (r : List Neighbour). IsPrepared graph (g.A.Monotone.spec c.args.forest.now.algo) (forest_of c.args.forest.now.cells) vertex_limit fallen
          (with_change (change_at c.args.self.now.changes) c.args.vertex c.loop-end.best) after.0 (unpulled p c.args.vertex (pairs r ++ left) rest)) is
          after.1,
    )
