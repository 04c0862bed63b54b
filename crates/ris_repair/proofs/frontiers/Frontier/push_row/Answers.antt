-- One neighbour of the row is offered the step; the count rises by one.
use Rattle.std.proofs.Common.{◌+◌, ◌<◌, ◌^◌, ◌++◌, List, length, arith, refl, subst, ap, ◌∙◌}
use Rattle.ris_base.specs.Limits.{vertex_limit}
use Rattle.ris_forest.specs.Cells.{forest_of}
use Rattle.ris_rows.specs.declared.neighbours.Neighbour.{Neighbour}
use Rattle.ris_graph.proofs.ListingLemmas.{handed-first}
use Rattle.ris_repair.specs.Rows.{IsEnd, pairs}
use Rattle.ris_repair.specs.Stages.{PushesOn}
use Rattle.ris_repair.specs.Stores.{change_at}
use Rattle.ris_repair.proofs.PushLemmas.{pushed_item}
use Rattle.ris_repair.proofs.RiseLemmas.{rise_none, rise_one}
use Rattle.ris_repair.proofs.RowLemmas.{All-first, row_end}
use Rattle.ris_repair.proofs.frontiers.Frontier.push_row.Goals as goal

pub loop-end-init : goal.loop-end-init
loop-end-init g c = record {
  settled = λ x. refl;
  weights = c.requires.weights;
  ticks = (0, omega arith, rise_none (g.M.Meter.ticks c.args.meter.now) 0);
  kept = λ graph fallen left ends start. (ends, start);
}

pub step-stepped-requires-clause-weight : goal.step-stepped-requires-clause-weight
step-stepped-requires-clause-weight g c =
    let n = c.in-Some in
    let item : Neighbour = record { end = n.end; weight = n.weight; copies = n.field-0-2 } in
    let first = handed-first c.loop-end.row c.next.new.self n.end n.weight n.field-0-2 n.ensures.item n.ensures.rest in
    (All-first (λ m. m.weight < 2 ^ 36) c.loop-end.row c.next.new.self item first c.loop-end.invariant.weights).0

pub loop-end-preserved : goal.loop-end-preserved
loop-end-preserved g c =
    let n = c.in-Some in
    let item : Neighbour = record { end = n.end; weight = n.weight; copies = n.field-0-2 } in
    let first = handed-first c.loop-end.row c.next.new.self n.end n.weight n.field-0-2 n.ensures.item n.ensures.rest in
    let long = ap (λ (r : List Neighbour). length r) first in
    let I = c.loop-end.invariant in
    let t = I.ticks in
    let sum = t.1 in
    let spec = g.A.Monotone.spec c.args.forest.now.algo in
    let F = forest_of c.args.forest.now.cells in
    let size = vertex_limit in
    record {
      settled = λ x. c.offer.ensures.settled x ∙ I.settled x;
      weights = (All-first (λ m. m.weight < 2 ^ 36) c.loop-end.row c.next.new.self item first I.weights).1;
      ticks = (t.0 + 1, omega arith, rise_one (g.M.Meter.ticks c.args.meter.now) (g.M.Meter.ticks c.loop-end.meter) (g.M.Meter.ticks c.next.new.meter) t.0 (t.0 + 1) t.2 n.ensures.ticks (omega arith));
      kept = λ graph fallen left ends start. (
          let before = I.kept graph fallen left ends start in
          let firsts = All-first (IsEnd graph spec.kind c.args.forward c.args.vertex) c.loop-end.row c.next.new.self item first before.0 in (
            firsts.1,
            pushed_item graph spec F size fallen (change_at c.loop-end.self.changes) (change_at c.offer.new.self.changes) c.loop-end.self.queue c.offer.new.self.queue
                c.args.vertex c.args.number c.args.forward item (pairs c.next.new.self ++ left) c.step-stepped.result c.triple_of-along.result
                ((rw c.algo.ensures.algo at c.step-stepped.ensures) ∙ (g.met.A.Monotone.of_table c.args.forest.now.algo).steps c.args.number n.weight)
                c.triple_of-along.ensures c.in_ok-offer.ensures.improved c.in_ok-offer.ensures.same firsts.0
                (subst (λ (r : List Neighbour). PushesOn graph spec F size fallen (change_at c.loop-end.self.changes) c.loop-end.self.queue c.args.vertex c.args.number (pairs r ++ left)) first before.1),
          ));
    }

pub returns-in_err-offer-clause-ticks : goal.returns-in_err-offer-clause-ticks
returns-in_err-offer-clause-ticks g c =
    let n = c.in-Some in
    let first = handed-first c.loop-end.row c.next.new.self n.end n.weight n.field-0-2 n.ensures.item n.ensures.rest in
    let long = ap (λ (r : List Neighbour). length r) first in
    let t = c.loop-end.invariant.ticks in
    let sum = t.1 in
    rise_one (g.M.Meter.ticks c.args.meter.now) (g.M.Meter.ticks c.loop-end.meter) (g.M.Meter.ticks c.next.new.meter) t.0 (length c.args.row) t.2 n.ensures.ticks (omega arith)

pub returns-clause-kept : goal.returns-clause-kept
returns-clause-kept g c = λ graph fallen left ends start.
    let is = row_end c.loop-end.row c.in_default.ensures.item in
    subst (λ (r : List Neighbour). PushesOn graph (g.A.Monotone.spec c.args.forest.now.algo) (forest_of c.args.forest.now.cells) vertex_limit fallen
    (change_at c.loop-end.self.changes) c.loop-end.self.queue c.args.vertex c.args.number (pairs r ++ left)) is
    (c.loop-end.invariant.kept graph fallen left ends start).1
