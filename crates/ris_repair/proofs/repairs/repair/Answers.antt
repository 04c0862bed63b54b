-- The marks of the rows, and the visits of the pull and the push together.
use Rattle.std.proofs.Common.{◌+◌, ◌++◌, arith}
use Rattle.std.specs.List.{sum_by}
use Rattle.ris_base.specs.Falling.{push}
use Rattle.ris_base.specs.Requests.{entered}
use Rattle.ris_forest.specs.Cells.{forest_of}
use Rattle.ris_repair.specs.Rows.{origin_count}
use Rattle.ris_repair.proofs.MarkLemmas.{fallen_within}
use Rattle.ris_repair.proofs.RepairLemmas.{rows_moved, rows_fallen_or_moved, rows_below, reach_covers, reach_rise, reach_pull, vertices_cover}
use Rattle.ris_repair.proofs.RiseLemmas.{rise_more, rise-ticked}
use Rattle.ris_repair.proofs.repairs.repair.Goals as goal

pub spread-requires-clause-on : goal.spread-requires-clause-on
spread-requires-clause-on g c κs within = (let r = c.requires.due in (entered r.0 r.1, c.args.fallen.now, r.2.is, c.in_ok-frontier.ensures.prepared r.0 r.1 r.2))

pub returns-in_err-frontier-clause-visits : goal.returns-in_err-frontier-clause-visits
returns-in_err-frontier-clause-visits g c = λ p parts m due reach.
    reach_pull p (g.A.Monotone.spec c.args.forest.now.algo) (forest_of c.args.forest.now.cells) parts c.args.fallen.now m due.right due.fallen reach
    c.args.graph.now g.A.Monotone.BOTH_WAYS (g.M.Meter.ticks c.args.meter.now) (g.M.Meter.ticks c.begun.new.meter) due.is
    (g.met.A.Monotone.of_table c.args.forest.now.algo).ways c.begun.ensures.ticks

pub returns-in_err-frontier-clause-counted : goal.returns-in_err-frontier-clause-counted
returns-in_err-frontier-clause-counted g c =
    rise-ticked (g.M.Meter.ticks c.args.meter.now) (g.M.Meter.ticks c.begun.new.meter) (sum_by (origin_count g.A.Monotone.BOTH_WAYS c.args.graph.now) c.args.fallen.now) c.begun.ensures.ticks

pub returns-in_err-delta-clause-visits : goal.returns-in_err-delta-clause-visits
returns-in_err-delta-clause-visits g c = λ p parts m due reach.
    let spec = g.A.Monotone.spec c.args.forest.now.algo in
    let F = forest_of c.args.forest.now.cells in
    let xs = c.args.fallen.now in
    reach_rise p spec F parts xs m due.right due.fallen reach
    c.args.graph.now g.A.Monotone.BOTH_WAYS (g.M.Meter.ticks c.args.meter.now) (g.M.Meter.ticks c.begun.new.meter) (g.M.Meter.ticks c.spread.new.meter) due.is
    (g.met.A.Monotone.of_table c.args.forest.now.algo).ways c.begun.ensures.ticks
    (c.spread.ensures.visits (entered p parts) xs (reach.fallen ++ reach.improved) due.is (c.in_ok-frontier.ensures.prepared p parts due)
    (reach_covers p spec F parts xs m due.right due.fallen reach))

pub returns-in_err-delta-clause-counted : goal.returns-in_err-delta-clause-counted
returns-in_err-delta-clause-counted g c =
    let r = c.requires.due in
    let now = entered r.0 r.1 in
    let spec = g.A.Monotone.spec c.args.forest.now.algo in
    let pulled = sum_by (origin_count g.A.Monotone.BOTH_WAYS c.args.graph.now) c.args.fallen.now in
    let pushed = sum_by (push now spec) now.vertices in
    rise-ticked (g.M.Meter.ticks c.args.meter.now) (g.M.Meter.ticks c.spread.new.meter) (pulled + pushed)
    (rise_more (g.M.Meter.ticks c.args.meter.now) (g.M.Meter.ticks c.begun.new.meter) (g.M.Meter.ticks c.spread.new.meter) pulled pushed (pulled + pushed)
    c.begun.ensures.ticks
    (c.spread.ensures.visits now c.args.fallen.now now.vertices r.2.is (c.in_ok-frontier.ensures.prepared r.0 r.1 r.2)
    (vertices_cover now spec (forest_of c.args.forest.now.cells) c.args.fallen.now))
    (omega arith))

pub returns-clause-right : goal.returns-clause-right
returns-clause-right g c = λ p parts due. c.in_ok-delta.ensures.right (entered p parts) c.args.fallen.now due.is (c.in_ok-frontier.ensures.prepared p parts due)

pub returns-clause-moved : goal.returns-clause-moved
returns-clause-moved g c = λ p parts due.
    let rows = c.in_ok-delta.ensures.rows in
    rows_moved p (entered p parts) (g.A.Monotone.spec c.args.forest.now.algo) (forest_of c.args.forest.now.cells) rows.0 c.in_ok-delta.delta rows.1 due.right
    (c.in_ok-delta.ensures.right (entered p parts) c.args.fallen.now due.is (c.in_ok-frontier.ensures.prepared p parts due))

pub returns-clause-rows : goal.returns-clause-rows
returns-clause-rows g c = λ p parts due.
    let rows = c.in_ok-delta.ensures.rows in
    let prepared = c.in_ok-frontier.ensures.prepared p parts due in
    rows_fallen_or_moved p (entered p parts) (g.A.Monotone.spec c.args.forest.now.algo) (forest_of c.args.forest.now.cells) c.args.fallen.now rows.0 c.in_ok-delta.delta rows.1 due.right
    (c.in_ok-delta.ensures.right (entered p parts) c.args.fallen.now due.is prepared) (c.in_ok-delta.ensures.due (entered p parts) c.args.fallen.now due.is prepared)

pub returns-clause-below : goal.returns-clause-below
returns-clause-below g c = λ room.
    let r = c.requires.due in
    let now = entered r.0 r.1 in
    let spec = g.A.Monotone.spec c.args.forest.now.algo in
    let cells = c.args.forest.now.cells in
    let xs = c.args.fallen.now in
    let rows = c.in_ok-delta.ensures.rows in
    let prepared = c.in_ok-frontier.ensures.prepared r.0 r.1 r.2 in
    rows_below c.args.graph.now now spec cells xs rows.0 c.in_ok-delta.delta r.2.is (c.in_ok-delta.ensures.right now xs r.2.is prepared) rows.1
    (c.in_ok-delta.ensures.due now xs r.2.is prepared) room (fallen_within c.args.graph.now spec cells xs c.args.net.now r.0 r.1 r.2 room)

pub returns-clause-visits : goal.returns-clause-visits
returns-clause-visits g c = λ p parts m due reach.
    let spec = g.A.Monotone.spec c.args.forest.now.algo in
    let F = forest_of c.args.forest.now.cells in
    let xs = c.args.fallen.now in
    reach_rise p spec F parts xs m due.right due.fallen reach
    c.args.graph.now g.A.Monotone.BOTH_WAYS (g.M.Meter.ticks c.args.meter.now) (g.M.Meter.ticks c.begun.new.meter) (g.M.Meter.ticks c.spread.new.meter) due.is
    (g.met.A.Monotone.of_table c.args.forest.now.algo).ways c.begun.ensures.ticks
    (c.spread.ensures.visits (entered p parts) xs (reach.fallen ++ reach.improved) due.is (c.in_ok-frontier.ensures.prepared p parts due)
    (reach_covers p spec F parts xs m due.right due.fallen reach))

pub returns-clause-counted : goal.returns-clause-counted
returns-clause-counted g c =
    let r = c.requires.due in
    let now = entered r.0 r.1 in
    let spec = g.A.Monotone.spec c.args.forest.now.algo in
    let pulled = sum_by (origin_count g.A.Monotone.BOTH_WAYS c.args.graph.now) c.args.fallen.now in
    let pushed = sum_by (push now spec) now.vertices in
    rise-ticked (g.M.Meter.ticks c.args.meter.now) (g.M.Meter.ticks c.spread.new.meter) (pulled + pushed)
    (rise_more (g.M.Meter.ticks c.args.meter.now) (g.M.Meter.ticks c.begun.new.meter) (g.M.Meter.ticks c.spread.new.meter) pulled pushed (pulled + pushed)
    c.begun.ensures.ticks
    (c.spread.ensures.visits now c.args.fallen.now now.vertices r.2.is (c.in_ok-frontier.ensures.prepared r.0 r.1 r.2)
    (vertices_cover now spec (forest_of c.args.forest.now.cells) c.args.fallen.now))
    (omega arith))
