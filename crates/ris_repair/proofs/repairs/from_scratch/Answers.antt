-- The vertices of the graph, from a forest of absent ones.
use Rattle.std.proofs.Common.{◌+◌, arith, sym, ap}
use Rattle.std.specs.List.{sum_by}
use Rattle.ris_base.specs.Falling.{pull, push}
use Rattle.ris_forest.specs.Cells.{Cell, forest_of}
use Rattle.ris_graph.proofs.ListingLemmas.{ticked-zero}
use Rattle.ris_repair.proofs.RepairLemmas.{rows_present, rows_below, vertices_cover, sum_by-both}
use Rattle.ris_repair.proofs.RiseLemmas.{rise_none, rise_within, rise-ticked}
use Rattle.ris_repair.proofs.repairs.from_scratch.Goals as goal

pub spread-requires-clause-on : goal.spread-requires-clause-on
spread-requires-clause-on g c κs within = (let r = c.requires.of in (r.0, r.0.vertices, r.1, c.in_ok-frontier.ensures r.0 r.1))

pub returns-in_err-frontier-clause-visits : goal.returns-in_err-frontier-clause-visits
returns-in_err-frontier-clause-visits g c = λ p of.
    let spec = g.A.Monotone.spec c.args.forest.now.algo in
    rise_none (g.M.Meter.ticks c.args.meter.now) (sum_by (λ x. pull p spec x + push p spec x) p.vertices)

pub returns-in_err-frontier-clause-counted : goal.returns-in_err-frontier-clause-counted
returns-in_err-frontier-clause-counted g c = (0, sym (ticked-zero (g.M.Meter.ticks c.args.meter.now)))

pub returns-in_err-delta-clause-visits : goal.returns-in_err-delta-clause-visits
returns-in_err-delta-clause-visits g c = λ p of.
    let spec = g.A.Monotone.spec c.args.forest.now.algo in
    let sum = sum_by-both (pull p spec) (push p spec) p.vertices in
    rise_within (g.M.Meter.ticks c.args.meter.now) (g.M.Meter.ticks c.spread.new.meter) (sum_by (push p spec) p.vertices) (sum_by (λ x. pull p spec x + push p spec x) p.vertices)
    (c.spread.ensures.visits p p.vertices p.vertices of (c.in_ok-frontier.ensures p of) (vertices_cover p spec (forest_of c.args.forest.now.cells) p.vertices))
    (omega arith)

pub returns-in_err-delta-clause-counted : goal.returns-in_err-delta-clause-counted
returns-in_err-delta-clause-counted g c =
    let r = c.requires.of in
    let spec = g.A.Monotone.spec c.args.forest.now.algo in
    rise-ticked (g.M.Meter.ticks c.args.meter.now) (g.M.Meter.ticks c.spread.new.meter) (sum_by (push r.0 spec) r.0.vertices)
    (c.spread.ensures.visits r.0 r.0.vertices r.0.vertices r.1 (c.in_ok-frontier.ensures r.0 r.1) (vertices_cover r.0 spec (forest_of c.args.forest.now.cells) r.0.vertices))

pub returns-clause-right : goal.returns-clause-right
returns-clause-right g c = λ p of. c.in_ok-delta.ensures.right p p.vertices of (c.in_ok-frontier.ensures p of)

pub returns-clause-moved : goal.returns-clause-moved
returns-clause-moved g c =
    let rows = c.in_ok-delta.ensures.rows in
    rows_present (forest_of c.args.forest.now.cells) rows.0 c.in_ok-delta.delta (λ x. ap (λ (k : Cell). k.value) (c.requires.absent x)) rows.1

pub returns-clause-below : goal.returns-clause-below
returns-clause-below g c =
    let r = c.requires.of in
    let rows = c.in_ok-delta.ensures.rows in
    let prepared = c.in_ok-frontier.ensures r.0 r.1 in
    rows_below c.args.graph.now r.0 (g.A.Monotone.spec c.args.forest.now.algo) c.args.forest.now.cells r.0.vertices rows.0 c.in_ok-delta.delta r.1
    (c.in_ok-delta.ensures.right r.0 r.0.vertices r.1 prepared) rows.1 (c.in_ok-delta.ensures.due r.0 r.0.vertices r.1 prepared)
    c.requires.room (λ x at. c.requires.room x ((r.1.vertices x).1 at))

pub returns-clause-visits : goal.returns-clause-visits
returns-clause-visits g c = λ p of.
    let spec = g.A.Monotone.spec c.args.forest.now.algo in
    let sum = sum_by-both (pull p spec) (push p spec) p.vertices in
    rise_within (g.M.Meter.ticks c.args.meter.now) (g.M.Meter.ticks c.spread.new.meter) (sum_by (push p spec) p.vertices) (sum_by (λ x. pull p spec x + push p spec x) p.vertices)
    (c.spread.ensures.visits p p.vertices p.vertices of (c.in_ok-frontier.ensures p of) (vertices_cover p spec (forest_of c.args.forest.now.cells) p.vertices))
    (omega arith)

pub returns-clause-counted : goal.returns-clause-counted
returns-clause-counted g c =
    let r = c.requires.of in
    let spec = g.A.Monotone.spec c.args.forest.now.algo in
    rise-ticked (g.M.Meter.ticks c.args.meter.now) (g.M.Meter.ticks c.spread.new.meter) (sum_by (push r.0 spec) r.0.vertices)
    (c.spread.ensures.visits r.0 r.0.vertices r.0.vertices r.1 (c.in_ok-frontier.ensures r.0 r.1) (vertices_cover r.0 spec (forest_of c.args.forest.now.cells) r.0.vertices))
