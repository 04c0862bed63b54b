use Rattle.std.proofs.Common.{arith, sym, ap, ◌∙◌, length, map}
use Rattle.ris_base.specs.Forest.{forest_in}
use Rattle.ris_core.specs.Moves.{begun_seat}
use Rattle.ris_core.proofs.Partly.{partly, partly-all, partly-step, partly-zero, taken-whole}
use Rattle.ris_core.proofs.board.turns.begin_all.Goals as goal

pub loop-seat-init : goal.loop-seat-init
loop-seat-init c = sym (partly-zero (begun_seat c.args.graph.now c.args.specs.now (map forest_in c.args.tables.now)) c.deref_mut-seat-items.result.now)

pub loop-seat-preserved : goal.loop-seat-preserved
loop-seat-preserved c =
    partly-step (begun_seat c.args.graph.now c.args.specs.now (map forest_in c.args.tables.now)) c.loop-seat.seat-index c.deref_mut-seat-items.result.now c.loop-seat.seat-items c.seat-item.result c.begin_one.new.seat c.loop-seat.invariant
    c.loop-seat-test.true c.begin_one.ensures

pub returns : goal.returns
returns c =
    let old = c.deref_mut-seat-items.result.now in
    let same = c.deref_mut-seat-items.ensures.value in
    let count = ap length same in
    let ok = c.args.seats.now.ok in
    let l = c.loop-seat.auto.seat-items in
    let e = c.loop-seat.auto.seat-index-end in
    taken-whole c.args.seats.now.len c.loop-seat.seat-items _ (omega arith)
    ∙ c.loop-seat.invariant
    ∙ ap (λ n. partly (begun_seat c.args.graph.now c.args.specs.now (map forest_in c.args.tables.now)) n old) (omega arith)
    ∙ partly-all (begun_seat c.args.graph.now c.args.specs.now (map forest_in c.args.tables.now)) old
    ∙ ap (map (begun_seat c.args.graph.now c.args.specs.now (map forest_in c.args.tables.now))) same
