use Rattle.std.proofs.Common.{◌<◌, ◌∙◌, List, length, get_or, ap, subst, sym, arith}
use Rattle.ris_rows.specs.RowView.{RowView}
use Rattle.ris_graph.specs.Tables.{row_of, HasRow}
use Rattle.ris_graph.proofs.RoomLemmas.{IsRoomier-trans, room-step}
use Rattle.ris_graph.proofs.TableLemmas.{length-with_row, HasRow-with_row, roomier}
use Rattle.ris_graph.proofs.rooms.reserve_outs.Goals as goal

pub returns-in_err-reserve-clause-rows : goal.returns-in_err-reserve-clause-rows
returns-in_err-reserve-clause-rows g c u =
    let end = get_or c.args.ends.now c.loop-k.k 0 in
    IsRoomier-trans (row_of c.args.outs.now u) (row_of c.loop-k.outs u) (row_of c.reserve.new.self u) (c.loop-k.invariant.rows u)
    (roomier c.loop-k.outs c.reserve.new.self end c.reserve.ensures.table c.reserve.ensures.row u)

pub returns-in_err-reserve-clause-stripes : goal.returns-in_err-reserve-clause-stripes
returns-in_err-reserve-clause-stripes g c = ap length c.reserve.ensures.table ∙ length-with_row c.loop-k.outs (get_or c.args.ends.now c.loop-k.k 0) _ ∙ c.loop-k.invariant.stripes

pub returns-in_err-reserve-clause-has_rows : goal.returns-in_err-reserve-clause-has_rows
returns-in_err-reserve-clause-has_rows g c u has =
    subst (λ (t : List (List RowView)). HasRow t u) (sym c.reserve.ensures.table)
    (HasRow-with_row c.loop-k.outs (get_or c.args.ends.now c.loop-k.k 0) u (row_of c.reserve.new.self (get_or c.args.ends.now c.loop-k.k 0)) (c.loop-k.invariant.has_rows u has))

pub loop-k-preserved : goal.loop-k-preserved
loop-k-preserved g c =
    let end = get_or c.args.ends.now c.loop-k.k 0 in
    let lt : c.loop-k.k < length c.args.ends.now = (let test = c.loop-k-test.true in omega arith) in
    let more = roomier c.loop-k.outs c.reserve.new.self end c.reserve.ensures.table c.reserve.ensures.row in
    record {
      room = λ u. room-step c.args.ends.now c.loop-k.k u c.rank.result c.loop-k.outs c.reserve.new.self lt c.rank.ensures c.in_ok-reserve.ensures.room more (c.loop-k.invariant.room u);
      rows = λ u. IsRoomier-trans (row_of c.args.outs.now u) (row_of c.loop-k.outs u) (row_of c.reserve.new.self u) (c.loop-k.invariant.rows u) (more u);
      stripes = ap length c.reserve.ensures.table ∙ length-with_row c.loop-k.outs end _ ∙ c.loop-k.invariant.stripes;
      has_rows = λ u has. subst (λ (t : List (List RowView)). HasRow t u) (sym c.reserve.ensures.table) (HasRow-with_row c.loop-k.outs end u (row_of c.reserve.new.self end) (c.loop-k.invariant.has_rows u has));
    }
