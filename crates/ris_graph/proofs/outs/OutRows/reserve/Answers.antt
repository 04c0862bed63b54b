use Rattle.std.proofs.Common.{◌≡◌, ◌/◌, ◌%◌, ◌∙◌, sym, ap, subst, List, set, arith}
use Rattle.std.proofs.lemmas.Result.{on_ok_weaker}
use Rattle.ris_rows.specs.RowView.{RowView}
use Rattle.ris_graph.specs.GraphView.{row_at}
use Rattle.ris_graph.specs.Tables.{row_of, with_row, HasRow, IsRoomier}
use Rattle.ris_graph.proofs.TableLemmas.{idle-written, rows_of, stripe-idle, stripe-kept, stripe-place, stripe-row, stripe-written}
use Rattle.ris_graph.proofs.outs.OutRows.reserve.Goals as goal
use Rattle.ris_graph.proofs.outs.OutRows.reserve.Given.{Over}
use Rattle.ris_graph.proofs.outs.OutRows.reserve.Goals.{After-self-1}

pub reserve-requires-clause-idle : goal.reserve-requires-clause-idle
reserve-requires-clause-idle g c = stripe-idle c.self.inside.stripes.items (c.args.u % 64) c.index_mut-stripe.result.now c.self.invariant.0 (omega arith) c.self.invariant.1 c.index_mut-stripe.ensures.value

pub reserve-requires-clause-place : goal.reserve-requires-clause-place
reserve-requires-clause-place g c =
    stripe-place c.self.inside.stripes.items c.args.u c.index_mut-stripe.result.now c.self.invariant.0 c.index_mut-stripe.ensures.value
    (subst (λ (t : List (List RowView)). HasRow t c.args.u) (sym c.self.view_is) c.requires)

pub invariant_of-self : goal.invariant_of-self
invariant_of-self g c = idle-written c.self.inside.stripes.items (c.args.u % 64) c.reserve.new.self c.self.invariant.0 c.self.invariant.1 c.reserve.ensures.idle

-- the row after the call
after : (g : Over) (c : After-self-1 g) → row_of (rows_of (set c.self.inside.stripes.items (c.args.u % 64) c.reserve.new.self)) c.args.u ≡ row_at c.reserve.new.self.rows (c.args.u / 64)
after g c =
    stripe-kept c.self.inside.stripes.items c.args.u c.index_mut-stripe.result.now c.reserve.new.self c.self.invariant.0 c.index_mut-stripe.ensures.value
    (subst (λ (t : List (List RowView)). HasRow t c.args.u) (sym c.self.view_is) c.requires) c.reserve.ensures.table

pub returns-clause-table : goal.returns-clause-table
returns-clause-table g c =
    let s = c.index_mut-stripe.result.now in
    let new = c.reserve.new.self in
    let u = c.args.u in
    let ss = c.self.inside.stripes.items in
    stripe-written ss u s new (row_at new.rows (u / 64)) c.self.invariant.0 c.index_mut-stripe.ensures.value c.reserve.ensures.table
    ∙ ap (λ (r : RowView). with_row (rows_of ss) u r) (sym (after g c))
    ∙ ap (λ (x : List (List RowView)). with_row x u (row_of (rows_of (set ss (u % 64) new)) u)) c.self.view_is

pub returns-clause-row : goal.returns-clause-row
returns-clause-row g c =
    let row : row_of c.args.self.now c.args.u ≡ row_at c.index_mut-stripe.result.now.rows (c.args.u / 64)
    = rw (← c.self.view_is) (stripe-row c.self.inside.stripes.items c.args.u c.index_mut-stripe.result.now c.self.invariant.0 c.index_mut-stripe.ensures.value) in
    subst (λ (r : RowView). IsRoomier (row_of c.args.self.now c.args.u) r) (sym (after g c)) (subst (λ (r : RowView). IsRoomier r (row_at c.reserve.new.self.rows (c.args.u / 64))) (sym row) c.reserve.ensures.row)

pub returns-clause-room : goal.returns-clause-room
returns-clause-room g c = on_ok_weaker c.reserve.result (λ h. rw (after g c) h) c.reserve.ensures.room
