use Rattle.std.proofs.Common.{◌≡◌, ◌/◌, ◌%◌, ◌∙◌, sym, ap, subst, List, arith, map}
use Rattle.ris_rows.specs.RowView.{RowView, with_count}
use Rattle.ris_graph.specs.GraphView.{row_at}
use Rattle.ris_graph.specs.Tables.{row_of, with_row, HasRow}
use Rattle.ris_graph.proofs.TableLemmas.{idle-written, stripe-idle, stripe-place, stripe-row, stripe-written}
use Rattle.ris_graph.proofs.outs.OutRows.put.Goals as goal

pub put-requires-clause-idle : goal.put-requires-clause-idle
put-requires-clause-idle g c = stripe-idle c.self.inside.stripes.items (c.args.u % 64) c.index_mut-stripe.result.now c.self.invariant.0 (omega arith) c.self.invariant.1 c.index_mut-stripe.ensures.value

pub put-requires-clause-place : goal.put-requires-clause-place
put-requires-clause-place g c =
    stripe-place c.self.inside.stripes.items c.args.u c.index_mut-stripe.result.now c.self.invariant.0 c.index_mut-stripe.ensures.value
    (subst (λ (t : List (List RowView)). HasRow t c.args.u) (sym c.self.view_is) c.requires.row)

pub put-requires-clause-room : goal.put-requires-clause-room
put-requires-clause-room g c =
    let row : row_of c.args.self.now c.args.u ≡ row_at c.index_mut-stripe.result.now.rows (c.args.u / 64)
    = rw (← c.self.view_is) (stripe-row c.self.inside.stripes.items c.args.u c.index_mut-stripe.result.now c.self.invariant.0 c.index_mut-stripe.ensures.value) in
    rw (← row) c.requires.room

pub invariant_of-self : goal.invariant_of-self
invariant_of-self g c = idle-written c.self.inside.stripes.items (c.args.u % 64) c.put.new.self c.self.invariant.0 c.self.invariant.1 c.put.ensures.idle

pub returns : goal.returns
returns g c =
    let row : row_of c.args.self.now c.args.u ≡ row_at c.index_mut-stripe.result.now.rows (c.args.u / 64)
    = rw (← c.self.view_is) (stripe-row c.self.inside.stripes.items c.args.u c.index_mut-stripe.result.now c.self.invariant.0 c.index_mut-stripe.ensures.value) in
    let s = c.index_mut-stripe.result.now in
    let ss = c.self.inside.stripes.items in
    let written = stripe-written ss c.args.u s c.put.new.self (with_count (row_at s.rows (c.args.u / 64)) c.args.end c.args.weight c.args.copies) c.self.invariant.0 c.index_mut-stripe.ensures.value c.put.ensures.table in
    written ∙ ap (λ (r : RowView). with_row (map (λ s. s.rows) ss) c.args.u (with_count r c.args.end c.args.weight c.args.copies)) (sym row)
    ∙ ap (λ (x : List (List RowView)). with_row x c.args.u (with_count (row_of c.args.self.now c.args.u) c.args.end c.args.weight c.args.copies)) c.self.view_is
