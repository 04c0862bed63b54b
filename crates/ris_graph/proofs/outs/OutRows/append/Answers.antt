use Rattle.std.proofs.Common.{◌≡◌, ◌/◌, ◌%◌, ◌∙◌, sym, ap, subst, List, arith, map}
use Rattle.ris_rows.specs.RowView.{RowView, inserted}
use Rattle.ris_graph.specs.GraphView.{row_at}
use Rattle.ris_graph.specs.Tables.{row_of, with_row, HasRow}
use Rattle.ris_graph.proofs.TableLemmas.{idle-written, stripe-idle, stripe-place, stripe-row, stripe-written}
use Rattle.ris_graph.proofs.outs.OutRows.append.Goals as goal

pub append-requires-clause-idle : goal.append-requires-clause-idle
append-requires-clause-idle g c = stripe-idle c.self.inside.stripes.items (c.args.u % 64) c.index_mut-stripe.result.now c.self.invariant.0 (omega arith) c.self.invariant.1 c.index_mut-stripe.ensures.value

pub append-requires-clause-place : goal.append-requires-clause-place
append-requires-clause-place g c =
    stripe-place c.self.inside.stripes.items c.args.u c.index_mut-stripe.result.now c.self.invariant.0 c.index_mut-stripe.ensures.value
    (subst (λ (t : List (List RowView)). HasRow t c.args.u) (sym c.self.view_is) c.requires.row)

pub append-requires-clause-room : goal.append-requires-clause-room
append-requires-clause-room g c =
    let row : row_of c.args.self.now c.args.u ≡ row_at c.index_mut-stripe.result.now.rows (c.args.u / 64)
    = rw (← c.self.view_is) (stripe-row c.self.inside.stripes.items c.args.u c.index_mut-stripe.result.now c.self.invariant.0 c.index_mut-stripe.ensures.value) in
    rw (← row) c.requires.room

pub append-requires-clause-few : goal.append-requires-clause-few
append-requires-clause-few g c =
    let row : row_of c.args.self.now c.args.u ≡ row_at c.index_mut-stripe.result.now.rows (c.args.u / 64)
    = rw (← c.self.view_is) (stripe-row c.self.inside.stripes.items c.args.u c.index_mut-stripe.result.now c.self.invariant.0 c.index_mut-stripe.ensures.value) in
    rw (← row) c.requires.few

pub invariant_of-self : goal.invariant_of-self
invariant_of-self g c = idle-written c.self.inside.stripes.items (c.args.u % 64) c.append.new.self c.self.invariant.0 c.self.invariant.1 c.append.ensures.idle

pub returns : goal.returns
returns g c =
    let row : row_of c.args.self.now c.args.u ≡ row_at c.index_mut-stripe.result.now.rows (c.args.u / 64)
    = rw (← c.self.view_is) (stripe-row c.self.inside.stripes.items c.args.u c.index_mut-stripe.result.now c.self.invariant.0 c.index_mut-stripe.ensures.value) in
    let s = c.index_mut-stripe.result.now in
    let ss = c.self.inside.stripes.items in
    let written = stripe-written ss c.args.u s c.append.new.self (inserted (row_at s.rows (c.args.u / 64)) c.args.end c.args.weight) c.self.invariant.0 c.index_mut-stripe.ensures.value c.append.ensures.table in
    written ∙ ap (λ (r : RowView). with_row (map (λ s. s.rows) ss) c.args.u (inserted r c.args.end c.args.weight)) (sym row)
    ∙ ap (λ (x : List (List RowView)). with_row x c.args.u (inserted (row_of c.args.self.now c.args.u) c.args.end c.args.weight)) c.self.view_is
