use Rattle.std.proofs.Common.{◌≡◌, ◌/◌, ◌∙◌, sym, ap}
use Rattle.ris_rows.specs.RowView.{RowView}
use Rattle.ris_graph.specs.GraphView.{row_at}
use Rattle.ris_graph.specs.Tables.{row_of}
use Rattle.ris_graph.proofs.TableLemmas.{stripe-row}
use Rattle.ris_graph.proofs.outs.OutRows.cursor.Goals as goal

pub returns-clause-items : goal.returns-clause-items
returns-clause-items g c =
    let row : row_of c.args.self.now c.args.u ≡ row_at c.index-stripe.result.now.rows (c.args.u / 64)
    = rw (← c.self.view_is) (stripe-row c.self.inside.stripes.items c.args.u c.index-stripe.result.now c.self.invariant.0 c.index-stripe.ensures) in
    c.cursor.ensures.items ∙ ap (λ (r : RowView). r.items) (sym row)
