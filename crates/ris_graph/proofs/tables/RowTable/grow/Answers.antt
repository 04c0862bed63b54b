use Rattle.std.proofs.Common.{List, length, arith, ap, ◌∙◌}
use Rattle.ris_rows.specs.RowView.{RowView}
use Rattle.ris_graph.specs.GraphView.{row_at}
use Rattle.ris_graph.proofs.tables.RowTable.grow.Goals as goal

pub returns-in_err-push-clause-rows : goal.returns-in_err-push-clause-rows
returns-in_err-push-clause-rows g c k = ap (λ (l : List RowView). row_at l k) c.in_err-push.ensures.items ∙ c.loop.invariant.rows k

pub returns-in_err-push-clause-longer : goal.returns-in_err-push-clause-longer
returns-in_err-push-clause-longer g c =
    let same = ap length c.in_err-push.ensures.items in
    let longer = c.loop.invariant.longer in
    omega arith
