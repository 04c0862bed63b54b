-- The rows of either form.
use Rattle.std.proofs.Common.{sym, subst}
use Rattle.std.specs.Prelude.{IfOk}
use Rattle.ris_base.specs.Limits.{vertex_limit}
use Rattle.ris_forest.specs.Cells.{forest_of}
use Rattle.ris_repair.specs.Changes.{AreBelow}
use Rattle.ris_repair.specs.Stages.{AreRowsOf}
use Rattle.ris_repair.specs.Stores.{change_at}
use Rattle.ris_repair.specs.declared.stores.Store.{Store}
use Rattle.ris_repair.proofs.deltas.delta_of.Goals as goal

pub table_delta-requires : goal.table_delta-requires
table_delta-requires g c = subst (λ (s : Store). AreBelow vertex_limit (change_at s)) c.in-Dense.is c.requires.below

pub returns-in-Few : goal.returns-in-Few
returns-in-Few g c =
    subst (λ (s : Store). IfOk c.few_delta.result (λ delta. AreRowsOf (forest_of c.args.forest.now.cells) (change_at s) delta)) (sym c.in-Few.is) c.few_delta.ensures

pub returns-in-Sparse : goal.returns-in-Sparse
returns-in-Sparse g c =
    subst (λ (s : Store). IfOk c.map_delta.result (λ delta. AreRowsOf (forest_of c.args.forest.now.cells) (change_at s) delta)) (sym c.in-Sparse.is) c.map_delta.ensures

pub returns-in-Dense : goal.returns-in-Dense
returns-in-Dense g c =
    subst (λ (s : Store). IfOk c.table_delta.result (λ delta. AreRowsOf (forest_of c.args.forest.now.cells) (change_at s) delta)) (sym c.in-Dense.is) c.table_delta.ensures
