-- The rows behind the first one ascend.
use Rattle.std.proofs.Common.{◌<◌, subst, sym, List}
use Rattle.ris_base.proofs.RowLemmas.{AllPairs-drop_one}
use Rattle.ris_forest.specs.Commits.{AreAscendingRows}
use Rattle.ris_forest.specs.declared.deltas.DeltaRow.{DeltaRow}
use Rattle.ris_forest.proofs.deltas.Delta.take_first.Goals as goal

pub invariant_of-self : goal.invariant_of-self
invariant_of-self c = subst (λ (rows : List DeltaRow). AreAscendingRows rows) (sym c.take_first.ensures.rest) (AllPairs-drop_one (λ row later. row.vertex < later.vertex) c.self.inside.rows c.self.invariant)
