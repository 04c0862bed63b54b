-- The rows behind the first one ascend.
use Rattle.std.proofs.Common.{◌<◌, subst, sym, List}
use Rattle.ris_base.specs.ForestLists.{AreAscendingRows}
use Rattle.ris_base.specs.declared.forests.ForestRow.{ForestRow}
use Rattle.ris_base.proofs.RowLemmas.{AllPairs-drop_one}
use Rattle.ris_base.proofs.forests.ForestRows.take_first.Goals as goal

pub invariant_of-self : goal.invariant_of-self
invariant_of-self c = subst (λ (rows : List ForestRow). AreAscendingRows rows) (sym c.take_first.ensures.rest) (AllPairs-drop_one (λ row later. row.vertex < later.vertex) c.self.inside.rows c.self.invariant)
