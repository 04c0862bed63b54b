-- No vertices and no changes.
use Rattle.ris_repair.proofs.FewLemmas.{none_side_by_side}
use Rattle.ris_repair.proofs.fews.Few.new.Goals as goal

pub invariant_of-result : goal.invariant_of-result
invariant_of-result c = none_side_by_side _ _ c.new.ensures.items c.new-2.ensures.items
