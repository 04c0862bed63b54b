use Rattle.std.proofs.Common.{arith}
use Rattle.std.proofs.lemmas.List.Sorted.{IsPermutation-swap_remove}
use Rattle.ris_repair.proofs.radix.take_greatest.Goals as goal

pub returns-in_default-clause-items : goal.returns-in_default-clause-items
returns-in_default-clause-items c =
    rw c.swap_remove.ensures.items
    (IsPermutation-swap_remove c.args.items.now.items c.greatest-place.result c.swap_remove.result (omega arith) c.swap_remove.ensures.value)
