use Rattle.std.proofs.Common.{◌≡◌, take}
use Rattle.ris_four.proofs.tables.items_of.Given as goal

abbrev pub invariant-loop-k : goal.invariant-loop-k
invariant-loop-k g l = l.items.items ≡ take l.k l.list
