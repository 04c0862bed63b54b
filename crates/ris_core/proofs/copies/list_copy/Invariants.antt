use Rattle.std.proofs.Common.{◌≡◌, take}
use Rattle.ris_core.proofs.copies.list_copy.Given as goal

abbrev pub invariant-loop-k : goal.invariant-loop-k
invariant-loop-k g l = l.copy ≡ take l.k l.list
