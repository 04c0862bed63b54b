use Rattle.std.proofs.Common.{◌≡◌, take}
use Rattle.ris_core.proofs.copies.SequenceSequenceForestRowDuplicate.duplicate.Given as goal

abbrev pub invariant-loop-k : goal.invariant-loop-k
invariant-loop-k l = l.tables ≡ take l.k l.self
