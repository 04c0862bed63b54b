use Rattle.std.proofs.Common.{◌≡◌, take}
use Rattle.ris_history.specs.Applied.{moved_by}
use Rattle.ris_history.proofs.moves.moved_by.Given as goal

abbrev pub invariant-loop-k : goal.invariant-loop-k
invariant-loop-k l = l.moved ≡ moved_by l.analyses (take l.k l.changes)
