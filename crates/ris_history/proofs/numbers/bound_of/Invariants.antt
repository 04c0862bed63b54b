use Rattle.std.proofs.Common.{◌≡◌, take}
use Rattle.ris_history.specs.Chains.{bound_of}
use Rattle.ris_history.proofs.numbers.bound_of.Given as goal

abbrev pub invariant-loop-k : goal.invariant-loop-k
invariant-loop-k l = l.bound ≡ bound_of l.analyses (take l.k l.changes)
