use Rattle.std.proofs.Common.{◌≡◌, take}
use Rattle.ris_analysis.specs.Analyses.{committed_all}
use Rattle.ris_analysis.proofs.lists.commit.Given as goal

abbrev pub invariant-loop-k : goal.invariant-loop-k
invariant-loop-k l = l.forests.items ≡ committed_all l.initial.forests.items (take l.k l.deltas)
