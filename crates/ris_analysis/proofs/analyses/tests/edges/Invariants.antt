use Rattle.std.proofs.Common.{◌<◌, ◌≤◌}
use Rattle.std.specs.List.{All}
use Rattle.ris_analysis.proofs.analyses.tests.edges.Given as goal

abbrev pub invariant-loop-copy : goal.invariant-loop-copy
invariant-loop-copy l = record {
  ends : All (λ t. (t.source < 2) × (t.target < 2)) l.base;
  weights : All (λ t. t.weight ≤ 4294967295) l.base;
}
