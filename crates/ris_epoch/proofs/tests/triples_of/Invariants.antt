use Rattle.std.proofs.Common.{◌<◌, ◌≤◌}
use Rattle.std.specs.List.{All}
use Rattle.ris_epoch.proofs.tests.triples_of.Given as goal

abbrev pub invariant-loop-t : goal.invariant-loop-t
invariant-loop-t l = record {
  ends : All (λ t. (t.source < l.vertices) × (t.target < l.vertices)) l.triples;
  weights : All (λ t. t.weight ≤ 4294967295) l.triples;
}
