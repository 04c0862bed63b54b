use Rattle.std.proofs.Common.{◌<◌, ◌≤◌}
use Rattle.std.specs.List.{All}
use Rattle.ris_base.specs.Limits.{greatest_of}
use Rattle.ris_base.specs.declared.graphs.Format.TheVariants.{One}
use Rattle.ris_core_tests.proofs.tests.triples.Given as goal

abbrev pub invariant-loop-source : goal.invariant-loop-source
invariant-loop-source l =
    All (λ t. (0 ≤ t.source) × (t.source < l.count) × (0 ≤ t.target) × (t.target < l.count) × (t.weight ≤ greatest_of One)) l.ts.items
