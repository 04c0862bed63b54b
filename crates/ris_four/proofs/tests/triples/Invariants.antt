use Rattle.std.proofs.Common.{◌<◌, ◌≤◌}
use Rattle.std.specs.List.{All}
use Rattle.ris_base.specs.Limits.{greatest_of}
use Rattle.ris_four.proofs.tests.triples.Given as goal

abbrev pub invariant-loop-source : goal.invariant-loop-source
invariant-loop-source l =
    All (λ t. (l.from ≤ t.source) × (t.source < l.to) × (l.from ≤ t.target) × (t.target < l.to) × (t.weight ≤ greatest_of l.format)) l.ts.items
