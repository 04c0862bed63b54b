use Rattle.std.proofs.Common.{◌≡◌, length}
use Rattle.std.specs.List.{All}
use Rattle.ris_analysis.proofs.analyses.tests.from_zero.Given as goal

abbrev pub invariant-loop-kind : goal.invariant-loop-kind
invariant-loop-kind l = record { count : length l.specs ≡ l.kind-index; roots : All (λ spec. spec.root ≡ 0) l.specs }
