use Rattle.std.proofs.Common.{◌≡◌, length}
use Rattle.ris_analysis.specs.Analyses.{ArePlainSpecs}
use Rattle.ris_epoch.proofs.forest_tests.four.Given as goal

abbrev pub invariant-loop-kind : goal.invariant-loop-kind
invariant-loop-kind l = record {
  count : length l.specs ≡ l.kind-index;
  plain : ArePlainSpecs l.specs;
}
