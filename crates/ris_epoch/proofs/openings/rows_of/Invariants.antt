use Rattle.std.proofs.Common.{◌≡◌, ◌<◌, Some}
use Rattle.std.specs.List.{All, slice_get}
use Rattle.ris_base.specs.Forest.{Forest}
use Rattle.ris_analysis.specs.Analyses.{forests_of}
use Rattle.ris_epoch.proofs.OpeningSteps.{rows_below}
use Rattle.ris_epoch.proofs.openings.rows_of.Given as goal

abbrev pub invariant-loop-x : goal.invariant-loop-x
invariant-loop-x l = record {
  rows : (F : Forest) → slice_get (forests_of l.analyses) l.a ≡ Some F → l.rows ≡ rows_below F l.x;
  below : All (λ r. r.vertex < l.x) l.rows;
}
