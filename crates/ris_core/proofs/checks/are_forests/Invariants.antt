use Rattle.std.proofs.Common.{ℕ, ◌≡◌, ◌<◌, Some}
use Rattle.std.specs.List.{slice_get}
use Rattle.ris_base.specs.Forest.{IsForest, forest_in}
use Rattle.ris_base.specs.declared.analyses.Spec.{Spec}
use Rattle.ris_base.specs.declared.forests.ForestRow.{ForestRow}
use Rattle.std.proofs.Common.{List}
use Rattle.ris_core.proofs.checks.are_forests.Given as goal

abbrev pub invariant-loop-k : goal.invariant-loop-k
invariant-loop-k g l = (j : ℕ) (spec : Spec) (rows : List ForestRow) → j < l.k → slice_get l.specs j ≡ Some spec → slice_get l.tables j ≡ Some rows
    → IsForest l.graph spec (forest_in rows)
