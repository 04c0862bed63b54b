use Rattle.std.proofs.Common.{◌≡◌, ◌<◌, ◌≤◌, ℕ, List, Some, length}
use Rattle.std.specs.Prelude.{slice_get, slice_index}
use Rattle.ris_base.specs.declared.forests.ForestRow.{ForestRow}
use Rattle.ris_history.proofs.openings.are_all.Given as goal

abbrev pub invariant-loop-a : goal.invariant-loop-a
invariant-loop-a l = (b : ℕ) (rows : List ForestRow) → b < l.a → slice_get l.forests b ≡ Some rows → length rows ≤ slice_index l.taken b
