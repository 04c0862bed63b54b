use Rattle.std.proofs.Common.{◌≡◌, ℕ, ◌<◌, ◌++◌, List, drop, get_or}
use Rattle.ris_forest.specs.Commits.{AreAscendingRows}
use Rattle.ris_forest.specs.declared.deltas.DeltaRow.{DeltaRow}
use Rattle.ris_epoch.specs.Driving.{changes_from}
use Rattle.ris_epoch.proofs.renewals.changes_of.Given as goal

abbrev pub invariant-loop-a : goal.invariant-loop-a
invariant-loop-a l = record {
  made : l.changes ++ changes_from l.a (drop l.a l.deltas) ≡ changes_from 0 l.deltas;
  ascending : (k : ℕ) (d : List DeltaRow) → k < l.a → AreAscendingRows (get_or l.deltas k d);
}
