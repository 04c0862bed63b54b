use Rattle.std.proofs.Common.{◌≡◌, drop}
use Rattle.ris_core.specs.Rows.{bound_of}
use Rattle.ris_core.proofs.tables.bound_of.Given as goal

abbrev pub invariant-loop-k : goal.invariant-loop-k
invariant-loop-k l = bound_of l.bound (drop l.k l.rows) ≡ bound_of l.least l.rows
