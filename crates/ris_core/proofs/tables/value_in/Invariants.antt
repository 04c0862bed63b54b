use Rattle.std.proofs.Common.{◌≡◌, drop}
use Rattle.ris_base.specs.Forest.{value_in}
use Rattle.ris_core.proofs.tables.value_in.Given as goal

abbrev pub invariant-loop-k : goal.invariant-loop-k
invariant-loop-k l = value_in (drop l.k l.rows) l.x ≡ value_in l.rows l.x
