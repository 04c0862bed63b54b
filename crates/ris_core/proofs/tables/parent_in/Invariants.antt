use Rattle.std.proofs.Common.{◌≡◌, drop}
use Rattle.ris_base.specs.Forest.{parent_in}
use Rattle.ris_core.proofs.tables.parent_in.Given as goal

abbrev pub invariant-loop-k : goal.invariant-loop-k
invariant-loop-k l = parent_in (drop l.k l.rows) l.x ≡ parent_in l.rows l.x
