use Rattle.std.proofs.Common.{ℕ, ◌<◌}
use Rattle.ris_base.specs.Forest.{forest_in}
use Rattle.ris_core.specs.Rows.{IsRightAt}
use Rattle.ris_core.proofs.checks.is_right.Given as goal

abbrev pub invariant-loop-x : goal.invariant-loop-x
invariant-loop-x l = (y : ℕ) → y < l.x → IsRightAt l.graph l.spec (forest_in l.rows) y
