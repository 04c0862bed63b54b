use Rattle.std.proofs.Common.{◌≡◌, ◌-◌}
use Rattle.ris_base.specs.Forest.{forest_in, up}
use Rattle.ris_core.proofs.checks.up.Given as goal

abbrev pub invariant-loop-k : goal.invariant-loop-k
invariant-loop-k l = up (forest_in l.rows) (l.steps - l._k) l.here ≡ up (forest_in l.rows) l.steps l.x
