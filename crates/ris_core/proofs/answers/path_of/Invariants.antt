use Rattle.std.proofs.Common.{◌≡◌, ◌++◌, ◌-◌}
use Rattle.ris_base.specs.Forest.{forest_in}
use Rattle.ris_core.specs.Answered.{path_of}
use Rattle.ris_core.proofs.answers.path_of.Given as goal

abbrev pub invariant-loop-k : goal.invariant-loop-k
invariant-loop-k l = l.vertices ++ path_of (forest_in l.rows) (4194305 - l._k) l.here ≡ path_of (forest_in l.rows) 4194305 l.x
