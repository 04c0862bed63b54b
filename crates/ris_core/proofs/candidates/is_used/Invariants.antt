use Rattle.std.proofs.Common.{◌≡◌, drop, map}
use Rattle.ris_base.specs.Forest.{forest_in}
use Rattle.ris_base.specs.Graph.{triple}
use Rattle.ris_base.specs.Safe.{is_used}
use Rattle.ris_core.proofs.candidates.is_used.Given as goal

abbrev pub invariant-loop-k : goal.invariant-loop-k
invariant-loop-k l = is_used (map forest_in (drop l.k l.tables)) (triple l.u l.v l.w) ≡ is_used (map forest_in l.tables) (triple l.u l.v l.w)
