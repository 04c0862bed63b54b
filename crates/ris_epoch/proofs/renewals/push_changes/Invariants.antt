use Rattle.std.proofs.Common.{◌≡◌, ◌++◌, drop, map}
use Rattle.ris_epoch.specs.Driving.{change_of}
use Rattle.ris_epoch.proofs.renewals.push_changes.Given as goal

abbrev pub invariant-loop-k : goal.invariant-loop-k
invariant-loop-k l = l.changes ++ map (change_of l.a) (drop l.k l.delta) ≡ l.fn.changes ++ map (change_of l.a) l.delta
