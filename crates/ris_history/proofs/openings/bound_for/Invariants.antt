use Rattle.std.proofs.Common.{◌*◌, ◌≤◌, [], length}
use Rattle.ris_history.specs.Chains.{with_forests}
use Rattle.ris_history.proofs.openings.bound_for.Given as goal

abbrev pub invariant-loop-a : goal.invariant-loop-a
invariant-loop-a l = record {
  needed : l.bound ≤ length (with_forests l.analyses 0 l.forests []);
  within : l.bound ≤ 4294967296 * l.analyses;
}
