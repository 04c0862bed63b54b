use Rattle.std.proofs.Common.{◌≡◌}
use Rattle.ris_four.specs.Rounds.{values_after}
use Rattle.ris_four.proofs.rounds.values_after.Given as goal

abbrev pub invariant-loop-done : goal.invariant-loop-done
invariant-loop-done g l =
    l.values.items ≡ values_after (g.A.Monotone.step_of l.algo) (g.A.Monotone.better_of l.algo) l.lists l._done l.fn.first.items
