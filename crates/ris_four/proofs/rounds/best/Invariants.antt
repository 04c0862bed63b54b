use Rattle.std.proofs.Common.{◌≡◌, take}
use Rattle.ris_four.specs.Rounds.{best_value}
use Rattle.ris_four.proofs.rounds.best.Given as goal

abbrev pub invariant-loop-n : goal.invariant-loop-n
invariant-loop-n g l =
    l.best ≡ best_value (g.A.Monotone.step_of l.algo) (g.A.Monotone.better_of l.algo) l.values l.fn.present (take l.n-index l.neighbours)
