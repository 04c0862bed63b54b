use Rattle.std.proofs.Common.{◌≡◌, drop}
use Rattle.ris_core.specs.Runs.{outcome_in}
use Rattle.ris_core.proofs.seats.Seat.outcome.Given as goal

abbrev pub invariant-loop-k : goal.invariant-loop-k
invariant-loop-k l = outcome_in (drop l.k l.self-inside.commands.items) (drop l.k l.self-inside.replies.items) l.seq
    ≡ outcome_in l.self-inside.commands.items l.self-inside.replies.items l.seq
