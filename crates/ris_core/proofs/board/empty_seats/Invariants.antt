use Rattle.std.proofs.Common.{◌≡◌, replicate}
use Rattle.ris_base.specs.Machine.{empty_seat}
use Rattle.ris_core.proofs.board.empty_seats.Given as goal

abbrev pub invariant-loop-n : goal.invariant-loop-n
invariant-loop-n l = l.seats.items ≡ replicate l._n empty_seat
