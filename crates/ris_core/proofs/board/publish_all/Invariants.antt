use Rattle.std.proofs.Common.{◌≡◌}
use Rattle.ris_core.specs.Moves.{published_seat}
use Rattle.ris_core.proofs.Partly.{partly}
use Rattle.ris_core.proofs.board.publish_all.Given as goal

abbrev pub invariant-loop-seat : goal.invariant-loop-seat
invariant-loop-seat l = l.seat-items ≡ partly (published_seat l.seen) l.seat-index l.initial.seat-items
