use Rattle.std.proofs.Common.{◌≡◌, map}
use Rattle.ris_base.specs.Forest.{forest_in}
use Rattle.ris_core.specs.Moves.{begun_seat}
use Rattle.ris_core.proofs.Partly.{partly}
use Rattle.ris_core.proofs.board.turns.begin_all.Given as goal

abbrev pub invariant-loop-seat : goal.invariant-loop-seat
invariant-loop-seat l = l.seat-items ≡ partly (begun_seat l.graph l.specs (map forest_in l.tables)) l.seat-index l.initial.seat-items
