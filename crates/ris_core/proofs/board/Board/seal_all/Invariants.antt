use Rattle.std.proofs.Common.{◌≡◌, take}
use Rattle.ris_core.specs.Moves.{sealed_all}
use Rattle.ris_core.proofs.board.Board.seal_all.Given as goal

abbrev pub invariant-loop-decision : goal.invariant-loop-decision
invariant-loop-decision l = l.self ≡ sealed_all l.initial.self (take l.decision-index l.merged)
