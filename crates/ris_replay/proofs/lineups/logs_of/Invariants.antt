use Rattle.std.proofs.Common.{length}
use Rattle.ris_replay.proofs.RoundStarts.{AreLogs}
use Rattle.ris_replay.proofs.lineups.logs_of.Given as goal

abbrev pub invariant-loop-player : goal.invariant-loop-player
invariant-loop-player l = AreLogs l.fn.players.items l.left l.logs

abbrev pub decreases-loop-player : goal.decreases-loop-player
decreases-loop-player l = length l.left
