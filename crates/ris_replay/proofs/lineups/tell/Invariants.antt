use Rattle.std.proofs.Common.{length}
use Rattle.ris_replay.proofs.LineupFacts.{IsTelling}
use Rattle.ris_replay.proofs.lineups.tell.Given as goal

abbrev pub invariant-loop-session : goal.invariant-loop-session
invariant-loop-session g l = IsTelling l.fn.players.items l.fn.driver l.players.items l.driver

abbrev pub decreases-loop-session : goal.decreases-loop-session
decreases-loop-session g l = length l.driver.replies
