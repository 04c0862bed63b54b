use Rattle.std.proofs.Common.{length}
use Rattle.ris_replay.proofs.LineupFacts.{IsAbsorbing}
use Rattle.ris_replay.proofs.lineups.absorb.Given as goal

abbrev pub invariant-loop-record : goal.invariant-loop-record
invariant-loop-record g l = IsAbsorbing l.fn.history l.fn.driver l.history l.driver

abbrev pub decreases-loop-record : goal.decreases-loop-record
decreases-loop-record g l = length l.driver.records
