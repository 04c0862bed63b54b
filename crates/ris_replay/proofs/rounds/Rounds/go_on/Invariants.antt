use Rattle.std.proofs.Common.{length}
use Rattle.ris_rounds.specs.Rounds.{player_in}
use Rattle.ris_replay.specs.RoundsView.{GoesAlone, Keeps, view_of}
use Rattle.ris_replay.proofs.rounds.Rounds.go_on.Given as goal

abbrev pub invariant-steps : goal.invariant-steps
invariant-steps g l = record { keeps : Keeps (view_of l.fn.self) (view_of l.self); alone : GoesAlone l.n (view_of l.fn.self) (view_of l.self) }

abbrev pub decreases-steps : goal.decreases-steps
decreases-steps g l = length (player_in l.self.players.items l.n).left
