use Rattle.ris_replay.specs.RoundsView.{view_of}
use Rattle.ris_replay.proofs.RoundSteps.{HaveGone}
use Rattle.ris_replay.proofs.rounds.Rounds.go_on_all.Given as goal

abbrev pub invariant-loop-n : goal.invariant-loop-n
invariant-loop-n g l = HaveGone l.n l.done (view_of l.fn.self) (view_of l.self)
