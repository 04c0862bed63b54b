use Rattle.ris_replay.specs.RoundsView.{view_of}
use Rattle.ris_replay.proofs.RoundStarts.{all-done}
use Rattle.ris_replay.proofs.rounds.Rounds.finish.Goals as goal

pub logs_of-requires : goal.logs_of-requires
logs_of-requires g c = record { done = all-done (view_of c.args.self) c.requires.done }
