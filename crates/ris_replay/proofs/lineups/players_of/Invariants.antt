use Rattle.std.proofs.Common.{length}
use Rattle.ris_replay.proofs.RoundStarts.{ArePlayers}
use Rattle.ris_replay.proofs.lineups.players_of.Given as goal

abbrev pub invariant-loop-commands : goal.invariant-loop-commands
invariant-loop-commands l = ArePlayers l.session l.fn.lists l.lists l.players.items

abbrev pub decreases-loop-commands : goal.decreases-loop-commands
decreases-loop-commands l = length l.lists
