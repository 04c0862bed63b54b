use Rattle.std.proofs.Common.{rules, sym}
use Rattle.ris_replay.proofs.RoundStarts.{logs-more}
use Rattle.ris_replay.proofs.lineups.logs_of.Goals as goal

pub loop-player-preserved : goal.loop-player-preserved
loop-player-preserved c =
    logs-more c.args.players.items c.loop-player.left c.take_first.new.self c.loop-player.logs c.push.new.self c.in-Some.player c.finish.result c.loop-player.invariant
    (sym c.in-Some.ensures.item) c.take_first.ensures.rest c.finish.ensures (search rules)
