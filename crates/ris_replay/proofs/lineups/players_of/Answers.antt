use Rattle.std.proofs.Common.{rules, sym}
use Rattle.ris_replay.proofs.RoundStarts.{players-all, players-more}
use Rattle.ris_replay.proofs.lineups.players_of.Goals as goal

pub loop-commands-preserved : goal.loop-commands-preserved
loop-commands-preserved c =
    players-more c.loop-commands.session c.args.lists c.loop-commands.lists c.take_first.new.self c.loop-commands.players.items c.push.new.self.items
    c.in-Some.commands c.in_ok-new.field-0 c.loop-commands.invariant (sym c.in-Some.ensures.item) c.take_first.ensures.rest (search rules) (search rules)

pub returns : goal.returns
returns c = players-all c.loop-commands.session c.args.lists c.loop-commands.lists c.loop-commands.players.items c.loop-commands.invariant (sym c.in_default.ensures.item)
