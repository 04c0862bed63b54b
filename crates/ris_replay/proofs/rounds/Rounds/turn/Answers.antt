use Rattle.std.proofs.Common.{List, length, arith, ap, subst, sym, ◌∙◌, ◌<◌}
use Rattle.std.specs.List.{All}
use Rattle.ris_base.specs.Epoch.{Resolved}
use Rattle.ris_base.specs.Machine.{session_by}
use Rattle.ris_base.specs.declared.requests.Request.{Request}
use Rattle.ris_replay.specs.RoundsView.{AllFit, view_of}
use Rattle.ris_replay.proofs.RoundTurns.{running-here, running-room, turned-counts, turned-fit, turned-keeps, turned-replied, turned-rises}
use Rattle.ris_rounds.specs.Rounds.{told_player}
use Rattle.std.specs.List.{fold}
use Rattle.ris_replay.proofs.rounds.Rounds.turn.Goals as goal

pub turn-requires-clause-here : goal.turn-requires-clause-here
turn-requires-clause-here g c κs within =
    subst (λ (rs : List Request). All (λ x. session_by x < c.args.self.now.driver.opening.sessions) rs) (sym c.fill.ensures.taken)
    (running-here (view_of c.args.self.now) c.requires.running)

pub turn-requires-clause-room : goal.turn-requires-clause-room
turn-requires-clause-room g c κs within =
    let room = running-room (view_of c.args.self.now) c.requires.running in let same = ap length c.fill.ensures.taken in omega arith

pub returns-in_err-absorb-clause-rise : goal.returns-in_err-absorb-clause-rise
returns-in_err-absorb-clause-rise g c =
    turned-rises (view_of c.args.self.now) c.fill.new.batch c.turn.new.self c.turn.result.tail (g.M.Meter.ticks c.args.meter.now) (g.M.Meter.ticks c.turn.new.meter)
    c.fill.ensures.taken c.turn.ensures.epoch c.requires.running

pub tell-requires-clause-fit : goal.tell-requires-clause-fit
tell-requires-clause-fit g c κs within =
    subst (λ (os : List Resolved). AllFit c.args.self.now.players.items os) (sym c.in_ok-absorb.ensures.drained.replies)
    (turned-fit (view_of c.args.self.now) c.fill.new.batch c.turn.new.self c.turn.result.tail (g.M.Meter.ticks c.args.meter.now) (g.M.Meter.ticks c.turn.new.meter)
    c.fill.ensures.taken c.turn.ensures.epoch c.requires.running)

pub returns-clause-keeps : goal.returns-clause-keeps
returns-clause-keeps g c =
    turned-keeps (view_of c.args.self.now) c.fill.new.batch c.turn.new.self c.turn.result.tail (g.M.Meter.ticks c.args.meter.now) (g.M.Meter.ticks c.turn.new.meter)
    c.fill.ensures.taken c.turn.ensures.epoch c.absorb.new.driver
    (record { driver = c.tell.new.driver; history = c.absorb.new.history; players = c.tell.new.players.items; queues = c.fill.new.queues.items; batch = c.turn.new.batch })
    c.in_ok-absorb.ensures.drained c.tell.ensures.rest c.in_ok-absorb.ensures.absorbed
    (c.tell.ensures.told ∙ ap (λ (os : List Resolved). fold told_player c.args.self.now.players.items os) c.in_ok-absorb.ensures.drained.replies)
    c.fill.ensures.rest c.turn.ensures.empty

pub returns-clause-replied : goal.returns-clause-replied
returns-clause-replied g c =
    turned-replied (view_of c.args.self.now) c.fill.new.batch c.turn.new.self c.turn.result.tail (g.M.Meter.ticks c.args.meter.now) (g.M.Meter.ticks c.turn.new.meter)
    c.fill.ensures.taken c.turn.ensures.epoch c.tell.new.players.items c.requires.running
    (c.tell.ensures.told ∙ ap (λ (os : List Resolved). fold told_player c.args.self.now.players.items os) c.in_ok-absorb.ensures.drained.replies)

pub returns-clause-rise : goal.returns-clause-rise
returns-clause-rise g c =
    turned-rises (view_of c.args.self.now) c.fill.new.batch c.turn.new.self c.turn.result.tail (g.M.Meter.ticks c.args.meter.now) (g.M.Meter.ticks c.turn.new.meter)
    c.fill.ensures.taken c.turn.ensures.epoch c.requires.running

pub returns-clause-counts : goal.returns-clause-counts
returns-clause-counts g c =
    turned-counts (view_of c.args.self.now) c.fill.new.batch c.turn.new.self c.turn.result.tail (g.M.Meter.ticks c.args.meter.now) (g.M.Meter.ticks c.turn.new.meter)
    c.fill.ensures.taken c.turn.ensures.epoch c.absorb.new.driver
    (record { driver = c.tell.new.driver; history = c.absorb.new.history; players = c.tell.new.players.items; queues = c.fill.new.queues.items; batch = c.turn.new.batch })
    c.in_ok-absorb.ensures.drained c.tell.ensures.rest
    (c.tell.ensures.told ∙ ap (λ (os : List Resolved). fold told_player c.args.self.now.players.items os) c.in_ok-absorb.ensures.drained.replies)
    c.requires.running
