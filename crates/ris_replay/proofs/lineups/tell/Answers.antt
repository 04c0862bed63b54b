use Rattle.std.proofs.Common.{arith, ap, set, sym, ◌∙◌}
use Rattle.ris_base.specs.Epoch.{Resolved}
use Rattle.ris_session.specs.PlayerView.{PlayerView, after_reply}
use Rattle.ris_replay.proofs.LineupFacts.{fits-read, telling-fits, telling-more}
use Rattle.ris_replay.proofs.lineups.tell.Goals as goal

pub index_mut-requires : goal.index_mut-requires
index_mut-requires g c =
    let o : Resolved = record { session = c.in-Some.session; seq = c.in-Some.seq; outcome = c.in-Some.outcome } in
    let fits = (telling-fits c.args.players.now.items c.loop-session.players.items c.args.driver.now c.loop-session.driver o c.loop-session.invariant (sym c.in-Some.ensures.item)).0 in
    let here = fits.here in
    let size = c.loop-session.players.ok.0 in
    omega arith

pub replied-requires-clause-oldest : goal.replied-requires-clause-oldest
replied-requires-clause-oldest g c =
    let o : Resolved = record { session = c.in-Some.session; seq = c.in-Some.seq; outcome = c.in-Some.outcome } in
    let fits = (telling-fits c.args.players.now.items c.loop-session.players.items c.args.driver.now c.loop-session.driver o c.loop-session.invariant (sym c.in-Some.ensures.item)).0 in
    (fits-read c.loop-session.players.items o c.index_mut.result.now fits c.index_mut.ensures.value).0

pub replied-requires-clause-some : goal.replied-requires-clause-some
replied-requires-clause-some g c =
    let o : Resolved = record { session = c.in-Some.session; seq = c.in-Some.seq; outcome = c.in-Some.outcome } in
    let fits = (telling-fits c.args.players.now.items c.loop-session.players.items c.args.driver.now c.loop-session.driver o c.loop-session.invariant (sym c.in-Some.ensures.item)).0 in
    (fits-read c.loop-session.players.items o c.index_mut.result.now fits c.index_mut.ensures.value).1

pub replied-requires-clause-kept : goal.replied-requires-clause-kept
replied-requires-clause-kept g c =
    let o : Resolved = record { session = c.in-Some.session; seq = c.in-Some.seq; outcome = c.in-Some.outcome } in
    (telling-fits c.args.players.now.items c.loop-session.players.items c.args.driver.now c.loop-session.driver o c.loop-session.invariant (sym c.in-Some.ensures.item)).0.kept

pub loop-session-preserved : goal.loop-session-preserved
loop-session-preserved g c =
    let o : Resolved = record { session = c.in-Some.session; seq = c.in-Some.seq; outcome = c.in-Some.outcome } in
    let fits = (telling-fits c.args.players.now.items c.loop-session.players.items c.args.driver.now c.loop-session.driver o c.loop-session.invariant (sym c.in-Some.ensures.item)).0 in
    let read = fits-read c.loop-session.players.items o c.index_mut.result.now fits c.index_mut.ensures.value in
    telling-more c.args.players.now.items c.loop-session.players.items (set c.loop-session.players.items c.in-Some.session c.replied.new.self) c.args.driver.now
    c.loop-session.driver c.reply.new.self o c.loop-session.invariant (sym c.in-Some.ensures.item) c.reply.ensures.rest
    (ap (set c.loop-session.players.items c.in-Some.session) (c.replied.ensures ∙ ap (λ (p : PlayerView). after_reply p c.in-Some.outcome) read.2))
