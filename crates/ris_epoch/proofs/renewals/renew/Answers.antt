use Rattle.std.proofs.Common.{List, Result, Ok, Err, OnErr, rules, sum, subst, sym}
use Rattle.ris_base.specs.Falling.{AreReaches}
use Rattle.ris_base.specs.Forest.{Forest}
use Rattle.ris_base.specs.Requests.{entered}
use Rattle.ris_base.specs.declared.analyses.Spec.{Spec}
use Rattle.ris_graph.specs.GraphView.{IsOf}
use Rattle.ris_graph.proofs.GraphLemmas.{IsOf-room}
use Rattle.ris_graph.proofs.ListingLemmas.{IsRise-none, ticked-zero}
use Rattle.ris_analysis.specs.Analyses.{HasRoom, IsDueFor, forests_of}
use Rattle.ris_epoch.specs.DriverView.{Fits}
use Rattle.ris_epoch.proofs.RenewSteps.{fits-again, fits-due, fits-grown, renewed, room-entered, room-grown, suits-entered}
use Rattle.ris_epoch.proofs.StandingFor.{fits-room}
use Rattle.ris_epoch.proofs.renewals.renew.Goals as goal

-- what holds at all holds on an error
on-err : {A E : Type 0} (r : Result A E) (P : Type 0) → P → OnErr r P
on-err (Ok a) P h = search rules
on-err (Err e) P h = h

pub returns-in_err-make_room-clause-err : goal.returns-in_err-make_room-clause-err
returns-in_err-make_room-clause-err g c = on-err c.from_residual.result _ (λ p parts specs forests fits net.
    fits-grown c.args.graph.now c.args.analyses.now c.make_room.new.self p specs forests c.make_room.ensures.grown c.make_room.ensures.specs c.make_room.ensures.suits
    c.make_room.ensures.forests fits)

pub returns-in_err-make_room-clause-visits : goal.returns-in_err-make_room-clause-visits
returns-in_err-make_room-clause-visits g c = λ p parts specs forests counts fits net reaches. IsRise-none (g.M.Meter.ticks c.args.meter.now) (sum counts)

pub returns-in_err-make_room-clause-counted : goal.returns-in_err-make_room-clause-counted
returns-in_err-make_room-clause-counted g c = (0, sym (ticked-zero (g.M.Meter.ticks c.args.meter.now)))

pub returns-in_err-make_room_for-clause-err : goal.returns-in_err-make_room_for-clause-err
returns-in_err-make_room_for-clause-err g c = on-err c.from_residual-in_err-make_room_for.result _ (λ p parts specs forests fits net.
    fits-room c.args.graph.now c.make_room_for.new.self c.make_room.new.self p specs forests c.make_room_for.ensures.same
    (fits-grown c.args.graph.now c.args.analyses.now c.make_room.new.self p specs forests c.make_room.ensures.grown c.make_room.ensures.specs c.make_room.ensures.suits
    c.make_room.ensures.forests fits))

pub returns-in_err-make_room_for-clause-visits : goal.returns-in_err-make_room_for-clause-visits
returns-in_err-make_room_for-clause-visits g c = λ p parts specs forests counts fits net reaches. IsRise-none (g.M.Meter.ticks c.args.meter.now) (sum counts)

pub returns-in_err-make_room_for-clause-counted : goal.returns-in_err-make_room_for-clause-counted
returns-in_err-make_room_for-clause-counted g c = (0, sym (ticked-zero (g.M.Meter.ticks c.args.meter.now)))

pub prepared-requires-clause-suits : goal.prepared-requires-clause-suits
prepared-requires-clause-suits g c κs within =
    let p = c.requires.plain in
    suits-entered c.args.graph.now c.commit.new.self c.make_room.new.self p c.requires.parts c.requires.fits.graph_is
    (c.commit.ensures.graph p c.requires.parts (IsOf-room c.args.graph.now c.make_room_for.new.self p c.make_room_for.ensures.same c.requires.fits.graph_is) c.requires.of)
    (c.make_room.ensures.suits c.args.graph.now.format c.requires.fits.suits)

pub prepared-requires-clause-room : goal.prepared-requires-clause-room
prepared-requires-clause-room g c κs within =
    let p = c.requires.plain in
    room-entered c.args.graph.now c.commit.new.self p c.requires.parts c.args.net.now c.make_room.new.self c.requires.fits.graph_is
    (c.commit.ensures.graph p c.requires.parts (IsOf-room c.args.graph.now c.make_room_for.new.self p c.make_room_for.ensures.same c.requires.fits.graph_is) c.requires.of) c.requires.of
    (room-grown c.args.graph.now c.args.analyses.now c.make_room.new.self c.make_room.ensures.grown c.requires.fits.room) c.in_ok-make_room.ensures.ok

pub returns-in-Ok-clause-ok : goal.returns-in-Ok-clause-ok
returns-in-Ok-clause-ok g c = λ p parts specs forests fits net.
    let had : IsOf c.make_room_for.new.self p = IsOf-room c.args.graph.now c.make_room_for.new.self p c.make_room_for.ensures.same fits.graph_is in
    let now : IsOf c.commit.new.self (entered p parts) = c.commit.ensures.graph p parts had net in
    let grown : Fits c.args.graph.now c.make_room.new.self p specs forests =
    fits-grown c.args.graph.now c.args.analyses.now c.make_room.new.self p specs forests c.make_room.ensures.grown c.make_room.ensures.specs c.make_room.ensures.suits
    c.make_room.ensures.forests fits in
    let room : HasRoom c.commit.new.self c.make_room.new.self =
    room-entered c.args.graph.now c.commit.new.self p parts c.args.net.now c.make_room.new.self fits.graph_is now net grown.room c.in_ok-make_room.ensures.ok in
    let due : IsDueFor c.commit.new.self c.make_room.new.self c.args.net.now p parts =
    fits-due c.args.graph.now c.commit.new.self c.make_room.new.self p parts specs forests c.args.net.now grown now net in
    renewed c.args.graph.now c.commit.new.self c.make_room.new.self c.commit-in-Ok.new.self p parts specs forests c.args.net.now c.in-Ok.made.0 c.in-Ok.made.1 grown now room
    c.in-Ok.ensures.changes (c.in-Ok.ensures.right p parts due) (c.in-Ok.ensures.are p parts due) c.commit-in-Ok.ensures.committed c.commit-in-Ok.ensures.specs
    c.commit-in-Ok.ensures.suits c.commit-in-Ok.ensures.forests

pub returns-in-Ok-clause-visits : goal.returns-in-Ok-clause-visits
returns-in-Ok-clause-visits g c = λ p parts specs forests counts fits net reaches.
    let had : IsOf c.make_room_for.new.self p = IsOf-room c.args.graph.now c.make_room_for.new.self p c.make_room_for.ensures.same fits.graph_is in
    let grown : Fits c.args.graph.now c.make_room.new.self p specs forests =
    fits-grown c.args.graph.now c.args.analyses.now c.make_room.new.self p specs forests c.make_room.ensures.grown c.make_room.ensures.specs c.make_room.ensures.suits
    c.make_room.ensures.forests fits in
    c.prepared.ensures.visits p parts counts
    (fits-due c.args.graph.now c.commit.new.self c.make_room.new.self p parts specs forests c.args.net.now grown (c.commit.ensures.graph p parts had net) net)
    (subst (λ (ss : List Spec). AreReaches p parts ss (forests_of c.make_room.new.self) counts) (sym grown.specs_are)
    (subst (λ (fs : List Forest). AreReaches p parts specs fs counts) (sym grown.forests_are) reaches))

pub returns-in-Err-clause-err : goal.returns-in-Err-clause-err
returns-in-Err-clause-err g c = λ p parts specs forests fits net.
    let had : IsOf c.make_room_for.new.self p = IsOf-room c.args.graph.now c.make_room_for.new.self p c.make_room_for.ensures.same fits.graph_is in
    fits-again c.args.graph.now c.undo.new.self c.make_room.new.self p specs forests (c.undo.ensures.graph p parts (c.commit.ensures.graph p parts had net) net)
    (fits-grown c.args.graph.now c.args.analyses.now c.make_room.new.self p specs forests c.make_room.ensures.grown c.make_room.ensures.specs c.make_room.ensures.suits
    c.make_room.ensures.forests fits)

pub returns-in-Err-clause-visits : goal.returns-in-Err-clause-visits
returns-in-Err-clause-visits g c = λ p parts specs forests counts fits net reaches.
    let had : IsOf c.make_room_for.new.self p = IsOf-room c.args.graph.now c.make_room_for.new.self p c.make_room_for.ensures.same fits.graph_is in
    let grown : Fits c.args.graph.now c.make_room.new.self p specs forests =
    fits-grown c.args.graph.now c.args.analyses.now c.make_room.new.self p specs forests c.make_room.ensures.grown c.make_room.ensures.specs c.make_room.ensures.suits
    c.make_room.ensures.forests fits in
    c.prepared.ensures.visits p parts counts
    (fits-due c.args.graph.now c.commit.new.self c.make_room.new.self p parts specs forests c.args.net.now grown (c.commit.ensures.graph p parts had net) net)
    (subst (λ (ss : List Spec). AreReaches p parts ss (forests_of c.make_room.new.self) counts) (sym grown.specs_are)
    (subst (λ (fs : List Forest). AreReaches p parts specs fs counts) (sym grown.forests_are) reaches))
