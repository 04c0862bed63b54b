use Rattle.std.proofs.Common.{ℕ, List, subst}
use Rattle.ris_base.specs.Falling.{dropped_degrees}
use Rattle.ris_graph.proofs.ListingLemmas.{IsRise-none}
use Rattle.ris_txn.specs.Touching.{AreTouched}
use Rattle.ris_txn.proofs.NetLemmas.{dropped-rise, net-is}
use Rattle.ris_txn.proofs.nets.collected.Goals as goal

pub returns-in_err-dropped-clause-rise : goal.returns-in_err-dropped-clause-rise
returns-in_err-dropped-clause-rise g c = λ p parts of judged. IsRise-none (g.M.Meter.ticks c.args.meter.now) (dropped_degrees p parts)

pub returns-in_err-touch_all-clause-rise : goal.returns-in_err-touch_all-clause-rise
returns-in_err-touch_all-clause-rise g c = λ p parts of judged.
    dropped-rise c.args.graph.now p of parts c.args.overlay judged c.dropped.ensures.once c.in_ok-dropped.dropped c.in_ok-dropped.ensures.listed
    (g.M.Meter.ticks c.args.meter.now) (g.M.Meter.ticks c.touch_all.new.meter) c.touch_all.ensures.rise

pub returns-in_err-added-clause-rise : goal.returns-in_err-added-clause-rise
returns-in_err-added-clause-rise g c = λ p parts of judged.
    dropped-rise c.args.graph.now p of parts c.args.overlay judged c.dropped.ensures.once c.in_ok-dropped.dropped c.in_ok-dropped.ensures.listed
    (g.M.Meter.ticks c.args.meter.now) (g.M.Meter.ticks c.touch_all.new.meter) c.touch_all.ensures.rise

pub returns-in_err-triples-clause-rise : goal.returns-in_err-triples-clause-rise
returns-in_err-triples-clause-rise g c = λ p parts of judged.
    dropped-rise c.args.graph.now p of parts c.args.overlay judged c.dropped.ensures.once c.in_ok-dropped.dropped c.in_ok-dropped.ensures.listed
    (g.M.Meter.ticks c.args.meter.now) (g.M.Meter.ticks c.touch_all.new.meter) c.touch_all.ensures.rise

pub returns-clause-ok : goal.returns-clause-ok
returns-clause-ok g c = λ p parts of judged.
    let graph = c.args.graph.now in
    let old = c.args.overlay in
    let new = c.touch_all.new.self in
    let listed = c.in_ok-dropped.ensures.listed in
    let touched = subst (λ (xs : List ℕ). AreTouched graph old new xs) listed (c.in_ok-touch_all.ensures.touched p of) in
    rw (listed, c.in_ok-added.ensures.listed, c.in_ok-triples.ensures.listed)
    (net-is graph p of parts old judged c.dropped.ensures.once new touched c.added.ensures.once c.listed.ensures.once)

pub returns-clause-rise : goal.returns-clause-rise
returns-clause-rise g c = λ p parts of judged.
    dropped-rise c.args.graph.now p of parts c.args.overlay judged c.dropped.ensures.once c.in_ok-dropped.dropped c.in_ok-dropped.ensures.listed
    (g.M.Meter.ticks c.args.meter.now) (g.M.Meter.ticks c.touch_all.new.meter) c.touch_all.ensures.rise
