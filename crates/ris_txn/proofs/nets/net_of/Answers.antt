use Rattle.std.proofs.lemmas.Result.{err_from_is_err_and}
use Rattle.ris_base.specs.Falling.{dropped_degrees}
use Rattle.ris_graph.proofs.ListingLemmas.{IsRise-none}
use Rattle.ris_txn.proofs.TouchLemmas.{rise-le}
use Rattle.ris_txn.proofs.nets.net_of.Goals as goal

pub returns-in_err-overlay-clause-refused : goal.returns-in_err-overlay-clause-refused
returns-in_err-overlay-clause-refused g c = λ p of.
    let q = err_from_is_err_and c.from_residual.result c.from_residual.ensures.1 in
    rw (q.1, q.2) (c.in_err-overlay.ensures.refused p of)

pub returns-in_err-overlay-clause-rise : goal.returns-in_err-overlay-clause-rise
returns-in_err-overlay-clause-rise g c = λ p of. IsRise-none (g.M.Meter.ticks c.args.meter.now) (dropped_degrees p c.args.parts.now)

pub returns-in-Ok-clause-ok : goal.returns-in-Ok-clause-ok
returns-in-Ok-clause-ok g c = λ p of. c.in-Ok.ensures.ok p c.args.parts.now of c.in_ok-overlay.ensures.ok

pub returns-in-Ok-clause-visits : goal.returns-in-Ok-clause-visits
returns-in-Ok-clause-visits g c = λ p of.
    rise-le (g.M.Meter.ticks c.args.meter.now) (g.M.Meter.ticks c.collected.new.meter) (dropped_degrees p c.args.parts.now)
    (c.collected.ensures.rise p c.args.parts.now of c.in_ok-overlay.ensures.ok)

pub returns-in-Ok-clause-rise : goal.returns-in-Ok-clause-rise
returns-in-Ok-clause-rise g c = λ p of. c.collected.ensures.rise p c.args.parts.now of c.in_ok-overlay.ensures.ok

pub returns-in-Err-clause-visits : goal.returns-in-Err-clause-visits
returns-in-Err-clause-visits g c = λ p of.
    rise-le (g.M.Meter.ticks c.args.meter.now) (g.M.Meter.ticks c.collected.new.meter) (dropped_degrees p c.args.parts.now)
    (c.collected.ensures.rise p c.args.parts.now of c.in_ok-overlay.ensures.ok)

pub returns-in-Err-clause-rise : goal.returns-in-Err-clause-rise
returns-in-Err-clause-rise g c = λ p of. c.collected.ensures.rise p c.args.parts.now of c.in_ok-overlay.ensures.ok

pub returns-in-Some-clause-rise : goal.returns-in-Some-clause-rise
returns-in-Some-clause-rise g c = λ p of. IsRise-none (g.M.Meter.ticks c.args.meter.now) (dropped_degrees p c.args.parts.now)
