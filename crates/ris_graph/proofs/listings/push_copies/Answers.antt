use Rattle.std.proofs.Common.{◌≡◌, ◌-◌, ◌+◌, ℕ, ◌∷◌, ◌++◌, [], List, replicate, arith, sym, ap, ◌∙◌}
use Rattle.std.proofs.lemmas.List.{append_assoc, replicate-append-replicate}
use Rattle.ris_base.specs.declared.graphs.Triple.{Triple}
use Rattle.ris_graph.proofs.ListingLemmas.{ticked-zero, ticked-step, IsRise-none, IsRise-ticked}
use Rattle.ris_graph.proofs.listings.push_copies.Goals as goal

pub returns-in_err-push-clause-rise : goal.returns-in_err-push-clause-rise
returns-in_err-push-clause-rise g c = IsRise-none (g.M.Meter.ticks c.args.meter.now) (c.args.copies - 1)

pub loop-init : goal.loop-init
loop-init g c = record { triples = c.in_ok-push.ensures.ok; ticks = sym (ticked-zero (g.M.Meter.ticks c.args.meter.now)) }

pub returns-in_err-push-2-clause-rise : goal.returns-in_err-push-2-clause-rise
returns-in_err-push-2-clause-rise g c =
    let lt = c.loop-test.true in
    let old = g.M.Meter.ticks c.args.meter.now in
    let some = c.loop.auto.counter in
    let ticked = ticked-step old (g.M.Meter.ticks c.loop.meter) (g.M.Meter.ticks c.tick.new.self) (c.loop.counter - 1) c.loop.counter c.loop.invariant.ticks c.tick.ensures (omega arith) in
    rw ticked (IsRise-ticked old c.loop.counter (c.args.copies - 1) (omega arith))

-- one copy more behind those that were pushed
pushed : (old mid new : List Triple) (n : ℕ) (t : Triple) → mid ≡ old ++ replicate n t → new ≡ mid ++ t ∷ [] → new ≡ old ++ replicate (n + 1) t
pushed old mid new n t before is =
    is ∙ ap (λ (l : List Triple). l ++ t ∷ []) before ∙ append_assoc old (replicate n t) (t ∷ []) ∙ ap (λ (l : List Triple). old ++ l) (replicate-append-replicate n 1 t)

pub loop-preserved : goal.loop-preserved
loop-preserved g c =
    let some = c.loop.auto.counter in
    record {
      triples = pushed c.args.triples.now c.loop.triples c.push-in-loop.new.self c.loop.counter c.args.triple c.loop.invariant.triples c.in_ok-push-2.ensures.ok;
      ticks = ticked-step (g.M.Meter.ticks c.args.meter.now) (g.M.Meter.ticks c.loop.meter) (g.M.Meter.ticks c.tick.new.self) (c.loop.counter - 1) (c.loop.counter + 1 - 1)
          c.loop.invariant.ticks c.tick.ensures (omega arith);
    }
