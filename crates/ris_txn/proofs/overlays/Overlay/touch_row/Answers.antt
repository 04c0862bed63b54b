use Rattle.std.proofs.Common.{◌+◌, [], ◌∷◌, ◌++◌, length, arith, refl, sym, ap, subst}
use Rattle.std.proofs.lemmas.List.{length-append, length_push}
use Rattle.ris_base.specs.declared.graphs.Triple.{Triple}
use Rattle.ris_graph.proofs.ListingLemmas.{handed-first, ticked-step, ticked-zero}
use Rattle.ris_rows.specs.declared.neighbours.Neighbour.{Neighbour}
use Rattle.ris_txn.specs.Touching.{IsTouched}
use Rattle.ris_txn.proofs.TouchLemmas.{left-more, row-more, row-none}
use Rattle.ris_txn.proofs.overlays.Overlay.touch_row.Goals as goal

pub loop-end-init : goal.loop-end-init
loop-end-init g c = ([], refl, row-none c.args.self.now c.args.out c.args.x, sym (ticked-zero (g.M.Meter.ticks c.args.meter.now)))

pub loop-end-preserved : goal.loop-end-preserved
loop-end-preserved g c =
    let s = c.in-Some in
    let n : Neighbour = record { end = s.end; weight = s.weight; copies = s.copies } in
    let done = c.loop-end.invariant.0 in
    let first = handed-first c.loop-end.row c.next.new.self s.end s.weight s.copies s.ensures.item s.ensures.rest in
    let touched : IsTouched c.loop-end.self c.touch.new.self c.triple_along.result s.copies = c.in_ok-touch.ensures in (
      done ++ n ∷ [],
      left-more done c.next.new.self c.args.row c.loop-end.row n first c.loop-end.invariant.1,
      row-more c.args.self.now c.loop-end.self c.touch.new.self c.args.out c.args.x done n c.loop-end.invariant.2
          (subst (λ (t : Triple). IsTouched c.loop-end.self c.touch.new.self t s.copies) c.triple_along.ensures touched),
      ticked-step (g.M.Meter.ticks c.args.meter.now) (g.M.Meter.ticks c.loop-end.meter) (g.M.Meter.ticks c.next.new.meter) (length done) (length (done ++ n ∷ []))
          c.loop-end.invariant.3 s.ensures.ticks (sym (length_push done n)),
    )

pub returns-in_err-touch-clause-rise : goal.returns-in_err-touch-clause-rise
returns-in_err-touch-clause-rise g c =
    let s = c.in-Some in
    let n : Neighbour = record { end = s.end; weight = s.weight; copies = s.copies } in
    let done = c.loop-end.invariant.0 in
    let first = handed-first c.loop-end.row c.next.new.self s.end s.weight s.copies s.ensures.item s.ensures.rest in
    let whole = ap length (left-more done c.next.new.self c.args.row c.loop-end.row n first c.loop-end.invariant.1) in
    let both = length-append (done ++ n ∷ []) c.next.new.self in
    let more = length_push done n in
    record {
      ticks = length done + 1;
      few = omega arith;
      rose = ticked-step (g.M.Meter.ticks c.args.meter.now) (g.M.Meter.ticks c.loop-end.meter) (g.M.Meter.ticks c.next.new.meter) (length done) (length done + 1)
          c.loop-end.invariant.3 s.ensures.ticks refl;
    }
