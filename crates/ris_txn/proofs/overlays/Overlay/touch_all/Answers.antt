use Rattle.std.proofs.Common.{◌≡◌, ◌+◌, ℕ, List, [], ◌∷◌, ◌++◌, take, Some, arith, sym, ap, subst, ◌∙◌}
use Rattle.std.specs.List.{slice_get, sum_by}
use Rattle.std.proofs.lemmas.List.{take_all, take_more}
use Rattle.std.proofs.lemmas.List.Sums.{sum_by_push, sum_by-take-le}
use Rattle.std.proofs.lemmas.Option.{get_or_from_slice_get, slice_get_within}
use Rattle.ris_graph.proofs.ListingLemmas.{IsRise-none}
use Rattle.ris_txn.specs.Touching.{AreTouched, rows_length}
use Rattle.ris_txn.proofs.TouchLemmas.{IsRise-joined, touched-more, touched-none}
use Rattle.ris_txn.proofs.overlays.Overlay.touch_all.Goals as goal

-- the vertices up to this one
up_to_here : (xs : List ℕ) (k x : ℕ) → slice_get xs k ≡ Some x → take (k + 1) xs ≡ take k xs ++ x ∷ []
up_to_here xs k x at = take_more xs k x (slice_get_within xs k x at) ∙ ap (λ y. take k xs ++ y ∷ []) (get_or_from_slice_get xs k x x at)

pub loop-k-init : goal.loop-k-init
loop-k-init g c = record { touched = λ p of. touched-none c.args.graph.now c.args.self.now; rise = IsRise-none (g.M.Meter.ticks c.args.meter.now) 0 }

pub returns-in_err-touch_rows-clause-rise : goal.returns-in_err-touch_rows-clause-rise
returns-in_err-touch_rows-clause-rise g c =
    let xs = c.args.vertices.now in
    let k = c.loop-k.k in
    let x = c.at.result.now in
    let f = rows_length c.args.graph.now in
    let sum = ap (sum_by f) (up_to_here xs k x c.at.ensures) ∙ sum_by_push f (take k xs) x in
    let part = sum_by-take-le f xs (k + 1) in
    IsRise-joined (g.M.Meter.ticks c.args.meter.now) (g.M.Meter.ticks c.loop-k.meter) (g.M.Meter.ticks c.touch_rows.new.meter) (sum_by f (take k xs)) (f x) (sum_by f xs)
    c.loop-k.invariant.rise c.touch_rows.ensures.rise (omega arith)

pub loop-k-preserved : goal.loop-k-preserved
loop-k-preserved g c =
    let graph = c.args.graph.now in
    let xs = c.args.vertices.now in
    let k = c.loop-k.k in
    let x = c.at.result.now in
    let f = rows_length graph in
    let upto = up_to_here xs k x c.at.ensures in
    let sum = ap (sum_by f) upto ∙ sum_by_push f (take k xs) x in
    record {
      touched = λ p of. subst (λ (ys : List ℕ). AreTouched graph c.args.self.now c.touch_rows.new.self ys) (sym upto)
          (touched-more graph c.args.self.now c.loop-k.self c.touch_rows.new.self (take k xs) x (c.loop-k.invariant.touched p of) (c.in_ok-touch_rows.ensures.touched p of));
      rise = IsRise-joined (g.M.Meter.ticks c.args.meter.now) (g.M.Meter.ticks c.loop-k.meter) (g.M.Meter.ticks c.touch_rows.new.meter) (sum_by f (take k xs)) (f x) (sum_by f (take (k + 1) xs))
          c.loop-k.invariant.rise c.touch_rows.ensures.rise (omega arith);
    }

pub returns-clause-touched : goal.returns-clause-touched
returns-clause-touched g c = λ p of.
    let past = c.loop-k-test.false in
    subst (λ (ys : List ℕ). AreTouched c.args.graph.now c.args.self.now c.loop-k.self ys) (take_all c.loop-k.k c.args.vertices.now (let len = c.len-k-end.ensures in omega arith))
    (c.loop-k.invariant.touched p of)
