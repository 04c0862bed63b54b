use Rattle.std.proofs.Common.{◌≡◌, ◌<◌, ◌++◌, ◌∷◌, [], List, length, take, arith, sym, subst, ap, ◌∙◌}
use Rattle.std.proofs.lemmas.List.{take_more}
use Rattle.std.proofs.lemmas.Option.{get_or_from_slice_get}
use Rattle.ris_base.specs.Falling.{start_reach}
use Rattle.ris_base.specs.Lists.{EachPair}
use Rattle.ris_base.specs.declared.analyses.Kind.TheVariants.{Wcc}
use Rattle.ris_base.specs.declared.analyses.Spec.{Spec}
use Rattle.ris_graph.specs.Ticks.{IsRise}
use Rattle.ris_graph.proofs.ListingLemmas.{ticked-zero}
use Rattle.ris_repair.proofs.RiseLemmas.{rise_none}
use Rattle.ris_analysis.specs.AnyForest.{IsStarted}
use Rattle.ris_analysis.specs.Repairing.{first_reach}
use Rattle.ris_analysis.specs.declared.kinds.AnyForest.{AnyForest}
use Rattle.ris_analysis.proofs.PairLemmas.{EachPair-push}
use Rattle.ris_analysis.proofs.RepairedLemmas.{counted_more, rise_next, rise_part}
use Rattle.ris_analysis.proofs.lists.first_forests.Goals as goal

pub returns-in_err-forests-clause-visits : goal.returns-in_err-forests-clause-visits
returns-in_err-forests-clause-visits g c = λ p of. rise_none (g.M.Meter.ticks c.args.meter.now) (start_reach p c.args.specs.now)

pub returns-in_err-forests-clause-counted : goal.returns-in_err-forests-clause-counted
returns-in_err-forests-clause-counted g c = (0, sym (ticked-zero (g.M.Meter.ticks c.args.meter.now)))

pub loop-k-init : goal.loop-k-init
loop-k-init g c = record {
  started = subst (λ (l : List AnyForest). EachPair (IsStarted c.args.graph.now c.args.size) [] l) (sym c.in_ok-forests.ensures.items) tt;
  visits = λ p of. rise_none (g.M.Meter.ticks c.args.meter.now) 0;
  counted = (0, sym (ticked-zero (g.M.Meter.ticks c.args.meter.now)));
}

pub start-requires-clause-plain : goal.start-requires-clause-plain
start-requires-clause-plain g c κs within =
    let x = c.at.result.now in
    let less : c.loop-k.k < length c.args.specs.now = omega arith in
    subst (λ (s : Spec). s.kind ≡ Wcc → s.root ≡ 0) (get_or_from_slice_get c.args.specs.now c.loop-k.k x x c.at.ensures) (c.requires.roots c.loop-k.k x less)

pub returns-in_err-forest-clause-visits : goal.returns-in_err-forest-clause-visits
returns-in_err-forest-clause-visits g c = λ p of.
    let x = c.at.result.now in
    let less : c.loop-k.k < length c.args.specs.now = omega arith in
    let b = g.M.Meter.ticks c.loop-k.meter in
    let d = g.M.Meter.ticks c.start.new.meter in
    rise_part (first_reach p) (g.M.Meter.ticks c.args.meter.now) b d c.loop-k.k c.args.specs.now x less (c.loop-k.invariant.visits p of)
    (subst (λ (s : Spec). IsRise b d (first_reach p s)) (sym (get_or_from_slice_get c.args.specs.now c.loop-k.k x x c.at.ensures)) (c.start.ensures.visits p of))

pub returns-in_err-forest-clause-counted : goal.returns-in_err-forest-clause-counted
returns-in_err-forest-clause-counted g c =
    counted_more (g.M.Meter.ticks c.args.meter.now) (g.M.Meter.ticks c.loop-k.meter) (g.M.Meter.ticks c.start.new.meter) c.loop-k.invariant.counted c.start.ensures.counted

pub returns-in_err-push-clause-visits : goal.returns-in_err-push-clause-visits
returns-in_err-push-clause-visits g c = λ p of.
    let x = c.at.result.now in
    let less : c.loop-k.k < length c.args.specs.now = omega arith in
    let b = g.M.Meter.ticks c.loop-k.meter in
    let d = g.M.Meter.ticks c.start.new.meter in
    rise_part (first_reach p) (g.M.Meter.ticks c.args.meter.now) b d c.loop-k.k c.args.specs.now x less (c.loop-k.invariant.visits p of)
    (subst (λ (s : Spec). IsRise b d (first_reach p s)) (sym (get_or_from_slice_get c.args.specs.now c.loop-k.k x x c.at.ensures)) (c.start.ensures.visits p of))

pub returns-in_err-push-clause-counted : goal.returns-in_err-push-clause-counted
returns-in_err-push-clause-counted g c =
    counted_more (g.M.Meter.ticks c.args.meter.now) (g.M.Meter.ticks c.loop-k.meter) (g.M.Meter.ticks c.start.new.meter) c.loop-k.invariant.counted c.start.ensures.counted

pub loop-k-preserved : goal.loop-k-preserved
loop-k-preserved g c =
    let specs = c.args.specs.now in
    let k = c.loop-k.k in
    let x = c.at.result.now in
    let less : c.loop-k.k < length c.args.specs.now = omega arith in
    let at = get_or_from_slice_get specs k x x c.at.ensures in
    let next = take_more specs k x less ∙ ap (λ (s : Spec). take k specs ++ s ∷ []) at in
    let R = IsStarted c.args.graph.now c.args.size in
    let b = g.M.Meter.ticks c.loop-k.meter in
    let d = g.M.Meter.ticks c.start.new.meter in
    record {
      started = subst (λ (l : List Spec). EachPair R l c.push.new.self.items) (sym next)
          (subst (λ (l : List AnyForest). EachPair R (take k specs ++ x ∷ []) l) (sym c.in_ok-push.ensures.items)
          (EachPair-push R (take k specs) c.loop-k.forests.items x c.in_ok-forest.forest c.loop-k.invariant.started c.in_ok-forest.ensures.started));
      visits = λ p of.
          rise_next (first_reach p) (g.M.Meter.ticks c.args.meter.now) b d k specs x less (c.loop-k.invariant.visits p of)
          (subst (λ (s : Spec). IsRise b d (first_reach p s)) (sym at) (c.start.ensures.visits p of));
      counted = counted_more (g.M.Meter.ticks c.args.meter.now) b d c.loop-k.invariant.counted c.start.ensures.counted;
    }
