use Rattle.std.proofs.Common.{◌<◌, ◌≤◌, length, take, arith, sym, subst}
use Rattle.std.specs.List.{All}
use Rattle.std.proofs.lemmas.List.{take_all, take_more_set}
use Rattle.std.proofs.lemmas.List.Elements.{All-push, All-set}
use Rattle.ris_base.specs.Limits.{vertex_limit}
use Rattle.ris_analysis.specs.AnyForest.{cells_of}
use Rattle.ris_analysis.specs.declared.kinds.AnyForest.{AnyForest}
use Rattle.ris_analysis.proofs.GrownLemmas.{IsGrown-none, IsGrown-set}
use Rattle.ris_analysis.proofs.lists.make_room.Goals as goal

pub loop-forest-init : goal.loop-forest-init
loop-forest-init c = record { ok = λ k d less. absurd (omega arith); grown = IsGrown-none c.args.forests.now; few = λ h all. all }

pub returns-in_err-make_room-clause-grown : goal.returns-in_err-make_room-clause-grown
returns-in_err-make_room-clause-grown c =
    let less : c.loop-forest.forest-index < length c.loop-forest.forests = omega arith in
    IsGrown-set c.args.forests.now c.loop-forest.forests c.loop-forest.forest-index c.forest-item.result c.make_room.new.self less c.loop-forest.invariant.grown
    c.make_room.ensures.grown

pub loop-forest-preserved : goal.loop-forest-preserved
loop-forest-preserved c =
    let ones = c.loop-forest.forests in
    let k = c.loop-forest.forest-index in
    let new = c.make_room.new.self in
    let less : c.loop-forest.forest-index < length c.loop-forest.forests = omega arith in
    record {
      ok = subst (All (λ (one : AnyForest). c.args.size ≤ length (cells_of one))) (sym (take_more_set ones k new less))
          (All-push (λ (one : AnyForest). c.args.size ≤ length (cells_of one)) (take k ones) new c.loop-forest.invariant.ok c.in_ok-make_room.ensures.room);
      grown = IsGrown-set c.args.forests.now ones k c.forest-item.result new less c.loop-forest.invariant.grown
          c.make_room.ensures.grown;
      few = λ h all.
          let before = c.loop-forest.invariant.few h all in
          All-set (λ (one : AnyForest). length (cells_of one) ≤ vertex_limit) ones k new
          (c.make_room.ensures.few h (before k c.forest-item.result less)) before;
    }

pub returns-clause-ok : goal.returns-clause-ok
returns-clause-ok c =
    let past : length c.loop-forest.forests ≤ c.loop-forest.forest-index = omega arith in
    subst (All (λ (one : AnyForest). c.args.size ≤ length (cells_of one))) (take_all c.loop-forest.forest-index c.loop-forest.forests past) c.loop-forest.invariant.ok
