use Rattle.std.proofs.Common.{◌≡◌, ◌+◌, ◌-◌, arith, sym, ap, ◌∙◌, take}
use Rattle.std.proofs.lemmas.List.{length-set}
use Rattle.ris_history.specs.Chains.{with_changes}
use Rattle.ris_history.proofs.ChangeLemmas.{bound_of-at, back-taken, back-left}
use Rattle.ris_history.proofs.pushes.take_back.Goals as goal

pub index_mut-requires : goal.index_mut-requires
index_mut-requires c =
    let at = bound_of-at c.args.analyses c.args.changes.now (c.loop-k.k - 1) c.at-change.result.now c.at-change.ensures (sym c.is_taken.ensures ∙ c.if-is_taken.true) in
    let room = c.loop-k.invariant.room in let e = c.number.ensures.value in let len = c.loop-k.chains.ok.0 in
    omega arith

pub loop-k-preserved-then-is_taken : goal.loop-k-preserved-then-is_taken
loop-k-preserved-then-is_taken c =
    let n = c.args.analyses in
    let d = c.at-change.result.now in
    let ds = c.args.changes.now in
    let cs = c.loop-k.chains.items in
    let v = c.index_mut.result.now in
    let taken = sym c.is_taken.ensures ∙ c.if-is_taken.true in
    let at = bound_of-at n ds (c.loop-k.k - 1) d c.at-change.ensures taken in
    let same = length-set cs c.number.result c.pop.new.self in
    let room = c.loop-k.invariant.room in
    let last : c.loop-k.k ≡ c.loop-k.k - 1 + 1 = (let h = c.loop-k-test.true in omega arith) in
    record {
      room = omega arith;
      chains = λ place before is.
          rw c.number.ensures.value (back-taken n place (c.loop-k.k - 1) before cs ds d v c.pop.new.self c.at-change.ensures taken
          (c.loop-k.invariant.chains place before is ∙ ap (λ k. with_changes n place before (take k ds)) last)
          (omega arith) (rw c.number.ensures.value at c.index_mut.ensures.value) c.pop.ensures);
    }

pub loop-k-preserved : goal.loop-k-preserved
loop-k-preserved c =
    let n = c.args.analyses in
    let ds = c.args.changes.now in
    let last : c.loop-k.k ≡ c.loop-k.k - 1 + 1 = (let h = c.loop-k-test.true in omega arith) in
    record {
      room = c.loop-k.invariant.room;
      chains = λ place before is.
          back-left n place (c.loop-k.k - 1) before c.loop-k.chains.items ds c.at-change.result.now c.at-change.ensures (sym c.is_taken.ensures ∙ c.if-is_taken.false)
          (c.loop-k.invariant.chains place before is ∙ ap (λ k. with_changes n place before (take k ds)) last);
    }
