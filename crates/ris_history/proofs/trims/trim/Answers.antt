use Rattle.std.proofs.Common.{◌≡◌, ◌-◌, List, set, arith, sym, ◌∙◌, subst}
use Rattle.std.specs.List.{All}
use Rattle.std.proofs.lemmas.List.Elements.{All-tail}
use Rattle.ris_history.specs.Chains.{advanced}
use Rattle.ris_history.specs.Sound.{AreInOrder, IsDueBy}
use Rattle.ris_history.specs.declared.trims.Due.{Due}
use Rattle.ris_history.proofs.DueLemmas.{due-within, trimmed-step, order-step, trimmed-past, left-past}
use Rattle.ris_history.proofs.trims.trim.Goals as goal

pub index_mut-requires : goal.index_mut-requires
index_mut-requires c =
    let order = subst (λ (qs : List Due). AreInOrder qs c.loop-due.chains.items c.loop-due.kept) c.in-Some.ensures.0 c.loop-due.invariant.order in
    let within = due-within c.in-Some.due c.take_due.new.dues.items c.loop-due.chains.items c.loop-due.kept order in
    let size = c.loop-due.chains.ok.0 in
    omega arith

pub overflow_sub-kept : goal.overflow_sub-kept
overflow_sub-kept c =
    let order = subst (λ (qs : List Due). AreInOrder qs c.loop-due.chains.items c.loop-due.kept) c.in-Some.ensures.0 c.loop-due.invariant.order in
    let step = order-step c.in-Some.due c.take_due.new.dues.items c.loop-due.chains.items c.index_mut.result.now c.loop-due.kept order c.index_mut.ensures.value in
    rw (sym c.advance.ensures.dropped ∙ c.if-advance.true) at step.1

pub loop-due-preserved-then-advance : goal.loop-due-preserved-then-advance
loop-due-preserved-then-advance c =
    let f = c.args.floor in
    let cs = c.loop-due.chains.items in
    let v = c.index_mut.result.now in
    let due = c.in-Some.due in
    let rest = c.take_due.new.dues.items in
    let order = subst (λ (qs : List Due). AreInOrder qs c.loop-due.chains.items c.loop-due.kept) c.in-Some.ensures.0 c.loop-due.invariant.order in
    let step = order-step due rest cs v c.loop-due.kept order c.index_mut.ensures.value in
    record {
      order = rw c.advance.ensures.after (rw (sym c.advance.ensures.dropped ∙ c.if-advance.true) at step.0);
      chains = rw c.advance.ensures.after (trimmed-step f due rest cs v c.loop-due.kept order c.in-Some.ensures.1 c.index_mut.ensures.value ∙ c.loop-due.invariant.chains);
      ends = λ n h. All-tail (IsDueBy n) due rest (subst (All (IsDueBy n)) c.in-Some.ensures.0 (c.loop-due.invariant.ends n h));
    }

pub loop-due-preserved : goal.loop-due-preserved
loop-due-preserved c =
    let f = c.args.floor in
    let cs = c.loop-due.chains.items in
    let v = c.index_mut.result.now in
    let due = c.in-Some.due in
    let rest = c.take_due.new.dues.items in
    let order = subst (λ (qs : List Due). AreInOrder qs c.loop-due.chains.items c.loop-due.kept) c.in-Some.ensures.0 c.loop-due.invariant.order in
    let step = order-step due rest cs v c.loop-due.kept order c.index_mut.ensures.value in
    let same : c.loop-due.kept - 0 ≡ c.loop-due.kept = omega arith in
    record {
      order = rw c.advance.ensures.after (subst (λ k. AreInOrder rest (set cs due.chain (advanced v)) k) same (rw (sym c.advance.ensures.dropped ∙ c.if-advance.false) at step.0));
      chains = rw c.advance.ensures.after (trimmed-step f due rest cs v c.loop-due.kept order c.in-Some.ensures.1 c.index_mut.ensures.value ∙ c.loop-due.invariant.chains);
      ends = λ n h. All-tail (IsDueBy n) due rest (subst (All (IsDueBy n)) c.in-Some.ensures.0 (c.loop-due.invariant.ends n h));
    }

pub returns : goal.returns
returns c =
    let same = left-past c.args.floor c.loop-due.dues.items c.take_due.new.dues.items c.in_default.ensures in
    record {
      chains = sym (trimmed-past c.args.floor c.loop-due.dues.items c.take_due.new.dues.items c.loop-due.chains.items c.loop-due.kept c.loop-due.invariant.order c.in_default.ensures)
          ∙ c.loop-due.invariant.chains;
      order = subst (λ (qs : List Due). AreInOrder qs c.loop-due.chains.items c.loop-due.kept) (sym same) c.loop-due.invariant.order;
      ends = λ n h. subst (All (IsDueBy n)) (sym same) (c.loop-due.invariant.ends n h);
    }
