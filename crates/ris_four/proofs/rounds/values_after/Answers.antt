use Rattle.std.proofs.Common.{◌≡◌, length, ap, arith, sym, ◌∙◌, subst}
use Rattle.ris_four.specs.Neighbours.{AreWithin}
use Rattle.ris_four.specs.Rounds.{next_values}
use Rattle.ris_four.proofs.RoundLemmas.{length-values_after, values_after-same}
use Rattle.ris_four.proofs.rounds.values_after.Goals as goal

pub next_values-requires-clause-lists : goal.next_values-requires-clause-lists
next_values-requires-clause-lists g c κs within =
    let A = g.A.Monotone in
    let same = length-values_after (A.step_of c.args.algo.now) (A.better_of c.args.algo.now) c.args.lists.now c.loop-done._done c.args.first.items in
    let table = ap length c.loop-done.invariant in
    let passed = ap length c.deref.ensures.value in
    let lists = c.requires.lists in
    omega arith

pub next_values-requires-clause-neighbours : goal.next_values-requires-clause-neighbours
next_values-requires-clause-neighbours g c κs within =
    let A = g.A.Monotone in
    let same = length-values_after (A.step_of c.args.algo.now) (A.better_of c.args.algo.now) c.args.lists.now c.loop-done._done c.args.first.items in
    let table = ap length c.loop-done.invariant in
    let passed = ap length c.deref.ensures.value in
    let count : length c.args.first.items ≡ length c.deref.result.now = omega arith in
    subst (λ n. AreWithin n c.args.lists.now) count c.requires.neighbours

pub returns-then-is_same : goal.returns-then-is_same
returns-then-is_same g c =
    let A = g.A.Monotone in
    let step = A.step_of c.args.algo.now in
    let better = A.better_of c.args.algo.now in
    let lists = c.args.lists.now in
    let values = c.loop-done.values.items in
    let done = c.loop-done-test.true in
    let round = c.in_ok-next.ensures ∙ ap (next_values step better lists) c.deref.ensures.value in
    let same = sym c.deref-in-loop-done.ensures.value ∙ c.is_same.ensures.0 c.if-is_same.true ∙ c.deref-in-loop-done-2.ensures.value in
    values_after-same step better lists c.args.first.items values c.in_ok-next.next.items c.loop-done._done c.args.rounds (omega arith)
    c.loop-done.invariant round same
