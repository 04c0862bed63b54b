use Rattle.std.proofs.Common.{rules, ◌≡◌, ◌≤◌, ◌++◌, ◌∷◌, ℕ, List, [], true, false, Option, Some, None, sym, subst, IsPermutation}
use Rattle.std.proofs.lemmas.Bool.{both_ways}
use Rattle.std.specs.Bool.{IsTrue}
use Rattle.std.specs.List.{All}
use Rattle.std.specs.Option.{IfNone}
use Rattle.std.proofs.lemmas.List.Elements.{All-nil, All-same, All-weaker}
use Rattle.std.proofs.lemmas.List.Sorted.{IsPermutation-trans, IsPermutation-append_left}
use Rattle.std.proofs.lemmas.Option.{IfSome_then}
use Rattle.ris_repair.specs.Queues.{is_above}
use Rattle.ris_repair.specs.Radix.{bucketed}
use Rattle.ris_repair.proofs.RadixLemmas.{all_below, none_waits, passed_all, first_top, first_radix, first_items, taken_below, taken_items, taken_radix, left_all, not_above}
use Rattle.ris_repair.proofs.radix.Radix.pop_above.Goals as goal

pub returns-in_default-clause-none : goal.returns-in_default-clause-none
returns-in_default-clause-none c =
    let Passed = λ (item : ℕ × ℕ). is_above c.args.bound item.0 ≡ false in
    let moving = c.settle.new.moving.items in
    let buckets = c.settle.new.buckets in
    All-same Passed (moving ++ bucketed buckets) [] (none_waits moving buckets c.in_ok-settle.ensures.moved c.in_default.ensures.none) (All-nil Passed)

pub invariant_of-self-in_default : goal.invariant_of-self-in_default
invariant_of-self-in_default c =
    (search rules, λ unused. none_waits c.settle.new.moving.items c.settle.new.buckets c.in_ok-settle.ensures.moved c.in_default.ensures.none)

pub returns-then-is_passed-clause-none : goal.returns-then-is_passed-clause-none
returns-then-is_passed-clause-none c =
    passed_all c.self.inside.last c.in-Some.number c.args.bound c.settle.new.moving.items c.settle.new.buckets c.in_ok-settle.ensures.moved
    c.settle.ensures.radix.placed c.in-Some.ensures.some (c.is_passed.ensures.passed c.if-is_passed.true)

pub invariant_of-self-then-number-eq0 : goal.invariant_of-self-then-number-eq0
invariant_of-self-then-number-eq0 c =
    let used : c.self.inside.used ≡ true = search rules in (
      first_radix c.self.inside.last c.settle.new.moving.items c.settle.new.buckets c.pop.new.self c.in-Some.number c.settle.ensures.radix c.in-Some.ensures.some
          c.if-number-eq0.true c.pop.ensures.rest c.pop.result c.pop.ensures.some c.pop.ensures.none,
      λ unused. absurd (both_ways c.self.inside.used unused used),
    )

pub returns-then-number-eq0-clause-items : goal.returns-then-number-eq0-clause-items
returns-then-number-eq0-clause-items c =
    let moving = c.settle.new.moving.items in
    let buckets = c.settle.new.buckets in
    first_items c.self.inside.last moving buckets c.pop.new.self c.in-Some.number c.settle.ensures.radix c.in-Some.ensures.some
    c.if-number-eq0.true c.pop.ensures.rest c.args.self.now c.pop.result c.pop.ensures.some
    (subst (λ (old : List (ℕ × ℕ)). IsPermutation old (moving ++ bucketed buckets)) c.self.view_is c.settle.ensures.items)

pub returns-then-number-eq0-clause-best : goal.returns-then-number-eq0-clause-best
returns-then-number-eq0-clause-best c =
    let last = c.self.inside.last in
    let moving = c.settle.new.moving.items in
    let buckets = c.settle.new.buckets in
    let new = c.pop.new.self in
    let radix = first_radix last moving buckets new c.in-Some.number c.settle.ensures.radix c.in-Some.ensures.some
    c.if-number-eq0.true c.pop.ensures.rest c.pop.result c.pop.ensures.some c.pop.ensures.none in
    IfSome_then c.pop.result
    (first_top last moving buckets new c.in-Some.number c.settle.ensures.radix c.in-Some.ensures.some c.if-number-eq0.true c.pop.ensures.rest c.pop.result
    c.pop.ensures.some)
    (λ top is. subst (λ (n : ℕ). All (λ (item : ℕ × ℕ). item.0 ≤ n) (moving ++ bucketed new)) (sym is) (all_below last moving new radix))

pub returns-then-number-eq0-clause-above : goal.returns-then-number-eq0-clause-above
returns-then-number-eq0-clause-above c =
    IfSome_then c.pop.result
    (first_top c.self.inside.last c.settle.new.moving.items c.settle.new.buckets c.pop.new.self c.in-Some.number c.settle.ensures.radix c.in-Some.ensures.some
    c.if-number-eq0.true c.pop.ensures.rest c.pop.result c.pop.ensures.some)
    (λ top is. subst (λ (n : ℕ). IsTrue (is_above c.args.bound n)) (sym is) (c.is_passed.ensures.not_passed c.if-is_passed.false))

pub take_greatest-requires-clause-below : goal.take_greatest-requires-clause-below
take_greatest-requires-clause-below c =
    taken_below c.self.inside.last c.settle.new.moving.items c.settle.new.buckets c.swap.new.self c.in-Some.number c.swap.new.other.items
    c.in_ok-settle.ensures.moved c.settle.ensures.radix c.in-Some.ensures.some c.swap.ensures.self_after c.swap.ensures.other_after

pub invariant_of-self-2 : goal.invariant_of-self-2
invariant_of-self-2 c =
    let used : c.self.inside.used ≡ true = search rules in
    let taken = c.swap.new.other.items in
    let left = c.take_greatest.new.items.items in
    let next = c.take_greatest.new.last in (
      taken_radix c.self.inside.last c.settle.new.moving.items c.settle.new.buckets c.swap.new.self c.in-Some.number taken
          c.in_ok-settle.ensures.moved c.settle.ensures.radix c.in-Some.ensures.some c.swap.ensures.self_after c.swap.ensures.other_after
          next left c.take_greatest.ensures.last_below c.take_greatest.ensures.last_falls
          (left_all (λ (item : ℕ × ℕ). item.0 ≤ next) taken left c.take_greatest.result c.take_greatest.ensures.items c.take_greatest.ensures.kept
          c.take_greatest.ensures.last_below),
      λ unused. absurd (both_ways c.self.inside.used unused used),
    )

-- the items of the bucket wait beside the others
beside : (c : goal.After-take_greatest) → IsPermutation c.args.self.now (c.swap.new.other.items ++ bucketed c.swap.new.self)
beside c =
    let moving = c.settle.new.moving.items in
    let buckets = c.settle.new.buckets in
    taken_items c.self.inside.last moving buckets c.swap.new.self c.in-Some.number c.swap.new.other.items
    c.in_ok-settle.ensures.moved c.settle.ensures.radix c.in-Some.ensures.some c.swap.ensures.self_after c.swap.ensures.other_after
    c.args.self.now (subst (λ (old : List (ℕ × ℕ)). IsPermutation old (moving ++ bucketed buckets)) c.self.view_is c.settle.ensures.items)

pub returns-clause-items : goal.returns-clause-items
returns-clause-items c =
    let taken = c.swap.new.other.items in
    let left = c.take_greatest.new.items.items in
    let others = bucketed c.swap.new.self in
    IfSome_then c.take_greatest.result c.take_greatest.ensures.items
    (λ top moved. IsPermutation-trans c.args.self.now (taken ++ others) (top ∷ (left ++ others)) (beside c)
    (IsPermutation-append_left others taken (top ∷ left) moved))

pub returns-clause-best : goal.returns-clause-best
returns-clause-best c =
    let left = c.take_greatest.new.items.items in
    let new = c.swap.new.self in
    IfSome_then c.take_greatest.result c.take_greatest.ensures.best
    (λ top is. subst (λ (n : ℕ). All (λ (item : ℕ × ℕ). item.0 ≤ n) (left ++ bucketed new)) is
    (all_below c.take_greatest.new.last left new (invariant_of-self-2 c).0))

-- what follows where nothing was found
none_then : (found : Option (ℕ × ℕ)) (P Q : Type 0) → IfNone found P → (P → Q) → IfNone found Q
none_then None P Q h then = then h
none_then (Some top) P Q h then = _

pub returns-clause-none : goal.returns-clause-none
returns-clause-none c =
    let left = c.take_greatest.new.items.items in
    let new = c.swap.new.self in
    let next = c.take_greatest.new.last in
    let Passed = λ (item : ℕ × ℕ). is_above c.args.bound item.0 ≡ false in
    none_then c.take_greatest.result (is_above c.args.bound next ≡ false) (All Passed (left ++ bucketed new)) c.take_greatest.ensures.none
    (λ passed. All-weaker (λ (item : ℕ × ℕ). item.0 ≤ next) Passed (λ item le. not_above c.args.bound item.0 next le passed) (left ++ bucketed new)
    (all_below next left new (invariant_of-self-2 c).0))

pub returns-clause-kept : goal.returns-clause-kept
returns-clause-kept c =
    let taken = c.swap.new.other.items in
    let left = c.take_greatest.new.items.items in
    let others = bucketed c.swap.new.self in
    none_then c.take_greatest.result (left ≡ taken) (IsPermutation c.args.self.now (left ++ others)) c.take_greatest.ensures.kept
    (λ is. subst (λ (xs : List (ℕ × ℕ)). IsPermutation c.args.self.now (xs ++ others)) (sym is) (beside c))
