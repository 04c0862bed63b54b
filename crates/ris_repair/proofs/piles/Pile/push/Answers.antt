use Rattle.std.proofs.Common.{◌≡◌, ◌++◌, ◌∷◌, ℕ, List, rules, ap, sym, subst, ◌∙◌, IsPermutation, heap_items}
use Rattle.std.proofs.lemmas.List.Sorted.{IsPermutation-cons, IsPermutation-trans}
use Rattle.ris_repair.proofs.PileLemmas.{not_taken, was_taken}
use Rattle.ris_repair.proofs.RadixLemmas.{one_more}
use Rattle.ris_repair.proofs.piles.Pile.push.Goals as goal

pub returns-in_err-make_room-clause-unchanged : goal.returns-in_err-make_room-clause-unchanged
returns-in_err-make_room-clause-unchanged c =
    let heap = heap_items c.self.inside.heap in
    let radix = c.self.inside.radix in
    let kept : IsPermutation c.args.self.now c.make_room.new.self =
    subst (λ (old : List (ℕ × ℕ)). IsPermutation old c.make_room.new.self) c.self.view_is
    (subst (λ (new : List (ℕ × ℕ)). IsPermutation (radix ++ heap) new) (sym c.make_room.ensures)
    (not_taken radix c.push.new.self heap (c.args.priority, c.args.vertex) c.in_ok-push.field-0 c.if-not-branch.true c.in_ok-push.ensures.items)) in
    search rules

pub returns-in_err-push-2-clause-unchanged : goal.returns-in_err-push-2-clause-unchanged
returns-in_err-push-2-clause-unchanged c =
    let heap = heap_items c.self.inside.heap in
    let radix = c.self.inside.radix in
    let room = c.self-then-not-branch.inside in
    let e : room.radix ++ heap_items c.push-then-not-branch.new.self ≡ c.push.new.self ++ heap =
    ap (λ (xs : List (ℕ × ℕ)). room.radix ++ xs) c.in_err-push-2.ensures.unchanged.0 ∙ c.self-then-not-branch.view_is ∙ c.make_room.ensures in
    let kept : IsPermutation c.args.self.now (room.radix ++ heap_items c.push-then-not-branch.new.self) =
    subst (λ (old : List (ℕ × ℕ)). IsPermutation old (room.radix ++ heap_items c.push-then-not-branch.new.self)) c.self.view_is
    (subst (λ (new : List (ℕ × ℕ)). IsPermutation (radix ++ heap) new) (sym e)
    (not_taken radix c.push.new.self heap (c.args.priority, c.args.vertex) c.in_ok-push.field-0 c.if-not-branch.true c.in_ok-push.ensures.items)) in
    search rules

pub returns-in_ok-push-2-clause-items : goal.returns-in_ok-push-2-clause-items
returns-in_ok-push-2-clause-items c =
    let heap = heap_items c.self.inside.heap in
    let radix = c.self.inside.radix in
    let room = c.self-then-not-branch.inside in
    let item : ℕ × ℕ = (c.args.priority, c.args.vertex) in
    let kept = not_taken radix c.push.new.self heap item c.in_ok-push.field-0 c.if-not-branch.true c.in_ok-push.ensures.items in
    let e : c.push.new.self ++ heap ≡ room.radix ++ heap_items room.heap = sym (c.self-then-not-branch.view_is ∙ c.make_room.ensures) in
    let more = one_more room.radix (heap_items room.heap) (heap_items c.push-then-not-branch.new.self) item c.in_ok-push-2.ensures.permutation in
    let start : IsPermutation (item ∷ c.args.self.now) (item ∷ (room.radix ++ heap_items room.heap)) =
    IsPermutation-cons item c.args.self.now (room.radix ++ heap_items room.heap)
    (subst (λ (old : List (ℕ × ℕ)). IsPermutation old (room.radix ++ heap_items room.heap)) c.self.view_is
    (subst (λ (new : List (ℕ × ℕ)). IsPermutation (radix ++ heap) new) e kept)) in
    IsPermutation-trans (item ∷ c.args.self.now) (item ∷ (room.radix ++ heap_items room.heap)) (room.radix ++ heap_items c.push-then-not-branch.new.self) start more

pub returns-else-not-branch-clause-items : goal.returns-else-not-branch-clause-items
returns-else-not-branch-clause-items c =
    let heap = heap_items c.self.inside.heap in
    let radix = c.self.inside.radix in
    let item : ℕ × ℕ = (c.args.priority, c.args.vertex) in
    subst (λ (old : List (ℕ × ℕ)). IsPermutation (item ∷ old) (c.push.new.self ++ heap)) c.self.view_is
    (was_taken radix c.push.new.self heap item c.in_ok-push.field-0 c.if-not-branch.false c.in_ok-push.ensures.items)
