use Rattle.std.proofs.Common.{◌≡◌, ◌++◌, ◌∷◌, ℕ, List, false, Option, Some, rules, subst, IfSome, IfNone, IsPermutation, heap_items}
use Rattle.std.proofs.lemmas.List.Sorted.{IsPermutation-append_left}
use Rattle.std.proofs.lemmas.Option.{IfSome_then}
use Rattle.std.proofs.lemmas.Result.{on_err_weaker}
use Rattle.std.specs.List.{All}
use Rattle.ris_repair.specs.Queues.{is_above}
use Rattle.ris_repair.proofs.PileLemmas.{all_up_to, popped, popped_best, some_then, none_then}
use Rattle.ris_repair.proofs.piles.Pile.pop_above.Goals as goal

pub returns-in_default-clause-items : goal.returns-in_default-clause-items
returns-in_default-clause-items c =
    let radix = c.self.inside.radix in
    let new = c.pop_above.new.self in
    let heap = heap_items c.self.inside.heap in
    some_then c.pop_above.result (λ (top : ℕ × ℕ). IsPermutation radix (top ∷ new)) (λ (top : ℕ × ℕ). IsPermutation c.args.self.now (top ∷ (new ++ heap)))
    c.pop_above.ensures.items
    (λ top h. subst (λ (old : List (ℕ × ℕ)). IsPermutation old (top ∷ (new ++ heap))) c.self.view_is (IsPermutation-append_left heap radix (top ∷ new) h))

pub returns-in_default-clause-kept : goal.returns-in_default-clause-kept
returns-in_default-clause-kept c =
    let radix = c.self.inside.radix in
    let new = c.pop_above.new.self in
    let heap = heap_items c.self.inside.heap in
    none_then c.pop_above.result (IsPermutation radix new) (IsPermutation c.args.self.now (new ++ heap)) c.pop_above.ensures.kept
    (λ h. subst (λ (old : List (ℕ × ℕ)). IsPermutation old (new ++ heap)) c.self.view_is (IsPermutation-append_left heap radix new h))

pub returns-in_default-clause-unchanged : goal.returns-in_default-clause-unchanged
returns-in_default-clause-unchanged c =
    let radix = c.self.inside.radix in
    let new = c.pop_above.new.self in
    let heap = heap_items c.self.inside.heap in
    on_err_weaker c.pop_above.result
    (λ h. subst (λ (old : List (ℕ × ℕ)). IsPermutation old (new ++ heap)) c.self.view_is (IsPermutation-append_left heap radix new h))
    c.pop_above.ensures.unchanged

pub returns-in_err-found-clause-unchanged : goal.returns-in_err-found-clause-unchanged
returns-in_err-found-clause-unchanged c =
    let radix = c.self.inside.radix in
    let new = c.pop_above-2.new.self in
    let heap = heap_items c.self.inside.heap in
    let kept : IsPermutation c.args.self.now (new ++ heap) =
    subst (λ (old : List (ℕ × ℕ)). IsPermutation old (new ++ heap)) c.self.view_is (IsPermutation-append_left heap radix new c.in_err-found.ensures.unchanged) in
    search rules

pub returns-in-Some-2-clause-items : goal.returns-in-Some-2-clause-items
returns-in-Some-2-clause-items c =
    let radix = c.self.inside.radix in
    let new = c.pop_above-2.new.self in
    let heap = heap_items c.self.inside.heap in
    let top = c.in-Some-2.found in
    let less = subst (λ (found : Option (ℕ × ℕ)). IfSome found (λ item. IsPermutation radix (item ∷ new))) c.in-Some-2.is c.in_ok-found.ensures.items in
    subst (λ (old : List (ℕ × ℕ)). IsPermutation old (top ∷ (new ++ heap))) c.self.view_is (IsPermutation-append_left heap radix (top ∷ new) less)

pub returns-in-None-clause-items : goal.returns-in-None-clause-items
returns-in-None-clause-items c =
    let radix = c.self.inside.radix in
    let new = c.pop_above-2.new.self in
    let heap = heap_items c.self.inside.heap in
    let left = heap_items c.pop.new.self in
    let kept = subst (λ (found : Option (ℕ × ℕ)). IfNone found (IsPermutation radix new)) c.in-None.is c.in_ok-found.ensures.kept in
    IfSome_then c.pop.result c.pop.ensures.permutation
    (λ top less. subst (λ (old : List (ℕ × ℕ)). IsPermutation old (top ∷ (new ++ left))) c.self.view_is (popped radix new heap left top kept less))

pub returns-in-None-clause-best : goal.returns-in-None-clause-best
returns-in-None-clause-best c =
    let new = c.pop_above-2.new.self in
    let heap = heap_items c.self.inside.heap in
    let top = c.in-Some.top in
    let none = subst (λ (found : Option (ℕ × ℕ)). IfNone found (All (λ item. is_above (Some top) item.0 ≡ false) new)) c.in-None.is c.in_ok-found.ensures.none in
    popped_best new heap (heap_items c.pop.new.self) top c.pop.result (all_up_to new top none) c.in-Some.ensures.best c.in-Some.ensures.first.1 c.pop.ensures.top
    c.pop.ensures.permutation
