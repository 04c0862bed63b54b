-- The vertex stands at the end of a line or in the pile, and nothing else moves.
use Rattle.std.proofs.Common.{ℕ, List, ◌∷◌, ◌++◌, sym, subst}
use Rattle.std.specs.List.Sorted.{IsPermutation}
use Rattle.std.proofs.lemmas.List.Sorted.{IsPermutation-append_right}
use Rattle.std.proofs.lemmas.Result.{on_ok_weaker, on_err_weaker}
use Rattle.ris_repair.proofs.PartLemmas.{joined_first, joined_second, joined_pile}
use Rattle.ris_repair.proofs.lined_piles.LinedPile.push.Goals as goal

pub returns-then-takes-clause-items : goal.returns-then-takes-clause-items
returns-then-takes-clause-items c =
    let q = c.self.inside in
    let x : ℕ × ℕ = (c.args.priority, c.args.vertex) in
    rw (← c.self.view_is) (on_ok_weaker c.push.result
    (λ last. subst (λ (xs : List (ℕ × ℕ)). IsPermutation (x ∷ ((q.first ++ q.second) ++ q.pile)) ((xs ++ q.second) ++ q.pile)) (sym last) (joined_first x q.first q.second q.pile))
    c.push.ensures.items)

pub returns-then-takes-2-clause-items : goal.returns-then-takes-2-clause-items
returns-then-takes-2-clause-items c =
    let q = c.self.inside in
    let x : ℕ × ℕ = (c.args.priority, c.args.vertex) in
    rw (← c.self.view_is) (on_ok_weaker c.push-then-takes-2.result
    (λ last. subst (λ (xs : List (ℕ × ℕ)). IsPermutation (x ∷ ((q.first ++ q.second) ++ q.pile)) ((q.first ++ xs) ++ q.pile)) (sym last) (joined_second x q.first q.second q.pile))
    c.push-then-takes-2.ensures.items)

pub returns-clause-items : goal.returns-clause-items
returns-clause-items c =
    let q = c.self.inside in
    rw (← c.self.view_is) (on_ok_weaker c.push-2.result
    (joined_pile (c.args.priority, c.args.vertex) q.first q.second q.pile c.push-2.new.self)
    c.push-2.ensures.items)

pub returns-clause-unchanged : goal.returns-clause-unchanged
returns-clause-unchanged c =
    let q = c.self.inside in
    rw (← c.self.view_is) (on_err_weaker c.push-2.result (IsPermutation-append_right (q.first ++ q.second) q.pile c.push-2.new.self) c.push-2.ensures.unchanged)
