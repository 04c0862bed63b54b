-- The best of a line and a pile.
use Rattle.std.proofs.Common.{ℕ, ◌∷◌, ◌++◌, Option, subst}
use Rattle.std.specs.List.Sorted.{IsPermutation}
use Rattle.std.specs.Option.{IfSome}
use Rattle.std.proofs.lemmas.List.Sorted.{IsPermutation-append_right}
use Rattle.ris_repair.proofs.FoundLemmas.{on_err}
use Rattle.ris_repair.proofs.PartLemmas.{taken_pile, taken_line, none_waits}
use Rattle.ris_repair.proofs.lined_piles.pop_better.Goals as goal

pub returns-in_err-top-clause-unchanged : goal.returns-in_err-top-clause-unchanged
returns-in_err-top-clause-unchanged c =
    on_err c.from_residual.result (IsPermutation (c.args.line.now ++ c.args.pile.now) (c.args.line.now ++ c.pop_above.new.self))
    (IsPermutation-append_right c.args.line.now c.args.pile.now c.pop_above.new.self c.in_err-top.ensures.unchanged)

pub returns-in-Some-clause-items : goal.returns-in-Some-clause-items
returns-in-Some-clause-items c =
    taken_pile c.in-Some.top c.args.line.now c.args.pile.now c.pop_above.new.self
    (subst (λ (found : Option (ℕ × ℕ)). IfSome found (λ top. IsPermutation c.args.pile.now (top ∷ c.pop_above.new.self))) c.in-Some.is c.in_ok-top.ensures.items)

pub returns-clause-items : goal.returns-clause-items
returns-clause-items c =
    rw (c.pop.ensures.item, c.pop.ensures.rest) (taken_line c.args.line.now c.args.pile.now c.pop_above.new.self (rw c.in_default.is at c.in_ok-top.ensures.kept))

pub returns-clause-none : goal.returns-clause-none
returns-clause-none c =
    rw c.pop.ensures.item (none_waits c.args.line.now c.args.pile.now c.pop_above.new.self c.best-bound.result c.best-bound.ensures.front
    (rw c.in_default.is at c.in_ok-top.ensures.kept) (rw c.in_default.is at c.in_ok-top.ensures.none))
