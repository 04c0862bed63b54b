use Rattle.std.proofs.Common.{◌≡◌, ℕ, ◌+◌, List, [], ◌∷◌, ◌++◌, ◌∙◌, ap, sym, refl, add-one}
use Rattle.ris_base.specs.Lists.{numbers_below}
use Rattle.ris_replay.proofs.transcript_tests.opening.Goals as goal

-- no number is below 0
numbers_below-zero : numbers_below 0 ≡ []
unfolding numbers_below
numbers_below-zero = refl

-- one number more
numbers_below-next : (n : ℕ) → numbers_below (n + 1) ≡ numbers_below n ++ n ∷ []
unfolding numbers_below
numbers_below-next n = rw add-one refl

pub loop-x-init : goal.loop-x-init
loop-x-init c = c.new-vertices.ensures ∙ sym numbers_below-zero

pub loop-x-preserved : goal.loop-x-preserved
loop-x-preserved c =
    c.in_ok-push.ensures.ok ∙ ap (λ (xs : List ℕ). xs ++ c.loop-x.x ∷ []) c.loop-x.invariant ∙ sym (numbers_below-next c.loop-x.x)
