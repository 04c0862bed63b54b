-- What the laws of an analysis make of the values along a walk.
use Rattle.std.proofs.Common.{◌≡◌, ℕ, ◌+◌, ◌*◌, ◌≤◌, Bool, true, false, List, [], ◌∷◌, ◌++◌, length, Option, arith, refl, subst, ⊎_elim}
use Rattle.std.specs.List.{All}
use Rattle.std.proofs.lemmas.Bool.{cases_Bool, both_ways, false_from_ne_true}
use Rattle.std.proofs.lemmas.List.Elements.{All-head, All-tail}
use Rattle.ris_base.specs.declared.graphs.Triple.{Triple}
use Rattle.ris_algo.specs.Laws.{along, IsMonotone}

-- the value along one walk and then another is that along both
pub along-append : (step : ℕ → ℕ → ℕ) (c : ℕ) (w later : List Triple) → along step c (w ++ later) ≡ along step (along step c w) later
along-append step c [] later = refl
along-append step c (t ∷ rest) later = along-append step (step c t.weight) rest later

-- where a is not better than b and b not better than c, a is not better than c
pub not_better_transitive : {start : ℕ → Option ℕ} {step : ℕ → ℕ → ℕ} {better : ℕ → ℕ → Bool} → IsMonotone start step better
    → (a b c : ℕ) → better a b ≡ false → better b c ≡ false → better a c ≡ false
not_better_transitive {better = better} laws a b c ab bc =
    false_from_ne_true (better a c) (λ ac. ⊎_elim
    (λ (ba : better b a ≡ true). both_ways (better b c) bc (laws.transitive b a c ba ac))
    (λ (ba : better b a ≡ false). both_ways (better b c) bc (subst (λ (n : ℕ). better n c ≡ true) (laws.total a b ab ba) ac))
    (cases_Bool (better b a)))

-- where a is not better than b, it is not after the same walk either
pub along_not_better : {start : ℕ → Option ℕ} {step : ℕ → ℕ → ℕ} {better : ℕ → ℕ → Bool} → IsMonotone start step better
    → (a b : ℕ) (w : List Triple) → better a b ≡ false → better (along step a w) (along step b w) ≡ false
along_not_better laws a b [] h = h
along_not_better {step = step} laws a b (t ∷ rest) h =
    along_not_better laws (step a t.weight) (step b t.weight) rest (laws.monotone a b t.weight h)

-- the value along a walk is not better than that before it
pub along_never_better : {start : ℕ → Option ℕ} {step : ℕ → ℕ → ℕ} {better : ℕ → ℕ → Bool} → IsMonotone start step better
    → (c : ℕ) (w : List Triple) → better (along step c w) c ≡ false
along_never_better laws c [] = laws.irreflexive c
along_never_better {step = step} laws c (t ∷ rest) =
    not_better_transitive laws (along step (step c t.weight) rest) (step c t.weight) c (along_never_better laws (step c t.weight) rest) (laws.never_better c t.weight)

-- a bound on the value along a walk whose weights are at most m
pub along-bound : {start : ℕ → Option ℕ} {step : ℕ → ℕ → ℕ} {better : ℕ → ℕ → Bool} → IsMonotone start step better
    → (c m : ℕ) (w : List Triple) → All (λ t. t.weight ≤ m) w → along step c w ≤ c + length w * (m + 1)
along-bound laws c m [] h = omega arith
along-bound {step = step} laws c m (t ∷ rest) h =
    let here : t.weight ≤ m = All-head (λ t. t.weight ≤ m) t rest h in
    let more : along step (step c t.weight) rest ≤ step c t.weight + length rest * (m + 1) =
    along-bound laws (step c t.weight) m rest (All-tail (λ t. t.weight ≤ m) t rest h) in
    let one : step c t.weight ≤ c + t.weight + 1 = laws.step_small c t.weight in
    omega arith

-- of two values at most one is better than the other
pub not_better-back : {start : ℕ → Option ℕ} {step : ℕ → ℕ → ℕ} {better : ℕ → ℕ → Bool} → IsMonotone start step better
    → (a b : ℕ) → better a b ≡ true → better b a ≡ false
not_better-back {better = better} laws a b h =
    false_from_ne_true (better b a) (λ back. both_ways (better a a) (laws.irreflexive a) (laws.transitive a b a h back))

-- the step from a better value is the same where it isn't better than that from the other
pub step_same : {start : ℕ → Option ℕ} {step : ℕ → ℕ → ℕ} {better : ℕ → ℕ → Bool} → IsMonotone start step better
    → (a b w : ℕ) → better a b ≡ true → better (step a w) (step b w) ≡ false → step a w ≡ step b w
step_same {step = step} laws a b w improved stable =
    laws.total (step a w) (step b w) stable (laws.monotone b a w (not_better-back laws a b improved))
