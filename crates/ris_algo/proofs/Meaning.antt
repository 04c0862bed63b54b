-- What ties walks and their worth to the start values and steps of an analysis.
use Rattle.std.proofs.Common.{◌≡◌, ℕ, Bool, false, List, [], ◌∷◌, ◌++◌, Option, Some, None, refl, sym, subst, ap, ◌∙◌}
use Rattle.std.specs.Option.{IsSome}
use Rattle.std.proofs.lemmas.Bool.{false≢true, false_from_ne_true, both_ways as not_both}
use Rattle.ris_base.specs.Walk.{IsFirst, IsBetter, worth}
use Rattle.ris_base.specs.declared.analyses.Spec.{Spec}
use Rattle.ris_base.specs.declared.graphs.Format.{Format}
use Rattle.ris_base.specs.declared.graphs.PlainGraph.{PlainGraph}
use Rattle.ris_base.specs.declared.graphs.Triple.{Triple}
use Rattle.ris_algo.specs.Laws.{IsAnalysis}
use Rattle.ris_algo.proofs.Along.{along-append}

-- the value that is there
pub value_in : (o : Option ℕ) → IsSome o → (c : ℕ) × (o ≡ Some c)
value_in None h = absurd (false≢true h)
value_in (Some c) h = (c, refl)

-- a vertex at which walks may begin has a start value
pub start_from_first : {spec : Spec} {suits : Format → Type 0} {start : ℕ → Option ℕ} {step : ℕ → ℕ → ℕ} {better : ℕ → ℕ → Bool} {both : Bool}
    → IsAnalysis spec suits start step better both → (a : ℕ) → IsFirst spec a → (c : ℕ) × (start a ≡ Some c)
start_from_first {start = start} meaning a first = value_in (start a) ((meaning.begins a).0 first)

-- walks may begin at a vertex that has a start value
pub first_from_start : {spec : Spec} {suits : Format → Type 0} {start : ℕ → Option ℕ} {step : ℕ → ℕ → ℕ} {better : ℕ → ℕ → Bool} {both : Bool}
    → IsAnalysis spec suits start step better both → (a c : ℕ) → start a ≡ Some c → IsFirst spec a
first_from_start meaning a c h = (meaning.begins a).1 (subst (λ (o : Option ℕ). IsSome o) (sym h) refl)

-- what is not better by the comparison is not better by the definition
pub not_IsBetter : {spec : Spec} {suits : Format → Type 0} {start : ℕ → Option ℕ} {step : ℕ → ℕ → ℕ} {better : ℕ → ℕ → Bool} {both : Bool}
    → IsAnalysis spec suits start step better both → (a b : ℕ) → better a b ≡ false → ¬ (IsBetter spec.kind a b)
not_IsBetter {better = better} meaning a b h is = not_both (better a b) h ((meaning.compares a b).1 is)

-- what is not better by the definition is not better by the comparison
pub not_better : {spec : Spec} {suits : Format → Type 0} {start : ℕ → Option ℕ} {step : ℕ → ℕ → ℕ} {better : ℕ → ℕ → Bool} {both : Bool}
    → IsAnalysis spec suits start step better both → (a b : ℕ) → ¬ (IsBetter spec.kind a b) → better a b ≡ false
not_better {better = better} meaning a b never = false_from_ne_true (better a b) (λ h. never ((meaning.compares a b).0 h))

-- a walk with no triple is worth the start value
pub worth-none : {spec : Spec} {suits : Format → Type 0} {start : ℕ → Option ℕ} {step : ℕ → ℕ → ℕ} {better : ℕ → ℕ → Bool} {both : Bool}
    → IsAnalysis spec suits start step better both → (g : PlainGraph) → suits g.format → (a c : ℕ) → start a ≡ Some c
    → worth g spec.kind (record { first = a; triples = [] }) ≡ c
worth-none meaning g fits a c e = meaning.reaches g (record { first = a; triples = [] }) c fits e

-- one more triple is one more step of the worth
pub worth-push : {spec : Spec} {suits : Format → Type 0} {start : ℕ → Option ℕ} {step : ℕ → ℕ → ℕ} {better : ℕ → ℕ → Bool} {both : Bool}
    → IsAnalysis spec suits start step better both → (g : PlainGraph) → suits g.format → (a : ℕ) (ts : List Triple) (t : Triple) → IsFirst spec a
    → worth g spec.kind (record { first = a; triples = ts ++ t ∷ [] }) ≡ step (worth g spec.kind (record { first = a; triples = ts })) t.weight
worth-push {step = step} meaning g fits a ts t first =
    let s = start_from_first meaning a first in
    let whole = meaning.reaches g (record { first = a; triples = ts ++ t ∷ [] }) s.0 fits s.1 in
    let part = meaning.reaches g (record { first = a; triples = ts }) s.0 fits s.1 in
    whole ∙ along-append step s.0 ts (t ∷ []) ∙ ap (λ n. step n t.weight) (sym part)
