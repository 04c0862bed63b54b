-- A step from a vertex that stands as it was, offered or left as it is.
use Rattle.std.proofs.Common.{◌≡◌, ℕ, Bool, true, false, not, ◌&&◌, inl, inr, List, Option, Some, None, refl, sym, ap, ◌∙◌}
use Rattle.std.proofs.lemmas.Bool.{cases_Bool, cases_eq}
use Rattle.ris_base.specs.Analysis.{step}
use Rattle.ris_base.specs.Forest.{Forest, Joins}
use Rattle.ris_base.specs.Graph.{HasVertex, HasTriple}
use Rattle.ris_base.specs.Safe.{beats, improves}
use Rattle.ris_base.specs.Walk.{both_ways}
use Rattle.ris_base.specs.declared.graphs.PlainGraph.{PlainGraph}
use Rattle.ris_base.specs.declared.graphs.Triple.{Triple}
use Rattle.ris_base.specs.declared.analyses.Kind.{Kind}
use Rattle.ris_base.specs.declared.analyses.Spec.{Spec}
use Rattle.ris_base.specs.declared.analyses.Value.{Value}
use Rattle.ris_base.specs.declared.analyses.Value.TheVariants.{Absent, Unreached, Num}
use Rattle.ris_base.specs.declared.forests.Parent.TheVariants as parent
use Rattle.ris_algo.proofs.Offers.{improves-number, improves-no_more}
use Rattle.ris_repair.specs.Changes.{state_of, value_or, is_number, is_settled, is_waiting, is_better, standing_value, IsImproved, IsSame}
use Rattle.ris_repair.specs.Crossing.{crosses, crossed}
use Rattle.ris_repair.specs.Stages.{IsPrepared}
use Rattle.ris_repair.specs.declared.stores.Change.{Change}
use Rattle.ris_repair.proofs.OfferLemmas.{better_parts, other, offered_state, carried_offer, kept_same}

-- what isn't a number improves nothing
pub improves-none : (kind : Kind) (v : Value) (w : ℕ) (to : Value) → is_number v ≡ false → improves kind v w to ≡ false
improves-none kind Absent w to h = refl
improves-none kind Unreached w to h = refl
improves-none kind (Num c) w to h = absurd (cc)

-- what isn't settled and doesn't wait isn't a number
not_number : (v : Value) (s : Bool) → s ≡ false → (is_number v && not s) ≡ false → is_number v ≡ false
not_number Absent s free idle = refl
not_number Unreached s free idle = refl
not_number (Num c) true free idle = absurd (cc)
not_number (Num c) false free idle = absurd (cc)

-- what isn't better than a vertex that isn't settled doesn't beat it
not_beaten : (kind : Kind) (F : Forest) (old : ℕ → Option Change) (y number : ℕ) → is_settled (old y) ≡ false → is_better kind F old y number ≡ false
    → beats kind number (value_or (F.value y) (old y)) ≡ false
not_beaten kind F old y number free lost = rw free at lost

module _ (g : PlainGraph) (spec : Spec) (F : Forest) (n : ℕ) (fallen : List ℕ) (old new : ℕ → Option Change) (queue queue2 : List (ℕ × ℕ))
    (todo : Triple → ℕ → ℕ → Type 0) (a y : ℕ) (t : Triple) (P : IsPrepared g spec F n fallen old queue todo)
    (vertex : HasVertex g y) (has : HasTriple g t) (joins : Joins (both_ways spec.kind) t a y) where
  -- what holds after the step, and that the triple improves nothing from a vertex that doesn't wait
  abbrev pub Crossed : (ℕ → Option Change) → List (ℕ × ℕ) → Type 0
  Crossed f q =
      IsPrepared g spec F n fallen f q todo
      × (is_waiting (f a) ≡ false → improves spec.kind (value_or (F.value a) (f a)) t.weight (value_or (F.value y) (f y)) ≡ false)

  same_case : IsSame old queue new queue2
      → (is_waiting (old a) ≡ false → improves spec.kind (value_or (F.value a) (old a)) t.weight (value_or (F.value y) (old y)) ≡ false) → Crossed new queue2
  same_case same idle = kept_same Crossed old new queue queue2 same (P, idle)

  better_case : (c : ℕ) → value_or (F.value a) (old a) ≡ Num c → is_better spec.kind F old y (step spec.kind c t.weight) ≡ true
      → IsImproved spec.kind old queue y (step spec.kind c t.weight) (parent.From a t.source t.target t.weight) new queue2 → Crossed new queue2
  better_case c number won i =
      let p = parent.From a t.source t.target t.weight in
      let parts = better_parts spec.kind F old y (step spec.kind c t.weight) won in
      let O = offered_state spec.kind F old new queue queue2 y (step spec.kind c t.weight) p i parts.0 in (
        record {
          carried = carried_offer g spec F n fallen old new queue queue2 todo a c y t P.carried number vertex has joins won i;
          fresh = λ x. elim (cases_eq x y) [
            | inl e ↦ ap (λ (z : ℕ). is_settled (new z)) e ∙ O.settled
            | inr ne ↦ ap is_settled (other spec.kind F old new queue queue2 y (step spec.kind c t.weight) p i x ne) ∙ P.fresh x
          ];
        },
        λ idle. improves-no_more g spec (state_of F old) (state_of F new) todo a c y t P.carried.spreading number vertex has joins parts.1 O,
      )

  by_value : (v : Value) → ((c : ℕ) → v ≡ Num c → value_or (F.value a) (old a) ≡ Num c)
      → (is_number v ≡ false → is_waiting (old a) ≡ false → is_number (value_or (F.value a) (old a)) ≡ false)
      → (crosses spec.kind F old v t.weight y ≡ true
      → IsImproved spec.kind old queue y (crossed spec.kind v t.weight) (parent.From a t.source t.target t.weight) new queue2)
      → (crosses spec.kind F old v t.weight y ≡ false → IsSame old queue new queue2) → Crossed new queue2
  by_value Absent source none improved same =
      same_case (same refl) (λ idle. improves-none spec.kind (value_or (F.value a) (old a)) t.weight (value_or (F.value y) (old y)) (none refl idle))
  by_value Unreached source none improved same =
      same_case (same refl) (λ idle. improves-none spec.kind (value_or (F.value a) (old a)) t.weight (value_or (F.value y) (old y)) (none refl idle))
  by_value (Num c) source none improved same = elim (cases_Bool (is_better spec.kind F old y (step spec.kind c t.weight))) [
    | inl won ↦ better_case c (source c refl) won (improved won)
    | inr lost ↦ same_case (same lost) (λ idle. improves-number spec.kind (value_or (F.value a) (old a)) (value_or (F.value y) (old y)) t.weight c (source c refl)
        (not_beaten spec.kind F old y (step spec.kind c t.weight) (P.fresh y) lost))
  ]

  abbrev Improved : Option Change → Type 0
  Improved o =
      crosses spec.kind F old (standing_value (F.value a) o) t.weight y ≡ true
      → IsImproved spec.kind old queue y (crossed spec.kind (standing_value (F.value a) o) t.weight) (parent.From a t.source t.target t.weight) new queue2

  abbrev Same : Option Change → Type 0
  Same o = crosses spec.kind F old (standing_value (F.value a) o) t.weight y ≡ false → IsSame old queue new queue2

  go : (o : Option Change) → old a ≡ o → Improved o → Same o → Crossed new queue2
  go None e improved same =
      by_value (F.value a) (λ c h. ap (value_or (F.value a)) e ∙ h) (λ off idle. ap (λ (k : Option Change). is_number (value_or (F.value a) k)) e ∙ off) improved same
  go (Some ch) e improved same =
      by_value Absent (λ c h. absurd (cc))
      (λ off idle. ap (λ (k : Option Change). is_number (value_or (F.value a) k)) e
      ∙ not_number ch.value ch.settled (ap is_settled (sym e) ∙ P.fresh a) (ap is_waiting (sym e) ∙ idle))
      improved same

  -- a step from a vertex that stands, offered where it is better
  pub across : Improved (old a) → Same (old a) → Crossed new queue2
  across improved same = go (old a) refl improved same
