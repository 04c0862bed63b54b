-- What a vertex has while its row is pulled, beside the table of changes.
use Rattle.std.proofs.Common.{◌≡◌, ℕ, Bool, true, false, not, ◌&&◌, ◌==◌, if◌then◌else◌, inl, inr, List, ◌∷◌, Option, Some, None, refl, sym, subst, ap, ◌∙◌}
use Rattle.std.specs.Option.{IsSome}
use Rattle.std.proofs.Math.Path.{fun_ext}
use Rattle.std.proofs.lemmas.Bool.{cases_Bool, cases_eq, eq-eqb, ne_eqb, both_ways as not_both}
use Rattle.std.proofs.lemmas.List.Sorted.{IsPermutation-refl}
use Rattle.ris_base.specs.Analysis.{step}
use Rattle.ris_base.specs.Forest.{Forest}
use Rattle.ris_base.specs.Safe.{beats}
use Rattle.ris_base.specs.declared.graphs.PlainGraph.{PlainGraph}
use Rattle.ris_base.specs.declared.graphs.Triple.{Triple}
use Rattle.ris_base.specs.declared.analyses.Kind.{Kind}
use Rattle.ris_base.specs.declared.analyses.Spec.{Spec}
use Rattle.ris_base.specs.declared.analyses.Value.{Value}
use Rattle.ris_base.specs.declared.analyses.Value.TheVariants.{Absent, Unreached, Num}
use Rattle.ris_base.specs.declared.forests.Parent.TheVariants as parent
use Rattle.ris_rows.specs.declared.neighbours.Neighbour.{Neighbour}
use Rattle.ris_repair.specs.Changes.{value_or, is_number, is_settled, standing_value, with_change}
use Rattle.ris_repair.specs.Crossing.{crosses, crossed, pulled}
use Rattle.ris_repair.specs.Priority.{priority_of}
use Rattle.ris_repair.specs.Rows.{IsOrigin, triple_of}
use Rattle.ris_repair.specs.Stages.{IsPrepared, unpulled}
use Rattle.ris_repair.specs.declared.stores.Change.{Change}
use Rattle.ris_repair.proofs.OfferLemmas.{better_parts}
use Rattle.ris_repair.proofs.PullLemmas.{pulled_item}

-- The table with another change of one vertex

module _ (f : ℕ → Option Change) (x : ℕ) (c : Change) where
  with_here : (y : ℕ) → x ≡ y → with_change f x c y ≡ Some c
  with_here y e = ap (λ (b : Bool). if b then Some c else f y) (eq-eqb x y e)

  with_other : (y : ℕ) → (x == y) ≡ false → with_change f x c y ≡ f y
  with_other y off = ap (λ (b : Bool). if b then Some c else f y) off

  -- a table that differs there alone
  pub with_from : (g : ℕ → Option Change) → g x ≡ Some c → ((y : ℕ) → (x == y) ≡ false → g y ≡ f y) → with_change f x c ≡ g
  with_from g here others = fun_ext (λ y. elim (cases_eq x y) [
    | inl e ↦ with_here y e ∙ sym here ∙ ap g e
    | inr ne ↦ with_other y (ne_eqb x y ne) ∙ sym (others y (ne_eqb x y ne))
  ])

  -- the same change
  pub with_same : f x ≡ Some c → with_change f x c ≡ f
  with_same is = with_from f is (λ y off. refl)

  some_standing : (v : Value) (o : Option Change) → IsSome o → standing_value v o ≡ Absent
  some_standing v None h = absurd (cc)
  some_standing v (Some k) h = refl

  -- a vertex that has a change doesn't stand in either
  with_standing : (v : Value) (y : ℕ) → IsSome (f x) → standing_value v (f y) ≡ standing_value v (with_change f x c y)
  with_standing v y has = elim (cases_eq x y) [
    | inl e ↦ some_standing v (f y) (subst (λ (k : ℕ). IsSome (f k)) e has) ∙ sym (ap (standing_value v) (with_here y e))
    | inr ne ↦ sym (ap (standing_value v) (with_other y (ne_eqb x y ne)))
  ]

-- Steps into a change

-- only a number changes it
pulled_kept : (kind : Kind) (best : Change) (v : Value) (from : ℕ) (along : Triple) → is_number (pulled kind best v from along).value ≡ false → pulled kind best v from along ≡ best
pulled_kept kind best Absent from along h = refl
pulled_kept kind best Unreached from along h = refl
pulled_kept kind best (Num d) from along h = elim (cases_Bool (beats kind (step kind d along.weight) best.value)) [
  | inl won ↦ absurd (let both : true ≡ false = sym (ap (λ (b : Bool). is_number (if b then better else best).value) won) ∙ h in cc)
  | inr lost ↦ ap (λ (b : Bool). if b then better else best) lost
]
  where
    better : Change
    better = record { value = Num (step kind d along.weight); parent = parent.From from along.source along.target along.weight; settled = best.settled }

module _ (kind : Kind) (F : Forest) (old : ℕ → Option Change) (x : ℕ) (best : Change) (from : ℕ) (along : Triple) (at : old x ≡ Some best) (free : best.settled ≡ false) where
  -- a step that is better
  pulled_better : (v : Value) → crosses kind F old v along.weight x ≡ true
      → pulled kind best v from along ≡ record { value = Num (crossed kind v along.weight); parent = parent.From from along.source along.target along.weight; settled = false }
  pulled_better Absent h = absurd (cc)
  pulled_better Unreached h = absurd (cc)
  pulled_better (Num d) h =
      let n = step kind d along.weight in
      let p = parent.From from along.source along.target along.weight in
      let parts = better_parts kind F old x n h in
      let won : beats kind n best.value ≡ true = subst (λ (o : Option Change). beats kind n (value_or (F.value x) o) ≡ true) at parts.1 in
      ap (λ (b : Bool). if b then record { value = Num n; parent = p; settled = best.settled } else best) won
      ∙ ap (λ (s : Bool). record { value = Num n; parent = p; settled = s }) free

  -- one that isn't
  pulled_worse : (v : Value) → crosses kind F old v along.weight x ≡ false → pulled kind best v from along ≡ best
  pulled_worse Absent h = refl
  pulled_worse Unreached h = refl
  pulled_worse (Num d) h =
      let n = step kind d along.weight in
      let p = parent.From from along.source along.target along.weight in
      let here : (not best.settled && beats kind n best.value) ≡ false =
      subst (λ (o : Option Change). (not (is_settled o) && beats kind n (value_or (F.value x) o)) ≡ false) at h in
      let lost : beats kind n best.value ≡ false = subst (λ (s : Bool). (not s && beats kind n best.value) ≡ false) free here in
      ap (λ (b : Bool). if b then record { value = Num n; parent = p; settled = best.settled } else best) lost

-- an item of a row, taken into the change of the vertex
module _ (g : PlainGraph) (spec : Spec) (F : Forest) (n : ℕ) (fallen : List ℕ) (f : ℕ → Option Change) (queue : List (ℕ × ℕ)) (p : PlainGraph) (x : ℕ) (forward : Bool)
    (m : Neighbour) (left : List (ℕ × ℕ)) (rest : List ℕ) (along : Triple) (best best2 : Change) where
  abbrev old : ℕ → Option Change
  old = with_change f x best

  abbrev v : Value
  v = standing_value (F.value m.end) (with_change f x best m.end)

  abbrev Left : List (ℕ × ℕ) → Type 0
  Left after = IsPrepared g spec F n fallen (with_change f x best2) after (unpulled p x left rest)

  by_cross : along ≡ triple_of forward x m.end m.weight → best2 ≡ pulled spec.kind best v m.end along → old x ≡ Some best → best.settled ≡ false
      → IsOrigin g spec.kind forward x m → IsPrepared g spec F n fallen old queue (unpulled p x ((m.end, m.weight) ∷ left) rest)
      → (after : List (ℕ × ℕ)) × Left after
  by_cross is taken at free item P =
      let best_item : ℕ × ℕ = (priority_of spec.kind (crossed spec.kind v along.weight), x) in
      elim (cases_Bool (crosses spec.kind F old v along.weight x)) [
        | inl won ↦ (
          best_item ∷ queue,
          pulled_item g spec F n fallen old (with_change f x best2) queue (best_item ∷ queue) p x forward m left rest along is
              (λ h. record {
                here = with_here f x best2 x refl ∙ ap Some (taken ∙ pulled_better spec.kind F old x best m.end along at free v won);
                others = λ y off. with_other f x best2 y off ∙ sym (with_other f x best y off);
                items = IsPermutation-refl (best_item ∷ queue);
              })
              (λ h. absurd (not_both (crosses spec.kind F old v along.weight x) h won)) item P,
        )
        | inr lost ↦ (
          queue,
          pulled_item g spec F n fallen old (with_change f x best2) queue queue p x forward m left rest along is
              (λ h. absurd (not_both (crosses spec.kind F old v along.weight x) lost h))
              (λ h. record {
                changes = λ y. ap (λ (c : Change). with_change f x c y) (taken ∙ pulled_worse spec.kind F old x best m.end along at free v lost);
                items = refl;
              })
              item P,
        )
      ]

  pub pulled_into : IsSome (f x) → along ≡ triple_of forward x m.end m.weight → best2 ≡ pulled spec.kind best (standing_value (F.value m.end) (f m.end)) m.end along
      → IsOrigin g spec.kind forward x m → IsPrepared g spec F n fallen (with_change f x best) queue (unpulled p x ((m.end, m.weight) ∷ left) rest)
      → (after : List (ℕ × ℕ)) × IsPrepared g spec F n fallen (with_change f x best2) after (unpulled p x left rest)
  pulled_into has is pulls item P =
      let at = with_here f x best x refl in
      by_cross is (pulls ∙ ap (λ (w : Value). pulled spec.kind best w m.end along) (with_standing f x best (F.value m.end) m.end has)) at
      (ap is_settled (sym at) ∙ P.fresh x) item P

-- and so over several steps
pub pulled_kept_from : (kind : Kind) (first best best2 : Change) (v : Value) (from : ℕ) (along : Triple) → best2 ≡ pulled kind best v from along
    → (is_number best.value ≡ false → best ≡ first) → is_number best2.value ≡ false → best2 ≡ first
pulled_kept_from kind first best best2 v from along is before none =
    let same = pulled_kept kind best v from along (ap (λ (c : Change). is_number c.value) (sym is) ∙ none) in
    let here : best2 ≡ best = is ∙ same in
    here ∙ before (ap (λ (c : Change). is_number c.value) (sym here) ∙ none)

-- what is no number by any number
pub no_number : (v : Value) → ((d : ℕ) → v ≡ Num d → ⊥) → is_number v ≡ false
no_number Absent none = refl
no_number Unreached none = refl
no_number (Num d) none = absurd (none d refl)
