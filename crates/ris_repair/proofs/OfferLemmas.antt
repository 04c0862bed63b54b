-- What an offer makes of a table of changes.
use Rattle.std.proofs.Common.{◌≡◌, ℕ, ◌<◌, Bool, true, false, not, ◌⊎◌, inl, inr, List, ◌∷◌, Option, Some, None, refl, sym, subst, ap, ◌∙◌}
use Rattle.std.specs.List.{Contains}
use Rattle.std.proofs.lemmas.Bool.{cases_eq, ne_eqb, and_parts}
use Rattle.std.proofs.Math.Path.{fun_ext}
use Rattle.std.proofs.lemmas.List.Sorted.{Contains-permutation}
use Rattle.ris_base.specs.Analysis.{step, better}
use Rattle.ris_base.specs.Forest.{Forest, Joins}
use Rattle.ris_base.specs.Graph.{HasVertex, HasTriple}
use Rattle.ris_base.specs.Safe.{beats}
use Rattle.ris_base.specs.Walk.{both_ways}
use Rattle.ris_base.specs.declared.graphs.PlainGraph.{PlainGraph}
use Rattle.ris_base.specs.declared.graphs.Triple.{Triple}
use Rattle.ris_base.specs.declared.analyses.Kind.{Kind}
use Rattle.ris_base.specs.declared.analyses.Spec.{Spec}
use Rattle.ris_base.specs.declared.analyses.Value.{Value}
use Rattle.ris_base.specs.declared.analyses.Value.TheVariants.{Absent, Unreached, Num}
use Rattle.ris_base.specs.declared.forests.Parent.{Parent}
use Rattle.ris_base.specs.declared.forests.Parent.TheVariants as parent
use Rattle.ris_base.proofs.ListLemmas.{Contains-first, Contains-rest}
use Rattle.ris_algo.specs.Spreading.{IsOffered}
use Rattle.ris_algo.proofs.Four.{laws_of}
use Rattle.ris_algo.proofs.Offers.{offers, better-from_beats}
use Rattle.ris_repair.specs.Changes.{state_of, value_or, parent_or, is_settled, is_waiting, is_better, waiting_number, IsImproved, IsSame, IsGain, AreDue, AreBelow, AreQueued}
use Rattle.ris_repair.specs.Priority.{priority_of}
use Rattle.ris_repair.specs.Stages.{IsCarried}
use Rattle.ris_repair.specs.declared.stores.Change.{Change}

-- a test that fails with `not`
pub not-true : (b : Bool) → not b ≡ true → b ≡ false
not-true true h = absurd (cc)
not-true false h = refl

-- what a better number says
pub better_parts : (kind : Kind) (F : Forest) (old : ℕ → Option Change) (y number : ℕ) → is_better kind F old y number ≡ true
    → (is_settled (old y) ≡ false) × (beats kind number (value_or (F.value y) (old y)) ≡ true)
better_parts kind F old y number h =
    let both = and_parts (not (is_settled (old y))) (beats kind number (value_or (F.value y) (old y))) h in
    (not-true (is_settled (old y)) both.0, both.1)

-- the tables are the same where their changes are
pub same_changes : (old new : ℕ → Option Change) → ((x : ℕ) → new x ≡ old x) → old ≡ new
same_changes old new h = sym (fun_ext h)

-- what beats a value, and a better number
pub beats-better : (g : PlainGraph) (spec : Spec) (a b : ℕ) (v : Value) → better spec.kind a b ≡ true → beats spec.kind b v ≡ true → beats spec.kind a v ≡ true
beats-better g spec a b Absent h k = refl
beats-better g spec a b Unreached h k = refl
beats-better g spec a b (Num d) h k = (laws_of g spec).transitive a b d h k

module _ (kind : Kind) (F : Forest) (old new : ℕ → Option Change) (queue queue2 : List (ℕ × ℕ)) (y number : ℕ) (p : Parent)
    (i : IsImproved kind old queue y number p new queue2) where
  pub other : (x : ℕ) → ¬ (x ≡ y) → new x ≡ old x
  other x ne = i.others x (ne_eqb y x (λ e. ne (sym e)))

  -- the states before and after
  pub offered_state : is_settled (old y) ≡ false → IsOffered (state_of F old) (state_of F new) y number p
  offered_state free = record {
    free = free;
    value = ap (value_or (F.value y)) i.here;
    parent = ap (parent_or (F.parent y)) i.here;
    waiting = ap is_waiting i.here;
    settled = ap is_settled i.here;
    others = λ x ne. record {
      value = ap (value_or (F.value x)) (other x ne);
      parent = ap (parent_or (F.parent x)) (other x ne);
      waiting = ap is_waiting (other x ne);
      settled = ap is_settled (other x ne);
    };
  }

  -- vertices that have a change stay below a bound
  pub offered_below : (n : ℕ) → y < n → AreBelow n old → AreBelow n new
  offered_below n lt below x c h = elim (cases_eq x y) [
    | inl e ↦ subst (λ (k : ℕ). k < n) (sym e) lt
    | inr ne ↦ below x c (sym (other x ne) ∙ h)
  ]

  -- each vertex that waits stays in the queue
  offered_queued : AreQueued kind old queue → AreQueued kind new queue2
  offered_queued before x d h =
      Contains-permutation ((priority_of kind number, y) ∷ queue) queue2 (priority_of kind d, x) i.items
      (elim (cases_eq y x) [
        | inl e ↦ (let same_d : Some number ≡ Some d = ap waiting_number (sym i.here) ∙ subst (λ (n : ℕ). waiting_number (new n) ≡ Some d) (sym e) h in
            let n : number ≡ d = cc in
            subst (λ (m : ℕ). Contains ((priority_of kind number, y) ∷ queue) (priority_of kind m, x)) n
            (subst (λ (z : ℕ). Contains ((priority_of kind number, y) ∷ queue) (priority_of kind number, z)) e (Contains-first (priority_of kind number, y) queue)))
        | inr ne ↦ Contains-rest (priority_of kind number, y) queue (priority_of kind d, x)
            (before x d (ap waiting_number (sym (other x (λ e. ne (sym e)))) ∙ h))
      ])

-- each change is of a fallen vertex or better than before
pub offered_due : (g : PlainGraph) (spec : Spec) (F : Forest) (fallen : List ℕ) (old new : ℕ → Option Change) (queue queue2 : List (ℕ × ℕ)) (y number : ℕ) (p : Parent)
    → IsImproved spec.kind old queue y number p new queue2 → beats spec.kind number (value_or (F.value y) (old y)) ≡ true
    → AreDue spec.kind F fallen old → AreDue spec.kind F fallen new
offered_due g spec F fallen old new queue queue2 y number p i wins due x c h = elim (cases_eq x y) [
  | inr ne ↦ due x c (sym (other spec.kind F old new queue queue2 y number p i x ne) ∙ h)
  | inl e ↦
      let at : Some c ≡ Some (record { value = Num number; parent = p; settled = false }) = sym h ∙ ap new e ∙ i.here in
      let is : c ≡ record { value = Num number; parent = p; settled = false } = cc in
      subst (λ (z : ℕ). Contains fallen z ⊎ IsGain spec.kind c.value (F.value z)) (sym e) (here (old y) refl (ap (λ (k : Change). k.value) is))
]
  where
    here : (o : Option Change) → old y ≡ o → c.value ≡ Num number → Contains fallen y ⊎ IsGain spec.kind c.value (F.value y)
    here None none value = inr (record {
      number = number;
      is = value;
      beats = subst (λ (k : Option Change). beats spec.kind number (value_or (F.value y) k) ≡ true) none wins;
    })
    here (Some ch) some value = elim (due y ch some) [
      | inl fell ↦ inl fell
      | inr gain ↦ inr (record {
        number = number;
        is = value;
        beats = beats-better g spec number gain.number (F.value y)
            (better-from_beats spec.kind number gain.number ch.value gain.is
            (subst (λ (k : Option Change). beats spec.kind number (value_or (F.value y) k) ≡ true) some wins))
            gain.beats;
      })
    ]

-- values spread on after an offer
pub carried_offer : (g : PlainGraph) (spec : Spec) (F : Forest) (n : ℕ) (fallen : List ℕ) (old new : ℕ → Option Change) (queue queue2 : List (ℕ × ℕ))
    (todo : Triple → ℕ → ℕ → Type 0) (a c y : ℕ) (t : Triple)
    → IsCarried g spec F n fallen old queue todo → value_or (F.value a) (old a) ≡ Num c → HasVertex g y → HasTriple g t → Joins (both_ways spec.kind) t a y
    → is_better spec.kind F old y (step spec.kind c t.weight) ≡ true
    → IsImproved spec.kind old queue y (step spec.kind c t.weight) (parent.From a t.source t.target t.weight) new queue2
    → IsCarried g spec F n fallen new queue2 todo
carried_offer g spec F n fallen old new queue queue2 todo a c y t C number vertex has joins won i =
    let parts = better_parts spec.kind F old y (step spec.kind c t.weight) won in
    let p = parent.From a t.source t.target t.weight in
    record {
      inside = C.inside;
      spreading = offers g spec (state_of F old) (state_of F new) todo a c y t C.spreading number vertex has joins parts.1
          (offered_state spec.kind F old new queue queue2 y (step spec.kind c t.weight) p i parts.0);
      due = offered_due g spec F fallen old new queue queue2 y (step spec.kind c t.weight) p i parts.1 C.due;
      below = offered_below spec.kind F old new queue queue2 y (step spec.kind c t.weight) p i n (C.inside y vertex) C.below;
      queued = offered_queued spec.kind F old new queue queue2 y (step spec.kind c t.weight) p i C.queued;
    }

-- a fact of a table and a queue that stay the same
pub kept_same : (P : (ℕ → Option Change) → List (ℕ × ℕ) → Type 0) (old new : ℕ → Option Change) (queue queue2 : List (ℕ × ℕ))
    → IsSame old queue new queue2 → P old queue → P new queue2
kept_same P old new queue queue2 same h =
    subst (λ (f : ℕ → Option Change). P f queue2) (same_changes old new same.changes) (subst (λ (q : List (ℕ × ℕ)). P old q) (sym same.items) h)
