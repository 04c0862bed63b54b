-- One neighbour of a row in the push, one vertex that is taken, and what is counted.
use Rattle.std.proofs.Common.{◌≡◌, ◌⊎◌, ℕ, suc, ◌+◌, ◌^◌, ◌<◌, Bool, true, false, inl, inr, List, [], ◌∷◌, Option, Some, None, refl, sym, subst, ap, ◌∙◌}
use Rattle.std.specs.List.{Contains, sum_by}
use Rattle.std.proofs.lemmas.Bool.{cases_Bool, cases_eq}
use Rattle.ris_base.specs.Analysis.{step}
use Rattle.ris_base.specs.Falling.{push}
use Rattle.ris_base.specs.Forest.{Forest}
use Rattle.ris_base.specs.Safe.{beats, improves}
use Rattle.ris_base.specs.Value.{IsValue}
use Rattle.ris_base.specs.Walk.{both_ways}
use Rattle.ris_base.specs.declared.graphs.PlainGraph.{PlainGraph}
use Rattle.ris_base.specs.declared.graphs.Triple.{Triple}
use Rattle.ris_base.specs.declared.analyses.Spec.{Spec}
use Rattle.ris_base.specs.declared.analyses.Value.TheVariants.{Num}
use Rattle.ris_base.specs.declared.forests.Parent.TheVariants as parent
use Rattle.ris_base.proofs.ListLemmas.{Contains-none, Contains-cases}
use Rattle.ris_algo.specs.Spreading.{State, IsSpreading, nothing, in_row}
use Rattle.ris_algo.proofs.Covered.{sum_where, failing, one_more, sum_where-covered}
use Rattle.ris_algo.proofs.Offers.{narrowed, improves-number, improves-no_more, not_beaten-settled, still_taken, still_settling, num-inj}
use Rattle.ris_algo.proofs.Taken.{takes, is_taken, taken_settling, exact_taken, value_small}
use Rattle.ris_rows.specs.declared.neighbours.Neighbour.{Neighbour}
use Rattle.ris_graph.specs.GraphView.{GraphView, IsOf}
use Rattle.ris_graph.specs.Ticks.{IsRise}
use Rattle.ris_repair.specs.Changes.{state_of, value_or, is_settled, is_better, IsImproved, IsSame, IsNext, IsGain, KeepsSettled, AreQueued}
use Rattle.ris_repair.specs.Rows.{IsEnd, triple_of, ends_of}
use Rattle.ris_repair.specs.Stages.{IsCarried, IsPushing, PushesOn, Covers}
use Rattle.ris_repair.specs.declared.stores.Change.{Change}
use Rattle.ris_repair.proofs.OfferLemmas.{better_parts, offered_state, carried_offer, kept_same}
use Rattle.ris_repair.proofs.RiseLemmas.{rise_within}
use Rattle.ris_repair.proofs.RowLemmas.{ends_whole}
use Rattle.ris_repair.proofs.TakeLemmas.{taken_state, taken_settled, none_better, taken_all, taken_below}

-- One neighbour

-- an item of a row was looked at
row_less : (g : PlainGraph) (spec : Spec) (S : State) (v y w : ℕ) (left : List (ℕ × ℕ)) → IsSpreading g spec S (in_row v ((y, w) ∷ left))
    → improves spec.kind (S.value v) w (S.value y) ≡ false → IsSpreading g spec S (in_row v left)
row_less g spec S v y w left P idle = narrowed g spec S (in_row v ((y, w) ∷ left)) (in_row v left) P (λ t a x has joins waits out. go t a x out)
  where
    same : (t : Triple) (a x : ℕ) → a ≡ v → x ≡ y → t.weight ≡ w → improves spec.kind (S.value a) t.weight (S.value x) ≡ false
    same t a x ea ex ew =
        subst (λ (n : ℕ). improves spec.kind (S.value n) t.weight (S.value x) ≡ false) (sym ea)
        (subst (λ (n : ℕ). improves spec.kind (S.value v) n (S.value x) ≡ false) (sym ew)
        (subst (λ (n : ℕ). improves spec.kind (S.value v) w (S.value n) ≡ false) (sym ex) idle))

    go : (t : Triple) (a x : ℕ) → ¬ (in_row v left t a x) → (¬ (in_row v ((y, w) ∷ left) t a x)) ⊎ (improves spec.kind (S.value a) t.weight (S.value x) ≡ false)
    go t a x out = elim (cases_eq a v) [
      | inr ne ↦ inl (λ q. ne q.0)
      | inl ea ↦ elim (cases_eq x y) [
        | inr ne ↦ inl (λ q. elim (Contains-cases (y, w) left (x, t.weight) q.1) [ inl s ↦ ne (sym (ap (λ (p : ℕ × ℕ). p.0) s)) | inr r ↦ out (q.0, r) ])
        | inl ex ↦ elim (cases_eq t.weight w) [
          | inr ne ↦ inl (λ q. elim (Contains-cases (y, w) left (x, t.weight) q.1) [ inl s ↦ ne (sym (ap (λ (p : ℕ × ℕ). p.1) s)) | inr r ↦ out (q.0, r) ])
          | inl ew ↦ inr (same t a x ea ex ew)
        ]
      ]
    ]

-- the values spread as before but for what is left
with_less : (g : PlainGraph) (spec : Spec) (F : Forest) (n : ℕ) (fallen : List ℕ) (changes : ℕ → Option Change) (queue : List (ℕ × ℕ)) (todo todo2 : Triple → ℕ → ℕ → Type 0)
    → IsCarried g spec F n fallen changes queue todo → IsSpreading g spec (state_of F changes) todo2 → IsCarried g spec F n fallen changes queue todo2
with_less g spec F n fallen changes queue todo todo2 C P = record { inside = C.inside; spreading = P; due = C.due; below = C.below; queued = C.queued }

-- an item of a row, offered or left as it is
pub pushed_one : (g : PlainGraph) (spec : Spec) (F : Forest) (n : ℕ) (fallen : List ℕ) (old new : ℕ → Option Change) (queue queue2 : List (ℕ × ℕ)) (v c : ℕ) (forward : Bool)
    (m : Neighbour) (left : List (ℕ × ℕ))
    → (is_better spec.kind F old m.end (step spec.kind c m.weight) ≡ true
    → IsImproved spec.kind old queue m.end (step spec.kind c m.weight)
    (parent.From v (triple_of forward v m.end m.weight).source (triple_of forward v m.end m.weight).target m.weight) new queue2)
    → (is_better spec.kind F old m.end (step spec.kind c m.weight) ≡ false → IsSame old queue new queue2)
    → IsEnd g spec.kind forward v m → PushesOn g spec F n fallen old queue v c ((m.end, m.weight) ∷ left) → PushesOn g spec F n fallen new queue2 v c left
pushed_one g spec F n fallen old new queue queue2 v c forward m left improved same item before =
    elim (cases_Bool (is_better spec.kind F old m.end (step spec.kind c m.weight))) [
      | inl won ↦ better_case won (improved won)
      | inr lost ↦ kept_same (λ f q. PushesOn g spec F n fallen f q v c left) old new queue queue2 (same lost) (record {
        pushing = record {
          carried = with_less g spec F n fallen old queue (in_row v ((m.end, m.weight) ∷ left)) (in_row v left) C
              (row_less g spec (state_of F old) v m.end m.weight left C.spreading
              (improves-number spec.kind (value_or (F.value v) (old v)) (value_or (F.value m.end) (old m.end)) m.weight c before.taken.number (not_beaten lost)));
          settling = before.pushing.settling;
        };
        taken = before.taken;
      })
    ]
  where
    t : Triple
    t = triple_of forward v m.end m.weight

    C : IsCarried g spec F n fallen old queue (in_row v ((m.end, m.weight) ∷ left))
    C = before.pushing.carried

    not_beaten : is_better spec.kind F old m.end (step spec.kind c m.weight) ≡ false → beats spec.kind (step spec.kind c m.weight) (value_or (F.value m.end) (old m.end)) ≡ false
    not_beaten lost = elim (cases_Bool (is_settled (old m.end))) [
      | inl won ↦ not_beaten-settled g spec (state_of F old) v c m.end m.weight before.pushing.settling before.taken won
      | inr free ↦ rw free at lost
    ]

    better_case : is_better spec.kind F old m.end (step spec.kind c m.weight) ≡ true
        → IsImproved spec.kind old queue m.end (step spec.kind c m.weight)
        (parent.From v (triple_of forward v m.end m.weight).source (triple_of forward v m.end m.weight).target m.weight) new queue2
        → PushesOn g spec F n fallen new queue2 v c left
    better_case won i =
        let s = triple_of forward v m.end m.weight in
        let todo = in_row v ((m.end, m.weight) ∷ left) in
        let p = parent.From v s.source s.target m.weight in
        let parts = better_parts spec.kind F old m.end (step spec.kind c m.weight) won in
        let O = offered_state spec.kind F old new queue queue2 m.end (step spec.kind c m.weight) p i parts.0 in
        let after = carried_offer g spec F n fallen old new queue queue2 todo v c m.end s C before.taken.number item.end item.has item.joins won i in
        record {
          pushing = record {
            carried = with_less g spec F n fallen new queue2 todo (in_row v left) after
                (row_less g spec (state_of F new) v m.end m.weight left after.spreading
                (improves-no_more g spec (state_of F old) (state_of F new) todo v c m.end s C.spreading before.taken.number item.end item.has item.joins parts.1 O));
            settling = still_settling g spec (state_of F old) (state_of F new) todo v c m.end s C.spreading before.taken.number item.end item.has item.joins parts.1 O
                before.pushing.settling before.taken;
          };
          taken = still_taken g spec (state_of F old) (state_of F new) todo v c m.end s C.spreading before.taken.number item.end item.has item.joins parts.1 O
              before.pushing.settling before.taken;
        }

-- the same where the step and the triple are given
pub pushed_item : (g : PlainGraph) (spec : Spec) (F : Forest) (n : ℕ) (fallen : List ℕ) (old new : ℕ → Option Change) (queue queue2 : List (ℕ × ℕ)) (v c : ℕ) (forward : Bool)
    (m : Neighbour) (left : List (ℕ × ℕ)) (stepped : ℕ) (along : Triple) → stepped ≡ step spec.kind c m.weight → along ≡ triple_of forward v m.end m.weight
    → (is_better spec.kind F old m.end stepped ≡ true
    → IsImproved spec.kind old queue m.end stepped (parent.From v along.source along.target m.weight) new queue2)
    → (is_better spec.kind F old m.end stepped ≡ false → IsSame old queue new queue2)
    → IsEnd g spec.kind forward v m → PushesOn g spec F n fallen old queue v c ((m.end, m.weight) ∷ left) → PushesOn g spec F n fallen new queue2 v c left
pushed_item g spec F n fallen old new queue queue2 v c forward m left stepped along steps is improved same item before =
    pushed_one g spec F n fallen old new queue queue2 v c forward m left
    (subst (λ (a : Triple). is_better spec.kind F old m.end (step spec.kind c m.weight) ≡ true
    → IsImproved spec.kind old queue m.end (step spec.kind c m.weight) (parent.From v a.source a.target m.weight) new queue2) is
    (subst (λ (k : ℕ). is_better spec.kind F old m.end k ≡ true
    → IsImproved spec.kind old queue m.end k (parent.From v along.source along.target m.weight) new queue2) steps improved))
    (subst (λ (k : ℕ). is_better spec.kind F old m.end k ≡ false → IsSame old queue new queue2) steps same)
    item before

-- a row that was handed out whole
pub row_done : (g : PlainGraph) (spec : Spec) (F : Forest) (n : ℕ) (fallen : List ℕ) (changes : ℕ → Option Change) (queue : List (ℕ × ℕ)) (v c : ℕ)
    → PushesOn g spec F n fallen changes queue v c [] → IsPushing g spec F n fallen changes queue nothing
row_done g spec F n fallen changes queue v c before = record {
  carried = with_less g spec F n fallen changes queue (in_row v []) nothing before.pushing.carried
      (narrowed g spec (state_of F changes) (in_row v []) nothing before.pushing.carried.spreading
      (λ t a x has joins idle out. inl (λ q. Contains-none (x, t.weight) q.1)));
  settling = before.pushing.settling;
}

-- One vertex

module _ (graph : GraphView) (g : PlainGraph) (spec : Spec) (F : Forest) (n : ℕ) (fallen : List ℕ) (old new : ℕ → Option Change) (queue queue2 : List (ℕ × ℕ)) (v c : ℕ)
    (of : IsOf graph g) (P : IsPushing g spec F n fallen old queue nothing) (N : IsNext spec.kind old v c new) (small : c < 2 ^ 64) where
  -- it has its value of the definition
  pub next_exact : IsValue g spec v (Num c)
  next_exact = exact_taken g spec (state_of F old) (state_of F new) v c P.carried.spreading P.settling (taken_state spec.kind F old new v c N)
      (none_better spec.kind F old new v c N small)

  -- so its number is small
  pub next_small : c < 2 ^ 59
  next_small = value_small g spec of.proper v c next_exact

  -- its row is handed out next
  pub next_pushes : (both : Bool) → both ≡ both_ways spec.kind → AreQueued spec.kind new queue2 → PushesOn g spec F n fallen new queue2 v c (ends_of both graph v)
  next_pushes both ways queued =
      let T = taken_state spec.kind F old new v c N in
      let ahead = none_better spec.kind F old new v c N small in
      record {
        pushing = record {
          carried = record {
            inside = P.carried.inside;
            spreading = takes g spec (state_of F old) (state_of F new) v c P.carried.spreading P.settling T ahead (ends_of both graph v)
                (λ t x has joins. ends_whole graph g of both spec.kind ways v x t has joins);
            due = taken_all spec.kind F old new v c N (λ x value. Contains fallen x ⊎ IsGain spec.kind value (F.value x)) P.carried.due;
            below = taken_all spec.kind F old new v c N (λ x value. x < n) P.carried.below;
            queued = queued;
          };
          settling = taken_settling g spec (state_of F old) (state_of F new) v c P.carried.spreading P.settling T ahead;
        };
        taken = is_taken g spec (state_of F old) (state_of F new) v c P.carried.spreading P.settling T ahead;
      }

  -- after its neighbours were offered, too, it alone is settled more than before
  pub next_settled : (last : ℕ → Option Change) (size : ℕ → ℕ) → KeepsSettled new last
      → (sum_where (λ x. is_settled (last x)) size n ≡ size v + sum_where (λ x. is_settled (old x)) size n)
      × (suc (failing (λ x. is_settled (last x)) n) ≡ failing (λ x. is_settled (old x)) n)
  next_settled last size kept =
      let s = taken_settled spec.kind F old new v c N in
      one_more size (λ x. is_settled (old x)) (λ x. is_settled (last x)) v n (taken_below spec.kind F old new v c N n P.carried.below)
      s.0 (kept v ∙ s.1) (λ x ne. kept x ∙ s.2 x ne)

-- What is counted

-- what is settled stands in a list that covers it
settled_in : (g : PlainGraph) (spec : Spec) (F : Forest) (n : ℕ) (fallen : List ℕ) (changes : ℕ → Option Change) (queue : List (ℕ × ℕ)) (todo : Triple → ℕ → ℕ → Type 0) (xs : List ℕ)
    → IsPushing g spec F n fallen changes queue todo → Covers g spec F fallen xs → (x : ℕ) → is_settled (changes x) ≡ true → Contains xs x
settled_in g spec F n fallen changes queue todo xs P covers x h =
    let r = P.settling.exact x h in
    covers x r.0 r.2 (go (changes x) refl r.0 r.1)
  where
    go : (o : Option Change) → changes x ≡ o → (d : ℕ) → value_or (F.value x) (changes x) ≡ Num d → Contains fallen x ⊎ (beats spec.kind d (F.value x) ≡ true)
    go None e d is = absurd (let k : false ≡ true = sym (ap is_settled e) ∙ h in (cc))
    go (Some ch) e d is = elim (P.carried.due x ch e) [
      | inl fell ↦ inl fell
      | inr gain ↦
          let same : gain.number ≡ d = num-inj gain.number d (sym gain.is ∙ ap (value_or (F.value x)) (sym e) ∙ is) in
          inr (subst (λ (k : ℕ). beats spec.kind k (F.value x) ≡ true) same gain.beats)
    ]

-- the ticks for what is settled are within the sum over a list that covers it
pub settled_rise : (graph : GraphView) (g : PlainGraph) (spec : Spec) (F : Forest) (n : ℕ) (fallen : List ℕ) (changes : ℕ → Option Change) (queue : List (ℕ × ℕ))
    (todo : Triple → ℕ → ℕ → Type 0) (xs : List ℕ) (a b : ℕ)
    → IsPushing g spec F n fallen changes queue todo → Covers g spec F fallen xs
    → IsRise a b (sum_where (λ x. is_settled (changes x)) (push g spec) n) → IsRise a b (sum_by (push g spec) xs)
settled_rise graph g spec F n fallen changes queue todo xs a b P covers rise =
    rise_within a b (sum_where (λ x. is_settled (changes x)) (push g spec) n) (sum_by (push g spec) xs) rise
    (sum_where-covered (λ x. is_settled (changes x)) (push g spec) n xs (λ x lt h. settled_in g spec F n fallen changes queue todo xs P covers x h))

-- the same with another queue that has what waits
pub with_queue : (g : PlainGraph) (spec : Spec) (F : Forest) (n : ℕ) (fallen : List ℕ) (changes : ℕ → Option Change) (queue queue2 : List (ℕ × ℕ)) (todo : Triple → ℕ → ℕ → Type 0)
    → IsPushing g spec F n fallen changes queue todo → AreQueued spec.kind changes queue2 → IsPushing g spec F n fallen changes queue2 todo
with_queue g spec F n fallen changes queue queue2 todo P queued = record {
  carried = record { inside = P.carried.inside; spreading = P.carried.spreading; due = P.carried.due; below = P.carried.below; queued = queued };
  settling = P.settling;
}
