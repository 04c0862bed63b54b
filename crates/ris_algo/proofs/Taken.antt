-- That a vertex which is taken best first has its value of the definition (Dijkstra's lemma), and that values are small.
use Rattle.std.proofs.Common.{◌≡◌, ℕ, ◌^◌, ◌<◌, IsTrue, true, false, inl, inr, ◌⊎◌, List, [], ◌∷◌, refl, sym, subst, ap, ◌∙◌}
use Rattle.std.specs.List.{Contains}
use Rattle.std.proofs.lemmas.Bool.{cases_Bool, cases_eq, both_ways as not_both}
use Rattle.ris_base.specs.Analysis.{step, better}
use Rattle.ris_base.specs.Forest.{Joins, NeedsNone}
use Rattle.ris_base.specs.Graph.{HasTriple, IsProper}
use Rattle.ris_base.specs.Safe.{beats, improves}
use Rattle.ris_base.specs.Value.{IsValue}
use Rattle.ris_base.specs.Walk.{Leads, worth, both_ways}
use Rattle.ris_base.specs.declared.graphs.PlainGraph.{PlainGraph}
use Rattle.ris_base.specs.declared.graphs.Triple.{Triple}
use Rattle.ris_base.specs.declared.analyses.Spec.{Spec}
use Rattle.ris_base.specs.declared.analyses.Value.{Value}
use Rattle.ris_base.specs.declared.analyses.Value.TheVariants.{Num}
use Rattle.ris_base.specs.declared.forests.Parent.{Parent}
use Rattle.ris_base.specs.declared.forests.Parent.TheVariants as parent
use Rattle.ris_algo.specs.Certificate.{IsPlaced}
use Rattle.ris_algo.specs.Laws.{along}
use Rattle.ris_algo.specs.Spreading.{State, IsLoose, IsSpreading, IsSettling, IsTaken, IsTakenFrom, nothing, in_row}
use Rattle.ris_algo.proofs.Along.{not_better_transitive}
use Rattle.ris_algo.proofs.Certificates.{beats-number, beats-step, beats-worse, placed-number}
use Rattle.ris_algo.proofs.Cut.{short_walk}
use Rattle.ris_algo.proofs.Four.{laws_of, meaning_of, suits_itself}
use Rattle.ris_algo.proofs.Meaning.{start_from_first, not_IsBetter, not_better}
use Rattle.ris_algo.proofs.Offers.{num-inj}
use Rattle.ris_algo.proofs.Small.{along-below, start-below}

-- a number of the definition is small in a proper graph
pub value_small : (g : PlainGraph) (spec : Spec) → IsProper g → (x c : ℕ) → IsValue g spec x (Num c) → c < 2 ^ 59
value_small g spec proper x c is =
    let laws = laws_of g spec in
    let meaning = meaning_of g spec in
    let walk = is.1.some.0 in
    let short = short_walk proper laws meaning (suits_itself spec.kind g.format) x walk is.1.some.1 in
    let from = start_from_first meaning short.0.first short.1.first in
    let reach = meaning.reaches g short.0 from.0 (suits_itself spec.kind g.format) from.1 in
    let worse : better spec.kind c (worth g spec.kind short.0) ≡ false =
    subst (λ (n : ℕ). better spec.kind n (worth g spec.kind short.0) ≡ false) is.1.some.2 short.3 in
    let best = not_better meaning (worth g spec.kind short.0) c (is.1.best short.0 short.1) in
    let same = laws.total c (worth g spec.kind short.0) worse best ∙ reach in
    subst (λ (n : ℕ). n < 2 ^ 59) (sym same)
    (along-below proper laws (both_ways spec.kind) from.0 short.0.first short.0.triples x short.1.leads short.2
    (start-below proper laws short.0.first from.0 short.1.begins from.1))

-- along each walk a vertex's number is as good, or one that waits is, which is no better than the one taken
frontier : (g : PlainGraph) (spec : Spec) (S : State) (c : ℕ) → IsSpreading g spec S nothing
    → ((b d : ℕ) → S.waiting b ≡ true → S.value b ≡ Num d → better spec.kind d c ≡ false)
    → (ts : List Triple) (a x p : ℕ) → Leads g (both_ways spec.kind) a ts x → (beats spec.kind p (S.value a) ≡ false) ⊎ (better spec.kind p c ≡ false)
    → (beats spec.kind (along (step spec.kind) p ts) (S.value x) ≡ false) ⊎ (better spec.kind (along (step spec.kind) p ts) c ≡ false)
frontier g spec S c P ahead [] a x p leads h = subst (λ (n : ℕ). (beats spec.kind p (S.value n) ≡ false) ⊎ (better spec.kind p c ≡ false)) leads h
frontier g spec S c P ahead (t ∷ rest) a x p leads h =
    elim leads.1 [
      | inl on ↦ frontier g spec S c P ahead rest t.target x (step spec.kind p t.weight) on.1 (next t.target (inl (on.0, refl)))
      | inr back ↦ frontier g spec S c P ahead rest t.source x (step spec.kind p t.weight) back.2 (next t.source (inr (back.0, back.1, refl)))
    ]
  where
    next : (b : ℕ) → ((t.source ≡ a) × (t.target ≡ b)) ⊎ (IsTrue (both_ways spec.kind) × (t.target ≡ a) × (t.source ≡ b))
        → (beats spec.kind (step spec.kind p t.weight) (S.value b) ≡ false) ⊎ (better spec.kind (step spec.kind p t.weight) c ≡ false)
    next b joins = elim h [
      | inr far ↦ inr (not_better_transitive (laws_of g spec) (step spec.kind p t.weight) p c ((laws_of g spec).never_better p t.weight) far)
      | inl near ↦ (let r = beats-number spec.kind p (S.value a) near in elim (cases_Bool (S.waiting a)) [
        | inl waits ↦ inr (not_better_transitive (laws_of g spec) (step spec.kind p t.weight) p c ((laws_of g spec).never_better p t.weight)
            (not_better_transitive (laws_of g spec) p r.0 c r.2 (ahead a r.0 waits r.1)))
        | inr idle ↦ inl (beats-worse g spec (step spec.kind p t.weight) (step spec.kind r.0 t.weight) (S.value b)
            ((laws_of g spec).monotone p r.0 t.weight r.2)
            (beats-step spec.kind (S.value a) (S.value b) t.weight r.0 r.1
            (P.stepped t a b leads.0 joins idle (λ q. q))))
      ])
    ]

either : (spec : Spec) (S : State) (v c p : ℕ) → S.value v ≡ Num c → (beats spec.kind p (S.value v) ≡ false) ⊎ (better spec.kind p c ≡ false) → better spec.kind p c ≡ false
either spec S v c p number h = elim h [ inl a ↦ rw number at a | inr b ↦ b ]

-- a number that none which waits is better than is the value of the definition
exact_number : (g : PlainGraph) (spec : Spec) (S : State) (v c : ℕ) → IsSpreading g spec S nothing
    → ((b d : ℕ) → S.waiting b ≡ true → S.value b ≡ Num d → better spec.kind d c ≡ false) → S.value v ≡ Num c → IsValue g spec v (Num c)
exact_number g spec S v c P ahead number =
    let meaning = meaning_of g spec in (
      placed-number g spec v c (S.value v) number (P.placed v),
      record {
        some = P.sound v c number;
        best = λ w walk. (let from = start_from_first meaning w.first walk.first in
            let reach = meaning.reaches g w from.0 (suits_itself spec.kind g.format) from.1 in
            let far = frontier g spec S c P ahead w.triples w.first v from.0 walk.leads (inl (P.started w.first from.0 walk.begins from.1)) in
            not_IsBetter meaning (worth g spec.kind w) c
            (ap (λ n. better spec.kind n c) reach ∙ either spec S v c (along (step spec.kind) from.0 w.triples) number far));
      },
    )

-- A vertex that is taken

module _ (g : PlainGraph) (spec : Spec) (S S2 : State) (v c : ℕ)
    (P : IsSpreading g spec S nothing) (Q : IsSettling g spec S) (N : IsTakenFrom S S2 v c)
    (ahead : (b d : ℕ) → S2.waiting b ≡ true → S2.value b ≡ Num d → better spec.kind d c ≡ false) where
  value_o : (x : ℕ) → S2.value x ≡ S.value x
  value_o x = elim (cases_eq x v) [
    | inl e ↦ ap S2.value e ∙ N.value ∙ ap S.value (sym e)
    | inr ne ↦ (N.others x ne).value
  ]

  parent_o : (x : ℕ) → S2.parent x ≡ S.parent x
  parent_o x = elim (cases_eq x v) [
    | inl e ↦ ap S2.parent e ∙ N.parent ∙ ap S.parent (sym e)
    | inr ne ↦ (N.others x ne).parent
  ]

  waits_other : (x : ℕ) → S2.waiting x ≡ true → ¬ (x ≡ v)
  waits_other x h e = not_both (S2.waiting v) N.waiting (ap S2.waiting (sym e) ∙ h)

  waited_before : (x : ℕ) → S2.waiting x ≡ true → S.waiting x ≡ true
  waited_before x h = sym (N.others x (waits_other x h)).waiting ∙ h

  ahead_before : (b d : ℕ) → S.waiting b ≡ true → S.value b ≡ Num d → better spec.kind d c ≡ false
  ahead_before b d h e = elim (cases_eq b v) [
    | inl same ↦ subst (λ (m : ℕ). better spec.kind m c ≡ false) (num-inj c d (sym N.number ∙ ap S.value (sym same) ∙ e)) ((laws_of g spec).irreflexive c)
    | inr ne ↦ ahead b d ((N.others b ne).waiting ∙ h) (value_o b ∙ e)
  ]

  -- it has its value of the definition
  pub exact_taken : IsValue g spec v (Num c)
  exact_taken = exact_number g spec S v c P ahead_before N.number

  behind_it : (a d : ℕ) → S2.settled a ≡ true → S2.value a ≡ Num d → better spec.kind c d ≡ false
  behind_it a d h e = elim (cases_eq a v) [
    | inl same ↦ subst (λ (m : ℕ). better spec.kind c m ≡ false) (num-inj c d (sym N.number ∙ sym (value_o v) ∙ ap S2.value (sym same) ∙ e)) ((laws_of g spec).irreflexive c)
    | inr ne ↦ Q.final a v d c (sym (N.others a ne).settled ∙ h) N.waited (sym (value_o a) ∙ e) N.number
  ]

  pub is_taken : IsTaken spec S2 v c
  is_taken = record { number = value_o v ∙ N.number; taken = N.settled; behind = behind_it; ahead = ahead }

  -- those that are settled have their values, and it too
  pub taken_settling : IsSettling g spec S2
  taken_settling = record {
    apart = λ x h. elim (cases_eq x v) [
      | inl e ↦ ap S2.waiting e ∙ N.waiting
      | inr ne ↦ (N.others x ne).waiting ∙ Q.apart x (sym (N.others x ne).settled ∙ h)
    ];
    exact = λ x h. elim (cases_eq x v) [
      | inl e ↦ (c, value_o x ∙ ap S.value e ∙ N.number, subst (λ (n : ℕ). IsValue g spec n (Num c)) (sym e) exact_taken)
      | inr ne ↦ (let r = Q.exact x (sym (N.others x ne).settled ∙ h) in (r.0, value_o x ∙ r.1, r.2))
    ];
    final = λ a b m n ha hb ea eb. not_better_transitive (laws_of g spec) n c m (ahead b n hb eb) (behind_it a m ha ea);
  }

  kept_loose : (x : ℕ) (p : Parent) → IsLoose g spec S.value P.order x p → IsLoose g spec S2.value P.order x p
  kept_loose x parent.None fact = subst (NeedsNone g spec x) (sym (value_o x)) fact
  kept_loose x (parent.From vertex source target weight) fact = record {
    number = fact.number;
    current = fact.current;
    has = fact.has;
    joins = fact.joins;
    above = value_o vertex ∙ fact.above;
    kept = fact.kept;
    here = value_o x ∙ fact.here;
    not_start = fact.not_start;
    before = fact.before;
  }

  -- what holds stays so, where its row is still to be looked at
  pub takes : (row : List (ℕ × ℕ)) → ((t : Triple) (x : ℕ) → HasTriple g t → Joins (both_ways spec.kind) t v x → Contains row (x, t.weight))
      → IsSpreading g spec S2 (in_row v row)
  takes row whole = record {
    order = P.order;
    placed = λ x. subst (IsPlaced g x) (sym (value_o x)) (P.placed x);
    loose = λ x. subst (IsLoose g spec S2.value P.order x) (sym (parent_o x)) (kept_loose x (S.parent x) (P.loose x));
    sound = λ x m e. P.sound x m (sym (value_o x) ∙ e);
    started = λ x s h e. subst (λ (u : Value). beats spec.kind s u ≡ false) (sym (value_o x)) (P.started x s h e);
    stepped = λ t a x has joins idle out. (
        let other : ¬ (a ≡ v) = λ e. out (e, whole t x has (subst (λ (n : ℕ). Joins (both_ways spec.kind) t n x) e joins)) in
        let old = P.stepped t a x has joins (sym (N.others a other).waiting ∙ idle) (λ q. q) in
        subst (λ (u : Value). improves spec.kind u t.weight (S2.value x) ≡ false) (sym (value_o a))
        (subst (λ (u : Value). improves spec.kind (S.value a) t.weight u ≡ false) (sym (value_o x)) old));
    numbered = λ x h. (let r = P.numbered x (waited_before x h) in (r.0, value_o x ∙ r.1));
  }
