-- That a better number for a vertex, from a neighbour, keeps what holds while values spread.
use Rattle.std.proofs.Common.{◌≡◌, ℕ, ◌+◌, ◌==◌, true, false, if◌then◌else◌, inl, inr, ◌⊎◌, Some, arith, refl, sym, subst, ap, ◌∙◌}
use Rattle.std.proofs.lemmas.Bool.{cases_eq, eq-eqb, ne_eqb, false_from_ne_true, both_ways as not_both}
use Rattle.ris_base.specs.Analysis.{start, step, better}
use Rattle.ris_base.specs.Forest.{Joins, NeedsNone}
use Rattle.ris_base.specs.Graph.{HasVertex, HasTriple}
use Rattle.ris_base.specs.Safe.{beats, improves}
use Rattle.ris_base.specs.Walk.{both_ways}
use Rattle.ris_base.specs.declared.graphs.PlainGraph.{PlainGraph}
use Rattle.ris_base.specs.declared.graphs.Triple.{Triple}
use Rattle.ris_base.specs.declared.analyses.Kind.{Kind}
use Rattle.ris_base.specs.declared.analyses.Spec.{Spec}
use Rattle.ris_base.specs.declared.analyses.Value.{Value}
use Rattle.ris_base.specs.declared.analyses.Value.TheVariants.{Absent, Unreached, Num}
use Rattle.ris_base.specs.declared.forests.Parent.{Parent}
use Rattle.ris_base.specs.declared.forests.Parent.TheVariants as parent
use Rattle.ris_algo.specs.Certificate.{IsPlaced}
use Rattle.ris_algo.specs.Spreading.{State, IsAlong, IsLoose, IsReached, IsSpreading, IsSettling, IsTaken, IsOffered}
use Rattle.ris_algo.proofs.Along.{not_better_transitive}
use Rattle.ris_algo.proofs.Certificates.{HasWalk, HasWalk-step, beats-number}
use Rattle.ris_algo.proofs.Four.{laws_of}

-- Numbers and values

-- a number is one value alone
pub num-inj : (c d : ℕ) → Num c ≡ Num d → c ≡ d
num-inj c d e = cc

-- what doesn't beat a value is no better than a number that beats it
pub not_after : (g : PlainGraph) (spec : Spec) (s d : ℕ) (v : Value) → beats spec.kind s v ≡ false → beats spec.kind d v ≡ true → better spec.kind s d ≡ false
not_after g spec s d v h k =
    let r = beats-number spec.kind s v h in
    let dr : better spec.kind d r.0 ≡ true = rw r.1 at k in
    false_from_ne_true (better spec.kind s d) (λ sd. not_both (better spec.kind s r.0) r.2 ((laws_of g spec).transitive s d r.0 sd dr))

-- a step that doesn't improve a value doesn't improve a better one
pub improves-after : (g : PlainGraph) (spec : Spec) (v : Value) (w d : ℕ) (to : Value) → improves spec.kind v w to ≡ false → beats spec.kind d to ≡ true
    → improves spec.kind v w (Num d) ≡ false
improves-after g spec Absent w d to h k = refl
improves-after g spec Unreached w d to h k = refl
improves-after g spec (Num c) w d to h k = not_after g spec (step spec.kind c w) d to h k

-- a step from a number that doesn't beat a value doesn't improve it
pub improves-number : (kind : Kind) (v to : Value) (w c : ℕ) → v ≡ Num c → beats kind (step kind c w) to ≡ false → improves kind v w to ≡ false
improves-number kind v to w c e h = rw e h

-- what is no better than a number doesn't beat the value that it is
pub beats-by_number : (kind : Kind) (s c : ℕ) (v : Value) → v ≡ Num c → better kind s c ≡ false → beats kind s v ≡ false
beats-by_number kind s c v e h = rw e h

-- what beats the value that a number is is better than it
pub better-from_beats : (kind : Kind) (s c : ℕ) (v : Value) → v ≡ Num c → beats kind s v ≡ true → better kind s c ≡ true
better-from_beats kind s c v e h = rw e at h

-- the order where y has this place
abbrev pub placed_at : (ℕ → ℕ) → ℕ → ℕ → ℕ → ℕ
placed_at order y k x = if y == x then k else order x

pub placed_at-here : (order : ℕ → ℕ) (y k : ℕ) → placed_at order y k y ≡ k
placed_at-here order y k = rw (eq-eqb y y refl) refl

pub placed_at-other : (order : ℕ → ℕ) (y k x : ℕ) → ¬ (x ≡ y) → placed_at order y k x ≡ order x
placed_at-other order y k x ne = rw (ne_eqb y x (λ e. ne (sym e))) refl

-- Walks

-- the two ways to say that some walk is worth a number
pub IsReached-from_walk : (g : PlainGraph) (spec : Spec) (x c : ℕ) → HasWalk g spec x c → IsReached g spec x c
IsReached-from_walk g spec x c r = (r.walk, r.is, r.worth_is)

pub HasWalk-from_reached : (g : PlainGraph) (spec : Spec) (x c : ℕ) → IsReached g spec x c → HasWalk g spec x c
HasWalk-from_reached g spec x c r = record { walk = r.0; is = r.1; worth_is = r.2 }

-- A better number

module _ (g : PlainGraph) (spec : Spec) (S S2 : State) (todo : Triple → ℕ → ℕ → Type 0) (a c y : ℕ) (t : Triple)
    (P : IsSpreading g spec S todo) (number : S.value a ≡ Num c)
    (vertex : HasVertex g y) (has : HasTriple g t) (joins : Joins (both_ways spec.kind) t a y)
    (wins : beats spec.kind (step spec.kind c t.weight) (S.value y) ≡ true)
    (O : IsOffered S S2 y (step spec.kind c t.weight) (parent.From a t.source t.target t.weight)) where
  at_or_else : (Goal : ℕ → Type 0) (x : ℕ) → Goal y → (¬ (x ≡ y) → Goal x) → Goal x
  at_or_else Goal x here there = elim (cases_eq x y) [ inl e ↦ subst Goal (sym e) here | inr ne ↦ there ne ]

  -- no step improves the vertex from which it comes
  pub differs : ¬ (a ≡ y)
  differs e =
      let own : S.value y ≡ Num c = ap S.value (sym e) ∙ number in
      not_both (better spec.kind (step spec.kind c t.weight) c) ((laws_of g spec).never_better c t.weight)
      (better-from_beats spec.kind (step spec.kind c t.weight) c (S.value y) own wins)

  abbrev order2 : ℕ → ℕ
  order2 = placed_at P.order y (P.order a + 1)

  order_y : order2 y ≡ P.order a + 1
  order_y = placed_at-here P.order y (P.order a + 1)

  order_o : (x : ℕ) → ¬ (x ≡ y) → order2 x ≡ P.order x
  order_o x ne = placed_at-other P.order y (P.order a + 1) x ne

  along_y : IsAlong g spec S2.value order2 y a t
  along_y = record {
    number = c;
    current = c;
    has = has;
    joins = joins;
    above = (O.others a differs).value ∙ number;
    kept = (laws_of g spec).irreflexive c;
    here = O.value;
    not_start = λ e. not_both (beats spec.kind (step spec.kind c t.weight) (S.value y)) (P.started y (step spec.kind c t.weight) vertex e) wins;
    before = λ same. (let here = order_y in let there = order_o a differs in omega arith);
  }

  loosened : (x : ℕ) → ¬ (x ≡ y) → (p : Parent) → IsLoose g spec S.value P.order x p → IsLoose g spec S2.value order2 x p
  loosened x ne parent.None fact = subst (NeedsNone g spec x) (sym (O.others x ne).value) fact
  loosened x ne (parent.From vertex source target weight) fact = elim (cases_eq vertex y) [
    | inl e ↦
        let old : S.value y ≡ Num fact.current = ap S.value (sym e) ∙ fact.above in
        let better_now : better spec.kind (step spec.kind c t.weight) fact.current ≡ true =
        better-from_beats spec.kind (step spec.kind c t.weight) fact.current (S.value y) old wins in
        record {
          number = fact.number;
          current = step spec.kind c t.weight;
          has = fact.has;
          joins = fact.joins;
          above = ap S2.value e ∙ O.value;
          kept = not_after g spec fact.number (step spec.kind c t.weight) (S.value y)
              (beats-by_number spec.kind fact.number fact.current (S.value y) old fact.kept) wins;
          here = (O.others x ne).value ∙ fact.here;
          not_start = fact.not_start;
          before = λ same. absurd (not_both (better spec.kind fact.number fact.current) fact.kept
              (subst (λ (n : ℕ). better spec.kind n fact.current ≡ true) (sym same) better_now));
        }
    | inr other ↦ record {
      number = fact.number;
      current = fact.current;
      has = fact.has;
      joins = fact.joins;
      above = (O.others vertex other).value ∙ fact.above;
      kept = fact.kept;
      here = (O.others x ne).value ∙ fact.here;
      not_start = fact.not_start;
      before = λ same. (let was = fact.before same in let one = order_o x ne in let two = order_o vertex other in omega arith);
    }
  ]

  loose2 : (x : ℕ) → IsLoose g spec S2.value order2 x (S2.parent x)
  loose2 x = at_or_else (λ n. IsLoose g spec S2.value order2 n (S2.parent n)) x
      (subst (IsLoose g spec S2.value order2 y) (sym O.parent) along_y)
      (λ ne. subst (IsLoose g spec S2.value order2 x) (sym (O.others x ne).parent) (loosened x ne (S.parent x) (P.loose x)))

  started2 : (x s : ℕ) → HasVertex g x → start g spec x ≡ Some s → beats spec.kind s (S2.value x) ≡ false
  started2 x s = at_or_else (λ n. HasVertex g n → start g spec n ≡ Some s → beats spec.kind s (S2.value n) ≡ false) x
      (λ h e. beats-by_number spec.kind s (step spec.kind c t.weight) (S2.value y) O.value
      (not_after g spec s (step spec.kind c t.weight) (S.value y) (P.started y s h e) wins))
      (λ ne h e. subst (λ (u : Value). beats spec.kind s u ≡ false) (sym (O.others x ne).value) (P.started x s h e))

  -- the old fact with the new value at the end
  moved : (b x w : ℕ) → improves spec.kind (S.value b) w (S.value x) ≡ false → improves spec.kind (S.value b) w (S2.value x) ≡ false
  moved b x w h = elim (cases_eq x y) [
    | inl e ↦ subst (λ (u : Value). improves spec.kind (S.value b) w u ≡ false) (sym (ap S2.value e ∙ O.value))
        (improves-after g spec (S.value b) w (step spec.kind c t.weight) (S.value y) (subst (λ (n : ℕ). improves spec.kind (S.value b) w (S.value n) ≡ false) e h) wins)
    | inr ne ↦ subst (λ (u : Value). improves spec.kind (S.value b) w u ≡ false) (sym (O.others x ne).value) h
  ]

  stepped2 : (s : Triple) (b x : ℕ) → HasTriple g s → Joins (both_ways spec.kind) s b x → S2.waiting b ≡ false → ¬ (todo s b x)
      → improves spec.kind (S2.value b) s.weight (S2.value x) ≡ false
  stepped2 s b x got leads idle out =
      let other : ¬ (b ≡ y) = λ e. not_both (S2.waiting b) idle (ap S2.waiting e ∙ O.waiting) in
      let same = O.others b other in
      subst (λ (u : Value). improves spec.kind u s.weight (S2.value x) ≡ false) (sym same.value)
      (moved b x s.weight (P.stepped s b x got leads (sym same.waiting ∙ idle) out))

  -- what holds stays so
  pub offers : IsSpreading g spec S2 todo
  offers = record {
    order = order2;
    placed = λ x. at_or_else (λ n. IsPlaced g n (S2.value n)) x
        (subst (IsPlaced g y) (sym O.value) vertex) (λ ne. subst (IsPlaced g x) (sym (O.others x ne).value) (P.placed x));
    loose = loose2;
    sound = λ x m. at_or_else (λ n. S2.value n ≡ Num m → IsReached g spec n m) x
        (λ e. subst (IsReached g spec y) (num-inj (step spec.kind c t.weight) m (sym O.value ∙ e))
        (IsReached-from_walk g spec y (step spec.kind c t.weight) (HasWalk-step g spec a y c t has joins (HasWalk-from_reached g spec a c (P.sound a c number)))))
        (λ ne e. P.sound x m (sym (O.others x ne).value ∙ e));
    started = started2;
    stepped = stepped2;
    numbered = λ x. at_or_else (λ n. S2.waiting n ≡ true → (d : ℕ) × (S2.value n ≡ Num d)) x
        (λ h. (step spec.kind c t.weight, O.value))
        (λ ne h. (let r = P.numbered x (sym (O.others x ne).waiting ∙ h) in (r.0, (O.others x ne).value ∙ r.1)));
  }

  -- the triple improves y no more
  pub improves-no_more : improves spec.kind (S2.value a) t.weight (S2.value y) ≡ false
  improves-no_more =
      improves-number spec.kind (S2.value a) (S2.value y) t.weight c ((O.others a differs).value ∙ number)
      (beats-by_number spec.kind (step spec.kind c t.weight) (step spec.kind c t.weight) (S2.value y) O.value ((laws_of g spec).irreflexive (step spec.kind c t.weight)))

  -- a vertex that is settled isn't y
  settled_other : (b : ℕ) → S2.settled b ≡ true → ¬ (b ≡ y)
  settled_other b h e = not_both (S2.settled y) O.settled (ap S2.settled (sym e) ∙ h)

  settled_before : (b : ℕ) → S2.settled b ≡ true → S.settled b ≡ true
  settled_before b h = sym (O.others b (settled_other b h)).settled ∙ h

  module _ (Q : IsSettling g spec S) (T : IsTaken spec S a c) where
    behind2 : (b m : ℕ) → S2.settled b ≡ true → S2.value b ≡ Num m → better spec.kind c m ≡ false
    behind2 b m h e = T.behind b m (settled_before b h) (sym (O.others b (settled_other b h)).value ∙ e)

    ahead2 : (b n : ℕ) → S2.waiting b ≡ true → S2.value b ≡ Num n → better spec.kind n c ≡ false
    ahead2 b n = at_or_else (λ x. S2.waiting x ≡ true → S2.value x ≡ Num n → better spec.kind n c ≡ false) b
        (λ h e. subst (λ (k : ℕ). better spec.kind k c ≡ false) (num-inj (step spec.kind c t.weight) n (sym O.value ∙ e)) ((laws_of g spec).never_better c t.weight))
        (λ ne h e. T.ahead b n (sym (O.others b ne).waiting ∙ h) (sym (O.others b ne).value ∙ e))

    -- the vertex that was taken last is still so
    pub still_taken : IsTaken spec S2 a c
    still_taken = record {
      number = (O.others a differs).value ∙ number;
      taken = (O.others a differs).settled ∙ T.taken;
      behind = behind2;
      ahead = ahead2;
    }

    -- and those that are settled keep what holds of them
    pub still_settling : IsSettling g spec S2
    still_settling = record {
      apart = λ x h. (O.others x (settled_other x h)).waiting ∙ Q.apart x (settled_before x h);
      exact = λ x h. (let r = Q.exact x (settled_before x h) in (r.0, (O.others x (settled_other x h)).value ∙ r.1, r.2));
      final = λ p b m n hp hb ep eb. not_better_transitive (laws_of g spec) n c m (ahead2 b n hb eb) (behind2 p m hp ep);
    }

-- Less to be looked at

-- what is left to be looked at may shrink by triples that improve nothing
pub narrowed : (g : PlainGraph) (spec : Spec) (S : State) (todo todo2 : Triple → ℕ → ℕ → Type 0) → IsSpreading g spec S todo
    → ((t : Triple) (a x : ℕ) → HasTriple g t → Joins (both_ways spec.kind) t a x → S.waiting a ≡ false → ¬ (todo2 t a x)
    → (¬ (todo t a x)) ⊎ (improves spec.kind (S.value a) t.weight (S.value x) ≡ false))
    → IsSpreading g spec S todo2
narrowed g spec S todo todo2 P less = record {
  order = P.order;
  placed = P.placed;
  loose = P.loose;
  sound = P.sound;
  started = P.started;
  stepped = λ t a x has joins idle out. elim (less t a x has joins idle out) [
    | inl old ↦ P.stepped t a x has joins idle old
    | inr new ↦ new
  ];
  numbered = P.numbered;
}

-- a settled vertex isn't improved from the one that was taken last
pub not_beaten-settled : (g : PlainGraph) (spec : Spec) (S : State) (v c y w : ℕ) → IsSettling g spec S → IsTaken spec S v c → S.settled y ≡ true
    → beats spec.kind (step spec.kind c w) (S.value y) ≡ false
not_beaten-settled g spec S v c y w Q T settled =
    let r = Q.exact y settled in
    beats-by_number spec.kind (step spec.kind c w) r.0 (S.value y) r.1
    (not_better_transitive (laws_of g spec) (step spec.kind c w) c r.0 ((laws_of g spec).never_better c w) (T.behind y r.0 settled r.1))
