-- What a round makes of a table.
use Rattle.std.proofs.Common.{◌≡◌, ℕ, ◌+◌, ◌-◌, ◌<◌, ◌≤◌, ◌⊎◌, zero, suc, Bool, true, false, if◌then◌else◌, List, [], ◌∷◌, length, arith, refl, sym, ◌∙◌, ap, inl, inr, subst, Option, Vec, Global}
use Rattle.std.specs.List.{Contains}
use Rattle.std.proofs.lemmas.List.{get_or_past}
use Rattle.std.proofs.lemmas.List.FromFn.{get_or-map-range_with_len, length-map-range_with_len}
use Rattle.std.proofs.lemmas.List.Elements.{Contains-append_cases}
use Rattle.ris_base.specs.declared.analyses.Value.{Value}
use Rattle.ris_base.specs.declared.analyses.Value.TheVariants.{Absent, Unreached, Num}
use Rattle.ris_algo.specs.Laws.{IsMonotone}
use Rattle.ris_algo.proofs.Along.{not_better-back, not_better_transitive}
use Rattle.ris_four.specs.declared.neighbours.Neighbour.{Neighbour}
use Rattle.ris_four.specs.Rounds.{value_at, better_value, improved_value, best_value, next_value, next_values, values_after}
use Rattle.ris_four.proofs.NeighbourLemmas.{single_is}

module _ (start : ℕ → Option ℕ) (step : ℕ → ℕ → ℕ) (better : ℕ → ℕ → Bool) (laws : IsMonotone start step better) where
  better_value-from : (present : Value) (c : ℕ) → (better_value step better present c ≡ present) ⊎ (better_value step better present c ≡ Num c)
  better_value-from Absent c = inr refl
  better_value-from Unreached c = inr refl
  better_value-from (Num b) c = go (better c b)
    where
      go : (p : Bool) → ((if p then Num c else Num b) ≡ Num b) ⊎ ((if p then Num c else Num b) ≡ Num c)
      go true = inr refl
      go false = inl refl

  better_value-kept : (b c : ℕ) → (r : ℕ) × (better_value step better (Num b) c ≡ Num r) × (better b r ≡ false)
  better_value-kept b c = go (better c b) refl
    where
      go : (p : Bool) → better c b ≡ p → (r : ℕ) × ((if p then Num c else Num b) ≡ Num r) × (better b r ≡ false)
      go true e = (c, refl, not_better-back laws c b e)
      go false e = (b, refl, laws.irreflexive b)

  better_value-offers : (present : Value) (c : ℕ) → (r : ℕ) × (better_value step better present c ≡ Num r) × (better c r ≡ false)
  better_value-offers Absent c = (c, refl, laws.irreflexive c)
  better_value-offers Unreached c = (c, refl, laws.irreflexive c)
  better_value-offers (Num b) c = go (better c b) refl
    where
      go : (p : Bool) → better c b ≡ p → (r : ℕ) × ((if p then Num c else Num b) ≡ Num r) × (better c r ≡ false)
      go true e = (c, refl, laws.irreflexive c)
      go false e = (b, refl, e)

  improved-from : (present from : Value) (w : ℕ)
      → (improved_value step better present from w ≡ present) ⊎ ((c : ℕ) × (from ≡ Num c) × (improved_value step better present from w ≡ Num (step c w)))
  improved-from present Absent w = inl refl
  improved-from present Unreached w = inl refl
  improved-from present (Num c) w =
      elim (better_value-from present (step c w)) [ inl e ↦ inl e | inr e ↦ inr (c, refl, e) ]

  improved-kept : (b : ℕ) (from : Value) (w : ℕ) → (r : ℕ) × (improved_value step better (Num b) from w ≡ Num r) × (better b r ≡ false)
  improved-kept b Absent w = (b, refl, laws.irreflexive b)
  improved-kept b Unreached w = (b, refl, laws.irreflexive b)
  improved-kept b (Num c) w = better_value-kept b (step c w)

  -- a value made of a vertex's value and its neighbours' values, none of which it is worse than
  pub record IsBest (values : List Value) (present : Value) (neighbours : List Neighbour) (best : Value) : Type 0 where
    pub from : (best ≡ present) ⊎ ((n : Neighbour) × (c : ℕ) × Contains neighbours n × (value_at values n.other ≡ Num c) × (best ≡ Num (step c n.weight)))
    pub kept : (b : ℕ) → present ≡ Num b → (r : ℕ) × (best ≡ Num r) × (better b r ≡ false)
    pub offers : (n : Neighbour) (c : ℕ) → Contains neighbours n → value_at values n.other ≡ Num c → (r : ℕ) × (best ≡ Num r) × (better (step c n.weight) r ≡ false)

  -- what is not better than b, and b not than a value's number, is not better than that number
  trans_to : (a b : ℕ) (best : Value) → better a b ≡ false → (r : ℕ) × (best ≡ Num r) × (better b r ≡ false) → (r : ℕ) × (best ≡ Num r) × (better a r ≡ false)
  trans_to a b best h k = (k.0, k.1, not_better_transitive laws a b k.0 h k.2)

  Contains-rest : (n : Neighbour) (rest : List Neighbour) (m : Neighbour) → Contains rest m → Contains (n ∷ rest) m
  Contains-rest n rest m h = (suc h.0, omega (arith, h.1), h.2)

  pub best_value-IsBest : (values : List Value) (present : Value) (neighbours : List Neighbour) → IsBest values present neighbours (best_value step better values present neighbours)
  best_value-IsBest values present [] = record {
    from = inl refl;
    kept = λ b e. (b, e, laws.irreflexive b);
    offers = λ n c h e. let lt = h.1 in absurd (omega arith);
  }
  best_value-IsBest values present (n ∷ rest) =
      let w = n.weight in
      let other = value_at values n.other in
      let first = improved_value step better present other w in
      let after = best_value-IsBest values first rest in
      let best = best_value step better values first rest in
      record {
        from = elim after.from [
          | inl same ↦ elim (improved-from present other w) [
            | inl e ↦ inl (same ∙ e)
            | inr s ↦ inr (n, s.0, (0, omega arith, refl), s.1, same ∙ s.2)
          ]
          | inr s ↦ inr (s.0, s.1, Contains-rest n rest s.0 s.2, s.3, s.4)
        ];
        kept = λ b e.
            let step-kept = improved-kept b other w in
            let is : first ≡ Num step-kept.0 = ap (λ v. improved_value step better v other w) e ∙ step-kept.1 in
            trans_to b step-kept.0 best step-kept.2 (after.kept step-kept.0 is);
        offers = λ m c h e. elim (Contains-append_cases (n ∷ []) rest m h) [
          | inl a ↦
              let same = single_is n m a in
              let offered = better_value-offers present (step c w) in
              let here : other ≡ Num c = ap (λ (k : Neighbour). value_at values k.other) same ∙ e in
              let is : first ≡ Num offered.0 = ap (λ v. improved_value step better present v w) here ∙ offered.1 in
              subst (λ (k : Neighbour). (r : ℕ) × (best ≡ Num r) × (better (step c k.weight) r ≡ false)) same
              (trans_to (step c w) offered.0 best offered.2 (after.kept offered.0 is))
          | inr b ↦ after.offers m c b e
        ];
      }

module _ (step : ℕ → ℕ → ℕ) (better : ℕ → ℕ → Bool) (lists : List (Vec Neighbour Global)) where
  pub length-next_values : (values : List Value) → length (next_values step better lists values) ≡ length values
  length-next_values values = length-map-range_with_len (next_value step better lists values) 0 (length values)

  pub length-values_after : (n : ℕ) (values : List Value) → length (values_after step better lists n values) ≡ length values
  length-values_after zero values = refl
  length-values_after (suc n) values = length-next_values (values_after step better lists n values) ∙ length-values_after n values

  pub value_at-next_values : (values : List Value) (x : ℕ) → x < length values → value_at (next_values step better lists values) x ≡ next_value step better lists values x
  value_at-next_values values x lt =
      get_or-map-range_with_len (next_value step better lists values) 0 (length values) x x Absent lt (omega arith)

  -- a table that a round leaves alone stays as it is
  pub values_after-settled : (values : List Value) (n m : ℕ) → next_values step better lists (values_after step better lists n values) ≡ values_after step better lists n values
      → values_after step better lists (m + n) values ≡ values_after step better lists n values
  values_after-settled values n zero e =
      let none : 0 + n ≡ n = omega arith in
      ap (λ k. values_after step better lists k values) none
  values_after-settled values n (suc m) e =
      let one : suc m + n ≡ suc (m + n) = omega arith in
      ap (λ k. values_after step better lists k values) one
      ∙ ap (next_values step better lists) (values_after-settled values n m e)
      ∙ e

  -- a table that a round leaves alone is that after any number of rounds that is no less
  pub values_after-same : (first values next : List Value) (done rounds : ℕ) → done ≤ rounds → values ≡ values_after step better lists done first
      → next ≡ next_values step better lists values → values ≡ next → values ≡ values_after step better lists rounds first
  values_after-same first values next done rounds le is round same =
      let whole : (rounds - done) + done ≡ rounds = omega arith in
      let settled = values_after-settled first done (rounds - done) (ap (next_values step better lists) (sym is) ∙ sym round ∙ sym same ∙ is) in
      is ∙ sym settled ∙ ap (λ k. values_after step better lists k first) whole

pub value_at-past : (values : List Value) (x : ℕ) → length values ≤ x → value_at values x ≡ Absent
value_at-past values x le = get_or_past values x Absent le
