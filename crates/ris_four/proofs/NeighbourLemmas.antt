-- Facts on the lists of neighbours.
use Rattle.std.proofs.Common.{◌≡◌, ℕ, ◌<◌, ◌==◌, ◌&&◌, zero, suc, Bool, true, false, if◌then◌else◌, List, [], ◌∷◌, ◌++◌, length, map, get_or, set, arith, refl, sym, ◌∙◌, ap, inl, inr, append_assoc, get_or-set_same, get_or-set_other, Vec, Global}
use Rattle.std.specs.List.{Contains}
use Rattle.std.proofs.lemmas.List.{append-nil, map-set, length-map, get_or-map, length-set}
use Rattle.std.proofs.lemmas.List.Concat.{flat_map-append}
use Rattle.std.proofs.lemmas.List.Elements.{Contains-append_left, Contains-append_right, Contains-append_cases}
use Rattle.std.proofs.lemmas.Bool.{cases_eq, eqb-true, eq-eqb, ne_eqb}
use Rattle.ris_base.specs.Forest.{Joins}
use Rattle.ris_base.specs.declared.graphs.Triple.{Triple}
use Rattle.ris_four.specs.declared.neighbours.Neighbour.{Neighbour}
use Rattle.ris_four.specs.Neighbours.{neighbours_at, neighbours_by, neighbours_to, AreNeighbours, Gain}

abbrev items : Vec Neighbour Global → List Neighbour
items v = v.items

abbrev one_if : Bool → Neighbour → List Neighbour
one_if b n = if b then n ∷ [] else []

-- a list at one place is replaced by one with a neighbour more
pub Gain-set : (lists : List (Vec Neighbour Global)) (x : ℕ) (old new : Vec Neighbour Global) (n : Neighbour)
    → x < length lists → old ≡ get_or lists x old → new.items ≡ old.items ++ n ∷ []
    → Gain (λ y. if x == y then n ∷ [] else []) lists (set lists x new)
Gain-set lists x old new n lt is e = record {
  all = length-set lists x new;
  each = λ y. elim (cases_eq x y) [
    | inl same ↦
        rw (sym same, eq-eqb x x refl)
        (ap (λ (xs : List (List Neighbour)). get_or xs x []) (map-set items lists x new)
        ∙ get_or-set_same (map items lists) x new.items [] (omega (arith, length-map lists items))
        ∙ e
        ∙ ap (λ l. l ++ n ∷ []) (ap items is ∙ sym (get_or-map items lists x old [] lt)))
    | inr other ↦
        rw (ne_eqb x y other)
        (ap (λ (xs : List (List Neighbour)). get_or xs y []) (map-set items lists x new)
        ∙ get_or-set_other (map items lists) x y new.items [] (λ s. other (sym s))
        ∙ sym (append-nil (neighbours_at lists y)))
  ];
}

pub Gain-both : (f g : ℕ → List Neighbour) (a b c : List (Vec Neighbour Global)) → Gain f a b → Gain g b c → Gain (λ x. f x ++ g x) a c
Gain-both f g a b c h k = record {
  all = k.all ∙ h.all;
  each = λ x. k.each x ∙ ap (λ l. l ++ g x) (h.each x) ∙ append_assoc (neighbours_at a x) (f x) (g x);
}

pub Gain-none : (f : ℕ → List Neighbour) (a b : List (Vec Neighbour Global)) → Gain f a b → Gain (λ x. f x ++ []) a b
Gain-none f a b h = record {
  all = h.all;
  each = λ x. h.each x ∙ ap (λ l. neighbours_at a x ++ l) (sym (append-nil (f x)));
}

pub AreNeighbours-push : (both : Bool) (seen : List Triple) (t : Triple) (count : ℕ) (old new : List (Vec Neighbour Global))
    → AreNeighbours both seen count old → Gain (λ x. neighbours_by both x t) old new → AreNeighbours both (seen ++ t ∷ []) count new
AreNeighbours-push both seen t count old new are gain = record {
  all = gain.all ∙ are.all;
  each = λ x lt.
      gain.each x ∙ ap (λ l. l ++ neighbours_by both x t) (are.each x lt)
      ∙ ap (λ l. neighbours_to both x seen ++ l) (sym (append-nil (neighbours_by both x t)))
      ∙ sym (flat_map-append (neighbours_by both x) seen (t ∷ []));
}

and_true : (a b : Bool) → a ≡ true → b ≡ true → (a && b) ≡ true
and_true true true h k = refl
and_true true false h k = k
and_true false b h k = absurd (cc)

and_left : (a b : Bool) → (a && b) ≡ true → a ≡ true
and_left true b h = refl
and_left false b h = h

and_right : (a b : Bool) → (a && b) ≡ true → b ≡ true
and_right true b h = h
and_right false b h = absurd (cc)

single_at : {X : Type 0} (m n : X) (k : ℕ) → k < 1 → get_or (m ∷ []) k n ≡ n → m ≡ n
single_at m n zero lt e = e
single_at m n (suc k) lt e = absurd (omega arith)

pub single_is : {X : Type 0} (m n : X) → Contains (m ∷ []) n → m ≡ n
single_is m n h = single_at m n h.0 h.1 h.2

one_if-is : (b : Bool) (m n : Neighbour) → Contains (one_if b m) n → (b ≡ true) × (m ≡ n)
one_if-is true m n h = (refl, single_is m n h)
one_if-is false m n h = let lt = h.1 in absurd (omega arith)

one_if-contains : (b : Bool) (m : Neighbour) → b ≡ true → Contains (one_if b m) m
one_if-contains true m e = (0, omega arith, refl)
one_if-contains false m e = absurd (cc)

from_one : (both : Bool) (x : ℕ) (t : Triple) (n : Neighbour) → Contains (neighbours_by both x t) n → (t.weight ≡ n.weight) × Joins both t n.other x
from_one both x t n h =
    let forth : Neighbour = record { other = t.source; weight = t.weight } in
    let back : Neighbour = record { other = t.target; weight = t.weight } in
    elim (Contains-append_cases (one_if (t.target == x) forth) (one_if (both && (t.source == x)) back) n h) [
      | inl a ↦
          let is = one_if-is (t.target == x) forth n a in
          (ap (λ (m : Neighbour). m.weight) is.1, inl (ap (λ (m : Neighbour). m.other) is.1, eqb-true t.target x is.0))
      | inr b ↦
          let is = one_if-is (both && (t.source == x)) back n b in (
            ap (λ (m : Neighbour). m.weight) is.1,
            inr (and_left both _ is.0, ap (λ (m : Neighbour). m.other) is.1, eqb-true t.source x (and_right both _ is.0)),
          )
    ]

to_one : (both : Bool) (x u : ℕ) (t : Triple) → Joins both t u x → Contains (neighbours_by both x t) (record { other = u; weight = t.weight })
to_one both x u t joins =
    let forth : Neighbour = record { other = t.source; weight = t.weight } in
    let back : Neighbour = record { other = t.target; weight = t.weight } in
    elim joins [
      | inl a ↦ rw (sym a.0)
          (Contains-append_left (one_if (t.target == x) forth) (one_if (both && (t.source == x)) back) forth
          (one_if-contains (t.target == x) forth (eq-eqb t.target x a.1)))
      | inr b ↦ rw (sym b.1)
          (Contains-append_right (one_if (t.target == x) forth) (one_if (both && (t.source == x)) back) back
          (one_if-contains (both && (t.source == x)) back (and_true both _ b.0 (eq-eqb t.source x b.2))))
    ]

-- each listed neighbour stands for a triple
pub neighbours_to-sound : (both : Bool) (x : ℕ) (triples : List Triple) (n : Neighbour) → Contains (neighbours_to both x triples) n
    → (t : Triple) × Contains triples t × (t.weight ≡ n.weight) × Joins both t n.other x
neighbours_to-sound both x [] n h = let lt = h.1 in absurd (omega arith)
neighbours_to-sound both x (t ∷ rest) n h =
    elim (Contains-append_cases (neighbours_by both x t) (neighbours_to both x rest) n h) [
      | inl a ↦ let is = from_one both x t n a in (t, (0, omega arith, refl), is.0, is.1)
      | inr b ↦
          let found = neighbours_to-sound both x rest n b in
          (found.0, Contains-append_right (t ∷ []) rest found.0 found.1, found.2, found.3)
    ]

-- and each triple that leads to x is listed
pub neighbours_to-complete : (both : Bool) (x u : ℕ) (triples : List Triple) (t : Triple) → Contains triples t → Joins both t u x
    → Contains (neighbours_to both x triples) (record { other = u; weight = t.weight })
neighbours_to-complete both x u [] t h joins = let lt = h.1 in absurd (omega arith)
neighbours_to-complete both x u (s ∷ rest) t h joins =
    elim (Contains-append_cases (s ∷ []) rest t h) [
      | inl a ↦
          let same = single_is s t a in
          Contains-append_left (neighbours_by both x s) (neighbours_to both x rest) _ (rw same (to_one both x u t joins))
      | inr b ↦
          Contains-append_right (neighbours_by both x s) (neighbours_to both x rest) _ (neighbours_to-complete both x u rest t b joins)
    ]

-- the list at a place
pub neighbours_at-read : (lists : List (Vec Neighbour Global)) (x : ℕ) (v : Vec Neighbour Global) → x < length lists → v ≡ get_or lists x v → v.items ≡ neighbours_at lists x
neighbours_at-read lists x v lt is = ap items is ∙ sym (get_or-map items lists x v [] lt)
