-- What a graph tells of the plain graph that it is: its neighbours are the triples, and its rows are as long as the degrees.
use Rattle.std.proofs.Common.{◌≡◌, ℕ, ◌+◌, ◌<◌, ◌≤◌, Bool, true, false, nat_lt, ◌==◌, ◌&&◌, if◌then◌else◌, List, [], ◌∷◌, length, get_or, map, arith, refl, inl, inr, sym, ap, subst, ◌∙◌, zero-add}
use Rattle.std.specs.List.{Contains, count_by}
use Rattle.std.proofs.lemmas.Bool.{cases_Bool, cases_eq, eqb-true, and_parts, lt-ltb}
use Rattle.std.proofs.lemmas.Bool.Decides.{nat_tests}
use Rattle.std.proofs.lemmas.List.{length-map}
use Rattle.ris_base.specs.Graph.{HasTriple, copies, has_equal, is_equal, triple, out_degree, in_degree}
use Rattle.ris_base.specs.declared.graphs.PlainGraph.{PlainGraph}
use Rattle.ris_base.specs.declared.graphs.Triple.{Triple}
use Rattle.ris_base.proofs.CopyLemmas.{out_degree-length, in_degree-length}
use Rattle.ris_base.proofs.EffectLemmas.{one_if, count_by-cons, HasTriple-copies, HasTriple-from_test, has_equal-true, copies-HasTriple}
use Rattle.ris_rows.specs.Neighbours.{IsAscending, copies_of, has, is_of, place_of}
use Rattle.ris_rows.specs.declared.neighbours.Neighbour.{Neighbour}
use Rattle.ris_rows.proofs.Laws.{copies_of-at}
use Rattle.ris_rows.proofs.Orders.{below-not_same, same-self}
use Rattle.ris_rows.proofs.Positions.{copies_of-past, copies_of-missing, copies_of-found, copies_of-some, of-place, place_of-lt, has-at}
use Rattle.ris_graph.specs.GraphView.{GraphView, out_row, in_row, IsOf}

-- Rows

-- a neighbour of a row has its copies, of which there is one at least
pub counted-neighbour : (ns : List Neighbour) (n : Neighbour) → IsAscending ns → Contains ns n → (copies_of ns n.end n.weight ≡ n.copies) × (1 ≤ n.copies)
counted-neighbour ns n up at =
    let here : copies_of ns n.end n.weight ≡ n.copies = rw at.2 at (copies_of-at ns at.0 n up at.1) in
    let same : is_of (get_or ns at.0 n) n.end n.weight ≡ true = rw at.2 (same-self n.end n.weight) in
    let some = copies_of-some ns n.end n.weight up (of-place ns n.end n.weight at.0 n up at.1 same).1 in
    (here, omega arith)

-- what has copies in a row is a neighbour of it
pub listed-neighbour : (ns : List Neighbour) (e w : ℕ) → IsAscending ns → 0 < copies_of ns e w → Contains ns (record { end = e; weight = w; copies = copies_of ns e w })
listed-neighbour ns e w up some =
    let it : Neighbour = record { end = e; weight = w; copies = copies_of ns e w } in
    elim (cases_Bool (has ns e w)) [
      | inr missing ↦ (let none = copies_of-missing ns e w up missing in absurd (omega arith))
      | inl found ↦ (let lt = place_of-lt ns e w found in
          let n : Neighbour = get_or ns (place_of ns e w) it in
          let same : is_of n e w ≡ true = sym (has-at ns e w it lt) ∙ found in
          let parts = and_parts (n.end == e) (n.weight == w) same in
          let copies : n.copies ≡ copies_of ns e w = sym (copies_of-found ns e w it up found) in
          (place_of ns e w, lt, is_it n e w (copies_of ns e w) (eqb-true n.end e parts.0) (eqb-true n.weight w parts.1) copies))
    ]
  where
    is_it : (n : Neighbour) (e w k : ℕ) → n.end ≡ e → n.weight ≡ w → n.copies ≡ k → n ≡ record { end = e; weight = w; copies = k }
    is_it n e w k a b c = rw (← a, ← b, ← c) refl

-- the triples of the neighbours of a row, of which each stands once
count_by-row : (f : Neighbour → Triple) (t : Triple) (b : Bool) (e w : ℕ) → ((n : Neighbour) → is_equal t (f n) ≡ (b && is_of n e w)) → (ns : List Neighbour) → IsAscending ns
    → count_by (is_equal t) (map f ns) ≡ (if b then one_if (nat_lt 0 (copies_of ns e w)) else 0)
count_by-row f t true e w same [] up = refl
count_by-row f t false e w same [] up = refl
count_by-row f t false e w same (n ∷ ns) up =
    let none : one_if (is_equal t (f n)) ≡ 0 = rw (same n) refl in
    let first = count_by-cons (is_equal t) (f n) (map f ns) in
    let rest = count_by-row f t false e w same ns up.2 in
    omega (arith, first, rest)
count_by-row f t true e w same (n ∷ ns) up =
    let first = count_by-cons (is_equal t) (f n) (map f ns) in
    let rest = count_by-row f t true e w same ns up.2 in
    elim (cases_Bool (is_of n e w)) [
      | inl of ↦ (let one : one_if (is_equal t (f n)) ≡ 1 = rw (same n, of) refl in
          let past = copies_of-past n ns e w (below-not_same n.end n.weight e w of) up.1 in
          let none : one_if (nat_lt 0 (copies_of ns e w)) ≡ 0 = rw past refl in
          let copies = up.0 in
          let some : one_if (nat_lt 0 (n.copies + copies_of ns e w)) ≡ 1 = rw (lt-ltb 0 (n.copies + copies_of ns e w) (omega arith)) refl in
          rw of (omega (arith, first, rest)))
      | inr other ↦ (let none : one_if (is_equal t (f n)) ≡ 0 = rw (same n, other) refl in
          let less = ap (λ k. one_if (nat_lt 0 k)) (zero-add (copies_of ns e w)) in
          rw other (omega (arith, first, rest, less)))
    ]

has_equal-copies : (p : PlainGraph) (t : Triple) → nat_lt 0 (copies p t) ≡ has_equal p t
has_equal-copies p t =
    elim (cases_eq (copies p t) 0) [
      | inl none ↦ elim (cases_Bool (has_equal p t)) [
        | inl some ↦ (let more = copies-HasTriple p t (HasTriple-from_test p t some) in absurd (omega arith))
        | inr missing ↦ rw (none, missing) refl
      ]
      | inr some ↦ lt-ltb 0 (copies p t) (omega arith) ∙ sym (has_equal-true p t (HasTriple-copies p t (omega arith)))
    ]

-- Rows of a graph

-- how a triple is compared with one from or to x
pub out_test : (u x v e w k : ℕ) → ((u == x) && (v == e) && (w == k)) ≡ ((u == x) && (e == v && k == w))
out_test u x v e w k = grind (arith, nat_tests)

pub in_test : (u e v x w k : ℕ) → ((u == e) && (v == x) && (w == k)) ≡ ((v == x) && (e == u && k == w))
in_test u e v x w k = grind (arith, nat_tests)

module _ (g : GraphView) (p : PlainGraph) (of : IsOf g p) where
  out_copies : (u e w : ℕ) → copies_of (out_row g u).items e w ≡ copies p (triple u e w)
  out_copies u e w = of.triples (triple u e w)

  in_copies : (v e w : ℕ) → copies_of (in_row g v).items e w ≡ copies p (triple e v w)
  in_copies v e w = of.transposed (triple e v w)

  -- a neighbour of an out row has the copies of a triple of the graph
  pub out_neighbour-copies : (u : ℕ) (n : Neighbour) → Contains (out_row g u).items n → n.copies ≡ copies p (triple u n.end n.weight)
  out_neighbour-copies u n at = sym (counted-neighbour (out_row g u).items n (of.outs u) at).0 ∙ out_copies u n.end n.weight

  pub out_neighbour-triple : (u : ℕ) (n : Neighbour) → Contains (out_row g u).items n → HasTriple p (triple u n.end n.weight)
  out_neighbour-triple u n at =
      let some = (counted-neighbour (out_row g u).items n (of.outs u) at).1 in
      let same = out_neighbour-copies u n at in
      HasTriple-copies p (triple u n.end n.weight) (omega arith)

  -- a triple of the graph is a neighbour of its source's out row
  pub triple-out_neighbour : (t : Triple) → HasTriple p t → Contains (out_row g t.source).items (record { end = t.target; weight = t.weight; copies = copies p t })
  triple-out_neighbour t there =
      let some = copies-HasTriple p t there in
      let same = of.triples t in
      subst (λ k. Contains (out_row g t.source).items (record { end = t.target; weight = t.weight; copies = k })) same
      (listed-neighbour (out_row g t.source).items t.target t.weight (of.outs t.source) (omega arith))

  -- a neighbour of an in row has the copies of a triple of the graph
  pub in_neighbour-copies : (v : ℕ) (n : Neighbour) → Contains (in_row g v).items n → n.copies ≡ copies p (triple n.end v n.weight)
  in_neighbour-copies v n at = sym (counted-neighbour (in_row g v).items n (of.ins v) at).0 ∙ in_copies v n.end n.weight

  pub in_neighbour-triple : (v : ℕ) (n : Neighbour) → Contains (in_row g v).items n → HasTriple p (triple n.end v n.weight)
  in_neighbour-triple v n at =
      let some = (counted-neighbour (in_row g v).items n (of.ins v) at).1 in
      let same = in_neighbour-copies v n at in
      HasTriple-copies p (triple n.end v n.weight) (omega arith)

  -- a triple of the graph is a neighbour of its target's in row
  pub triple-in_neighbour : (t : Triple) → HasTriple p t → Contains (in_row g t.target).items (record { end = t.source; weight = t.weight; copies = copies p t })
  triple-in_neighbour t there =
      let some = copies-HasTriple p t there in
      let same = of.transposed t in
      subst (λ k. Contains (in_row g t.target).items (record { end = t.source; weight = t.weight; copies = k })) same
      (listed-neighbour (in_row g t.target).items t.source t.weight (of.ins t.target) (omega arith))

  -- whether a row of x has a triple
  out_has : (x : ℕ) (t : Triple) → (if t.source == x then one_if (nat_lt 0 (copies_of (out_row g x).items t.target t.weight)) else 0) ≡ (if t.source == x then one_if (has_equal p t) else 0)
  out_has x t = elim (cases_Bool (t.source == x)) [
    | inl same ↦ (let at : copies_of (out_row g x).items t.target t.weight ≡ copies p t
        = subst (λ u. copies_of (out_row g u).items t.target t.weight ≡ copies p t) (eqb-true t.source x same) (of.triples t) in
        rw same (ap (λ k. one_if (nat_lt 0 k)) at ∙ ap one_if (has_equal-copies p t)))
    | inr other ↦ rw other refl
  ]

  in_has : (x : ℕ) (t : Triple) → (if t.target == x then one_if (nat_lt 0 (copies_of (in_row g x).items t.source t.weight)) else 0) ≡ (if t.target == x then one_if (has_equal p t) else 0)
  in_has x t = elim (cases_Bool (t.target == x)) [
    | inl same ↦ (let at : copies_of (in_row g x).items t.source t.weight ≡ copies p t
        = subst (λ v. copies_of (in_row g v).items t.source t.weight ≡ copies p t) (eqb-true t.target x same) (of.transposed t) in
        rw same (ap (λ k. one_if (nat_lt 0 k)) at ∙ ap one_if (has_equal-copies p t)))
    | inr other ↦ rw other refl
  ]

  -- the rows are as long as the degrees
  pub length-out_row : (x : ℕ) → length (out_row g x).items ≡ out_degree p x
  length-out_row x =
      let f = λ (n : Neighbour). triple x n.end n.weight in
      sym (length-map (out_row g x).items f) ∙ out_degree-length p x (map f (out_row g x).items) (λ t.
      count_by-row f t (t.source == x) t.target t.weight (λ n. out_test t.source x t.target n.end t.weight n.weight) (out_row g x).items (of.outs x) ∙ out_has x t)

  pub length-in_row : (x : ℕ) → length (in_row g x).items ≡ in_degree p x
  length-in_row x =
      let f = λ (n : Neighbour). triple n.end x n.weight in
      sym (length-map (in_row g x).items f) ∙ in_degree-length p x (map f (in_row g x).items) (λ t.
      count_by-row f t (t.target == x) t.source t.weight (λ n. in_test t.source n.end t.target x t.weight n.weight) (in_row g x).items (of.ins x) ∙ in_has x t)
