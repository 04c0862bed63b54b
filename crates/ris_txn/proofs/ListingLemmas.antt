-- The lists that are read off an overlay: what they contain, each once.
use Rattle.std.proofs.Common.{◌≡◌, ◌≢◌, ℕ, ◌≤◌, Bool, true, false, not, ◌==◌, nat_eq, cond, List, [], ◌∷◌, map, ◌⊎◌, arith, refl, sym, subst, ap, ◌∙◌, inl, inr}
use Rattle.std.specs.Cmp.{IsEquivalence, both_ways}
use Rattle.std.specs.List.{All, AllByRecursion, AllPairs, Contains, IsDistinct, filter, sum_by}
use Rattle.std.specs.Map.{keys_of}
use Rattle.std.proofs.lemmas.Bool.{both_ways as never_both, eq-eqb, eqb-true, not-true}
use Rattle.std.proofs.lemmas.List.Elements.{All-cons, All-map, All-nil}
use Rattle.std.proofs.lemmas.List.Filters.{sum_by-filter_both}
use Rattle.std.proofs.lemmas.List.Kept.{AllPairs-cons}
use Rattle.std.proofs.lemmas.List.Sums.{sum_by-cons}
use Rattle.ris_base.specs.Falling.{Drops}
use Rattle.ris_base.specs.Graph.{EachOnce, is_equal, triple}
use Rattle.ris_base.specs.declared.updates.Update.{Update}
use Rattle.ris_base.specs.declared.updates.Update.TheVariants.{AddV, DelV, AddE, DelE, SetW}
use Rattle.ris_base.proofs.EffectLemmas.{equal_itself, same_from_equal}
use Rattle.ris_base.proofs.ListLemmas.{Contains-cases, Contains-filter, Contains-first, Contains-none, Contains-rest, EachOnce-cons, EachOnce-filter, EachOnce-head, EachOnce-nil}
use Rattle.ris_graph.specs.GraphView.{GraphView}
use Rattle.ris_txn.specs.Listing.{chosen, net_triple}
use Rattle.ris_txn.specs.Overlays.{key, same_key}
use Rattle.ris_txn.specs.declared.overlays.Overlay.{Overlay}
use Rattle.ris_txn.specs.declared.overlays.TripleNote.{TripleNote}
use Rattle.ris_txn.specs.declared.overlays.VertexNote.{VertexNote}

-- Keys of triples

pub same_key-exact : (a b : ℕ × ℕ × ℕ) → same_key a b ≡ true → a ≡ b
same_key-exact a b h = ap key (same_from_equal (triple a.0 a.1 a.2) (triple b.0 b.1 b.2) h)

same_key-itself : (a : ℕ × ℕ × ℕ) → same_key a a ≡ true
same_key-itself a = equal_itself (triple a.0 a.1 a.2)

pub same_key-laws : IsEquivalence same_key
same_key-laws = record {
  refl = same_key-itself;
  symm = λ a b. both_ways (same_key a b) (same_key b a) (λ h. subst (λ k. same_key k a ≡ true) (same_key-exact a b h) (same_key-itself a))
      (λ h. subst (λ k. same_key k b ≡ true) (same_key-exact b a h) (same_key-itself b));
  congr = λ a b k h. ap (λ x. same_key x k) (same_key-exact a b h);
}

-- Vertices

-- a chosen vertex has an entry that passes the test
pub Contains-chosen : (test : ℕ → VertexNote → Bool) (es : List (ℕ × VertexNote)) (x : ℕ) → Contains (chosen test es) x
    → (n : VertexNote) × Contains es (x, n) × (test x n ≡ true)
Contains-chosen test [] x h = absurd (Contains-none x h)
Contains-chosen test (e ∷ es) x h = go (test e.0 e.1) refl h (Contains-chosen test es x)
  where
    later : (n : VertexNote) × Contains es (x, n) × (test x n ≡ true) → (n : VertexNote) × Contains (e ∷ es) (x, n) × (test x n ≡ true)
    later r = (r.0, Contains-rest e es (x, r.0) r.1, r.2)

    go : (b : Bool) → test e.0 e.1 ≡ b → Contains (cond b (e.0 ∷ chosen test es) (chosen test es)) x
        → (Contains (chosen test es) x → (n : VertexNote) × Contains es (x, n) × (test x n ≡ true))
        → (n : VertexNote) × Contains (e ∷ es) (x, n) × (test x n ≡ true)
    go true passes k more = elim (Contains-cases e.0 (chosen test es) x k) [
      | inl same ↦ (e.1, subst (λ y. Contains (e ∷ es) (y, e.1)) same (Contains-first e es), subst (λ y. test y e.1 ≡ true) same passes)
      | inr other ↦ later (more other)
    ]
    go false fails k more = later (more k)

-- a vertex whose entry passes the test is chosen
pub chosen-Contains : (test : ℕ → VertexNote → Bool) (es : List (ℕ × VertexNote)) (x : ℕ) (n : VertexNote) → Contains es (x, n) → test x n ≡ true → Contains (chosen test es) x
chosen-Contains test [] x n h passes = absurd (Contains-none (x, n) h)
chosen-Contains test (e ∷ es) x n h passes = go (test e.0 e.1) refl (Contains-cases e es (x, n) h) (λ at. chosen-Contains test es x n at passes)
  where
    go : (b : Bool) → test e.0 e.1 ≡ b → (e ≡ (x, n)) ⊎ Contains es (x, n) → (Contains es (x, n) → Contains (chosen test es) x)
        → Contains (cond b (e.0 ∷ chosen test es) (chosen test es)) x
    go true is (inl same) more = subst (λ (f : ℕ × VertexNote). Contains (e.0 ∷ chosen test es) f.0) same (Contains-first e.0 (chosen test es))
    go true is (inr other) more = Contains-rest e.0 (chosen test es) x (more other)
    go false is (inl same) more = absurd (never_both (test e.0 e.1) is (subst (λ (f : ℕ × VertexNote). test f.0 f.1 ≡ true) (sym same) passes))
    go false is (inr other) more = more other

-- a key that differs from all of a list isn't among them
apart-keys : (x : ℕ) (es : List (ℕ × VertexNote)) (n : VertexNote) → AllByRecursion (λ y. nat_eq x y ≡ false) (keys_of es) → ¬ (Contains es (x, n))
apart-keys x [] n apart h = Contains-none (x, n) h
apart-keys x (e ∷ es) n apart h = elim (Contains-cases e es (x, n) h) [
  | inl same ↦ never_both (nat_eq x x) (subst (λ (f : ℕ × VertexNote). nat_eq x f.0 ≡ false) same apart.0) (eq-eqb x x refl)
  | inr other ↦ apart-keys x es n apart.1 other
]

-- the chosen vertices stand once
pub EachOnce-chosen : (test : ℕ → VertexNote → Bool) (es : List (ℕ × VertexNote)) → IsDistinct nat_eq (keys_of es) → EachOnce (chosen test es)
unfolding IsDistinct
EachOnce-chosen test [] distinct = EachOnce-nil
EachOnce-chosen test (e ∷ es) distinct = go (test e.0 e.1) (EachOnce-chosen test es distinct.1)
  where
    go : (b : Bool) → EachOnce (chosen test es) → EachOnce (cond b (e.0 ∷ chosen test es) (chosen test es))
    go true once = EachOnce-cons e.0 (chosen test es) (λ h. (let r = Contains-chosen test es e.0 h in apart-keys e.0 es r.0 distinct.0 r.1)) once
    go false once = once

-- Triples

-- the triples of a net stand once
pub pairs-net_triple : (g : GraphView) (o : Overlay) (es : List ((ℕ × ℕ × ℕ) × TripleNote)) → IsDistinct same_key (keys_of es)
    → AllPairs (λ s t. is_equal s.triple t.triple ≢ true) (map (net_triple g o) es)
unfolding IsDistinct
pairs-net_triple g o [] distinct = λ i j d lt less. absurd (omega arith)
pairs-net_triple g o (e ∷ es) distinct =
    AllPairs-cons (λ s t. is_equal s.triple t.triple ≢ true) (net_triple g o e) (map (net_triple g o) es)
    (All-map (λ t. is_equal (net_triple g o e).triple t.triple ≢ true) (net_triple g o) es (apart es distinct.0))
    (pairs-net_triple g o es distinct.1)
  where
    apart : (fs : List ((ℕ × ℕ × ℕ) × TripleNote)) → AllByRecursion (λ k. same_key e.0 k ≡ false) (keys_of fs)
        → All (λ f. is_equal (net_triple g o e).triple (net_triple g o f).triple ≢ true) fs
    apart [] h = All-nil (λ f. is_equal (net_triple g o e).triple (net_triple g o f).triple ≢ true)
    apart (f ∷ fs) h = All-cons (λ f. is_equal (net_triple g o e).triple (net_triple g o f).triple ≢ true) f fs (λ same. never_both (same_key e.0 f.0) h.0 same) (apart fs h.1)

-- what a list contains, the list of what is made of its items contains
pub Contains-mapped : {X Y : Type 0} (f : X → Y) (xs : List X) (x : X) → Contains xs x → Contains (map f xs) (f x)
Contains-mapped f [] x h = absurd (Contains-none x h)
Contains-mapped f (a ∷ xs) x h = elim (Contains-cases a xs x h) [
  | inl same ↦ subst (λ b. Contains (f a ∷ map f xs) (f b)) same (Contains-first (f a) (map f xs))
  | inr other ↦ Contains-rest (f a) (map f xs) (f x) (Contains-mapped f xs x other)
]

-- Sums

-- one number, standing at most once
sum_by-same : (f : ℕ → ℕ) (y : ℕ) (xs : List ℕ) → EachOnce xs → ((x : ℕ) → Contains xs x → x ≡ y) → sum_by f xs ≤ f y
sum_by-same f y [] once same = omega arith
sum_by-same f y (a ∷ []) once same =
    let sum = sum_by-cons f a [] in
    let is = ap f (same a (Contains-first a [])) in
    omega arith
sum_by-same f y (a ∷ b ∷ xs) once same =
    let first = same a (Contains-first a (b ∷ xs)) in
    let second = same b (Contains-rest a (b ∷ xs) b (Contains-first b xs)) in
    absurd (EachOnce-head a (b ∷ xs) once (subst (λ n. Contains (b ∷ xs) n) (second ∙ sym first) (Contains-first b xs)))

-- of distinct vertices that the parts drop, each has a part
pub sum_by-drops : (f : ℕ → ℕ) (weight : Update → ℕ) → ((x : ℕ) → f x ≤ weight (DelV x)) → (parts : List Update) (xs : List ℕ) → EachOnce xs
    → ((x : ℕ) → Contains xs x → Drops parts x) → sum_by f xs ≤ sum_by weight parts
sum_by-drops f weight heavy [] [] once each = omega arith
sum_by-drops f weight heavy [] (a ∷ xs) once each = absurd (Contains-none (DelV a) (each a (Contains-first a xs)))
sum_by-drops f weight heavy (DelV y ∷ parts) xs once each =
    let rest = sum_by-drops f weight heavy parts (filter (λ x. not (x == y)) xs) (EachOnce-filter (λ x. not (x == y)) xs once) (λ x h. (
    let at = Contains-filter (λ x. not (x == y)) xs x h in
    elim (Contains-cases (DelV y) parts (DelV x) (each x at.0)) [
      | inl same ↦ absurd (never_both (x == y) (not-true (x == y) at.1) (eq-eqb x y (let e : y ≡ x = cc in sym e)))
      | inr other ↦ other
    ])) in
    let one = sum_by-same f y (filter (λ x. x == y) xs) (EachOnce-filter (λ x. x == y) xs once) (λ x h. eqb-true x y (Contains-filter (λ x. x == y) xs x h).1) in
    let both = sum_by-filter_both (λ x. x == y) (λ x. not (x == y)) (λ x. refl) f xs in
    let sum = sum_by-cons weight (DelV y) parts in
    let enough = heavy y in
    omega arith
sum_by-drops f weight heavy (AddV y ∷ parts) xs once each =
    let rest = sum_by-drops f weight heavy parts xs once (λ x h. elim (Contains-cases (AddV y) parts (DelV x) (each x h)) [ inl same ↦ absurd (cc) | inr other ↦ other ]) in
    let sum = sum_by-cons weight (AddV y) parts in
    omega arith
sum_by-drops f weight heavy (AddE u v w ∷ parts) xs once each =
    let rest = sum_by-drops f weight heavy parts xs once (λ x h. elim (Contains-cases (AddE u v w) parts (DelV x) (each x h)) [ inl same ↦ absurd (cc) | inr other ↦ other ]) in
    let sum = sum_by-cons weight (AddE u v w) parts in
    omega arith
sum_by-drops f weight heavy (DelE u v w ∷ parts) xs once each =
    let rest = sum_by-drops f weight heavy parts xs once (λ x h. elim (Contains-cases (DelE u v w) parts (DelV x) (each x h)) [ inl same ↦ absurd (cc) | inr other ↦ other ]) in
    let sum = sum_by-cons weight (DelE u v w) parts in
    omega arith
sum_by-drops f weight heavy (SetW u v w w2 ∷ parts) xs once each =
    let rest = sum_by-drops f weight heavy parts xs once (λ x h. elim (Contains-cases (SetW u v w w2) parts (DelV x) (each x h)) [ inl same ↦ absurd (cc) | inr other ↦ other ]) in
    let sum = sum_by-cons weight (SetW u v w w2) parts in
    omega arith
