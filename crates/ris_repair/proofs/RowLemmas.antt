-- Rows of neighbours: the triples that they stand for, and how many they are.
use Rattle.std.proofs.Common.{◌≡◌, ℕ, ◌+◌, ◌<◌, ◌^◌, Bool, true, false, IsTrue, inl, inr, List, [], ◌∷◌, ◌++◌, ◌≤◌, length, slice_get, None, arith, refl, sym, subst, ap}
use Rattle.std.specs.List.{All, Contains}
use Rattle.std.specs.Option.{option_map}
use Rattle.std.proofs.lemmas.List.Elements.{All-head, All-tail}
use Rattle.ris_base.specs.Falling.{pull, push}
use Rattle.ris_base.specs.Forest.{Joins}
use Rattle.ris_base.specs.Graph.{HasTriple, IsProper, copies, triple}
use Rattle.ris_base.specs.Walk.{both_ways}
use Rattle.ris_base.specs.declared.graphs.PlainGraph.{PlainGraph}
use Rattle.ris_base.specs.declared.graphs.Triple.{Triple}
use Rattle.ris_base.specs.declared.analyses.Kind.{Kind}
use Rattle.ris_base.specs.declared.analyses.Spec.{Spec}
use Rattle.ris_base.proofs.ListLemmas.{Contains-none, Contains-first, Contains-rest, Contains-cases, All-from_Contains}
use Rattle.ris_algo.proofs.Small.{greatest_small}
use Rattle.ris_algo.proofs.Walks.{proper_triple}
use Rattle.ris_rows.specs.Neighbours.{handed}
use Rattle.ris_rows.specs.declared.neighbours.Neighbour.{Neighbour}
use Rattle.ris_graph.specs.GraphView.{GraphView, IsOf, out_row, in_row}
use Rattle.ris_graph.proofs.Laws.{out_neighbour-triple, in_neighbour-triple, triple-out_neighbour, triple-in_neighbour, length-out_row, length-in_row}
use Rattle.ris_repair.specs.Rows.{IsEnd, IsOrigin, pairs, ends_of, origins_of, end_count, origin_count}

-- the pair of a neighbour stands among the pairs
pub Contains-pairs : (row : List Neighbour) (n : Neighbour) → Contains row n → Contains (pairs row) (n.end, n.weight)
Contains-pairs [] n h = absurd (Contains-none n h)
Contains-pairs (m ∷ rest) n h = elim (Contains-cases m rest n h) [
  | inl same ↦ subst (λ (k : Neighbour). Contains (pairs (m ∷ rest)) (k.end, k.weight)) same (Contains-first (m.end, m.weight) (pairs rest))
  | inr later ↦ Contains-rest (m.end, m.weight) (pairs rest) (n.end, n.weight) (Contains-pairs rest n later)
]

-- what stands in a part of a list stands in it
pub Contains-left : (xs ys : List (ℕ × ℕ)) (x : ℕ × ℕ) → Contains xs x → Contains (xs ++ ys) x
Contains-left [] ys x h = absurd (Contains-none x h)
Contains-left (z ∷ zs) ys x h = elim (Contains-cases z zs x h) [
  | inl same ↦ subst (λ (k : ℕ × ℕ). Contains (z ∷ (zs ++ ys)) k) same (Contains-first z (zs ++ ys))
  | inr later ↦ Contains-rest z (zs ++ ys) x (Contains-left zs ys x later)
]

pub Contains-right : (xs ys : List (ℕ × ℕ)) (x : ℕ × ℕ) → Contains ys x → Contains (xs ++ ys) x
Contains-right [] ys x h = h
Contains-right (z ∷ zs) ys x h = Contains-rest z (zs ++ ys) x (Contains-right zs ys x h)

pub append-none : (row : List (ℕ × ℕ)) → row ++ [] ≡ row
append-none [] = refl
append-none (x ∷ xs) = ap (λ (l : List (ℕ × ℕ)). x ∷ l) (append-none xs)

-- weights of triples of a proper graph are small
pub weight_small : (g : PlainGraph) → IsProper g → (t : Triple) → HasTriple g t → t.weight < 2 ^ 36
weight_small g proper t has = (let within = (proper_triple proper t has).weight in let small = greatest_small g.format in omega arith)

module _ (graph : GraphView) (g : PlainGraph) (of : IsOf graph g) where
  -- the neighbours of an out row are ends, and where walks go both ways origins
  pub out_ends : (kind : Kind) (x : ℕ) → All (IsEnd g kind true x) (out_row graph x).items
  out_ends kind x = All-from_Contains (IsEnd g kind true x) (out_row graph x).items (λ n at.
      let has = out_neighbour-triple graph g of x n at in
      record { has = has; end = (proper_triple of.proper (triple x n.end n.weight) has).target; joins = inl (refl, refl) })

  pub out_origins : (kind : Kind) (x : ℕ) → IsTrue (both_ways kind) → All (IsOrigin g kind true x) (out_row graph x).items
  out_origins kind x both = All-from_Contains (IsOrigin g kind true x) (out_row graph x).items (λ n at.
      let has = out_neighbour-triple graph g of x n at in
      record { has = has; here = (proper_triple of.proper (triple x n.end n.weight) has).source; joins = inr (both, refl, refl) })

  -- those of an in row are origins, and where walks go both ways ends
  pub in_origins : (kind : Kind) (x : ℕ) → All (IsOrigin g kind false x) (in_row graph x).items
  in_origins kind x = All-from_Contains (IsOrigin g kind false x) (in_row graph x).items (λ n at.
      let has = in_neighbour-triple graph g of x n at in
      record { has = has; here = (proper_triple of.proper (triple n.end x n.weight) has).target; joins = inl (refl, refl) })

  pub in_ends : (kind : Kind) (x : ℕ) → IsTrue (both_ways kind) → All (IsEnd g kind false x) (in_row graph x).items
  in_ends kind x both = All-from_Contains (IsEnd g kind false x) (in_row graph x).items (λ n at.
      let has = in_neighbour-triple graph g of x n at in
      record { has = has; end = (proper_triple of.proper (triple n.end x n.weight) has).source; joins = inr (both, refl, refl) })

  -- the weights are small
  pub out_weights : (x : ℕ) → All (λ n. n.weight < 2 ^ 36) (out_row graph x).items
  out_weights x = All-from_Contains (λ n. n.weight < 2 ^ 36) (out_row graph x).items
      (λ n at. weight_small g of.proper (triple x n.end n.weight) (out_neighbour-triple graph g of x n at))

  pub in_weights : (x : ℕ) → All (λ n. n.weight < 2 ^ 36) (in_row graph x).items
  in_weights x = All-from_Contains (λ n. n.weight < 2 ^ 36) (in_row graph x).items
      (λ n at. weight_small g of.proper (triple n.end x n.weight) (in_neighbour-triple graph g of x n at))

  in_out : (t : Triple) (a x : ℕ) → HasTriple g t → t.source ≡ a → t.target ≡ x → Contains (pairs (out_row graph a).items) (x, t.weight)
  in_out t a x has from to =
      subst (λ (k : ℕ). Contains (pairs (out_row graph k).items) (x, t.weight)) from
      (subst (λ (k : ℕ). Contains (pairs (out_row graph t.source).items) (k, t.weight)) to
      (Contains-pairs (out_row graph t.source).items (record { end = t.target; weight = t.weight; copies = copies g t }) (triple-out_neighbour graph g of t has)))

  in_in : (t : Triple) (a x : ℕ) → HasTriple g t → t.source ≡ a → t.target ≡ x → Contains (pairs (in_row graph x).items) (a, t.weight)
  in_in t a x has from to =
      subst (λ (k : ℕ). Contains (pairs (in_row graph k).items) (a, t.weight)) to
      (subst (λ (k : ℕ). Contains (pairs (in_row graph t.target).items) (k, t.weight)) from
      (Contains-pairs (in_row graph t.target).items (record { end = t.source; weight = t.weight; copies = copies g t }) (triple-in_neighbour graph g of t has)))

  -- each triple to which walks may go from v stands among its ends
  pub ends_whole : (both : Bool) (kind : Kind) → both ≡ both_ways kind → (v x : ℕ) (t : Triple) → HasTriple g t → Joins (both_ways kind) t v x
      → Contains (ends_of both graph v) (x, t.weight)
  ends_whole true kind ways v x t has joins = elim joins [
    | inl on ↦ Contains-left (pairs (out_row graph v).items) (pairs (in_row graph v).items) (x, t.weight) (in_out t v x has on.0 on.1)
    | inr back ↦ Contains-right (pairs (out_row graph v).items) (pairs (in_row graph v).items) (x, t.weight) (in_in t x v has back.2 back.1)
  ]
  ends_whole false kind ways v x t has joins = elim joins [
    | inl on ↦ in_out t v x has on.0 on.1
    | inr back ↦ (let b = back.0 in absurd (cc))
  ]

  -- each triple from which walks may come to x stands among its origins
  pub origins_whole : (both : Bool) (kind : Kind) → both ≡ both_ways kind → (a x : ℕ) (t : Triple) → HasTriple g t → Joins (both_ways kind) t a x
      → Contains (origins_of both graph x) (a, t.weight)
  origins_whole true kind ways a x t has joins = elim joins [
    | inl on ↦ Contains-left (pairs (in_row graph x).items) (pairs (out_row graph x).items) (a, t.weight) (in_in t a x has on.0 on.1)
    | inr back ↦ Contains-right (pairs (in_row graph x).items) (pairs (out_row graph x).items) (a, t.weight) (in_out t x a has back.2 back.1)
  ]
  origins_whole false kind ways a x t has joins = elim joins [
    | inl on ↦ in_in t a x has on.0 on.1
    | inr back ↦ (let b = back.0 in absurd (cc))
  ]

  -- they are as many as the reach counts
  pub end_count-push : (both : Bool) (spec : Spec) → both ≡ both_ways spec.kind → (x : ℕ) → end_count both graph x ≡ push g spec x
  end_count-push true spec ways x =
      (let one = length-out_row graph g of x in let two = length-in_row graph g of x in rw (← ways) (omega arith))
  end_count-push false spec ways x = rw (← ways) (length-out_row graph g of x)

  pub origin_count-pull : (both : Bool) (spec : Spec) → both ≡ both_ways spec.kind → (x : ℕ) → origin_count both graph x ≡ pull g spec x
  origin_count-pull true spec ways x =
      (let one = length-out_row graph g of x in let two = length-in_row graph g of x in rw (← ways) (omega arith))
  origin_count-pull false spec ways x = rw (← ways) (length-in_row graph g of x)

-- what is true of the items of a row that begins with one
pub All-first : (P : Neighbour → Type 0) (row rest : List Neighbour) (n : Neighbour) → row ≡ n ∷ rest → All P row → P n × All P rest
All-first P row rest n is h =
    let h2 : All P (n ∷ rest) = subst (λ (r : List Neighbour). All P r) is h in
    (All-head P n rest h2, All-tail P n rest h2)

-- a row from which nothing was handed out is empty
pub row_end : (row : List Neighbour) → None ≡ option_map handed (slice_get row 0) → row ≡ []
row_end [] h = refl
row_end (n ∷ ns) h = absurd (cc)

-- the ends of a vertex as one row, and as two
pub ends_one : (both : Bool) (graph : GraphView) (x : ℕ) (row : List Neighbour) → both ≡ false → row ≡ (out_row graph x).items → ends_of both graph x ≡ pairs row ++ []
ends_one both graph x row off e = rw (off, e) (sym (append-none (pairs (out_row graph x).items)))

pub ends_two : (both : Bool) (graph : GraphView) (x : ℕ) (row row2 : List Neighbour) → both ≡ true → row ≡ (out_row graph x).items → row2 ≡ (in_row graph x).items
    → ends_of both graph x ≡ pairs row ++ (pairs row2 ++ [])
ends_two both graph x row row2 on e f = rw (on, e, f) (ap (λ (l : List (ℕ × ℕ)). pairs (out_row graph x).items ++ l) (sym (append-none (pairs (in_row graph x).items))))

-- the origins of a vertex as one row, and as two
pub origins_one : (both : Bool) (graph : GraphView) (x : ℕ) (row : List Neighbour) → both ≡ false → row ≡ (in_row graph x).items → origins_of both graph x ≡ pairs row ++ []
origins_one both graph x row off e = rw (off, e) (sym (append-none (pairs (in_row graph x).items)))

pub origins_two : (both : Bool) (graph : GraphView) (x : ℕ) (row row2 : List Neighbour) → both ≡ true → row ≡ (in_row graph x).items → row2 ≡ (out_row graph x).items
    → origins_of both graph x ≡ pairs row ++ (pairs row2 ++ [])
origins_two both graph x row row2 on e f = rw (on, e, f) (ap (λ (l : List (ℕ × ℕ)). pairs (in_row graph x).items ++ l) (sym (append-none (pairs (out_row graph x).items))))

-- how many they are
pub end_count-one : (both : Bool) (graph : GraphView) (x : ℕ) (row : List Neighbour) → row ≡ (out_row graph x).items → length row ≤ end_count both graph x
end_count-one true graph x row e = (let l = ap (λ (r : List Neighbour). length r) e in omega arith)
end_count-one false graph x row e = (let l = ap (λ (r : List Neighbour). length r) e in omega arith)

pub end_count-two : (both : Bool) (graph : GraphView) (x : ℕ) (row row2 : List Neighbour) → both ≡ true → row ≡ (out_row graph x).items → row2 ≡ (in_row graph x).items
    → length row + length row2 ≤ end_count both graph x
end_count-two true graph x row row2 on e f = (let l = ap (λ (r : List Neighbour). length r) e in let k = ap (λ (r : List Neighbour). length r) f in omega arith)
end_count-two false graph x row row2 on e f = absurd (cc)

pub origin_count-one : (both : Bool) (graph : GraphView) (x : ℕ) (row : List Neighbour) → row ≡ (in_row graph x).items → length row ≤ origin_count both graph x
origin_count-one true graph x row e = (let l = ap (λ (r : List Neighbour). length r) e in omega arith)
origin_count-one false graph x row e = (let l = ap (λ (r : List Neighbour). length r) e in omega arith)

pub origin_count-two : (both : Bool) (graph : GraphView) (x : ℕ) (row row2 : List Neighbour) → both ≡ true → row ≡ (in_row graph x).items → row2 ≡ (out_row graph x).items
    → length row + length row2 ≤ origin_count both graph x
origin_count-two true graph x row row2 on e f = (let l = ap (λ (r : List Neighbour). length r) e in let k = ap (λ (r : List Neighbour). length r) f in omega arith)
origin_count-two false graph x row row2 on e f = absurd (cc)
