-- Facts on the graphs that tests build.
use Rattle.std.proofs.Common.{◌≡◌, ℕ, ◌+◌, ◌-◌, ◌<◌, ◌≤◌, zero, suc, List, [], ◌∷◌, ◌++◌, length, get_or, arith, sym, ◌∙◌, ap, subst}
use Rattle.std.specs.List.{All, Contains, range_with_len}
use Rattle.std.proofs.lemmas.List.FromFn.{get_or-range_with_len, length-range_with_len}
use Rattle.ris_base.specs.Graph.{IsProper}
use Rattle.ris_base.specs.Limits.{greatest_of}
use Rattle.ris_base.specs.declared.graphs.PlainGraph.{PlainGraph}

range_more : (a n : ℕ) → range_with_len a (suc n) ≡ range_with_len a n ++ (a + n) ∷ []
range_more a zero = let e : a ≡ a + 0 = omega arith in ap (λ k. k ∷ []) e
range_more a (suc n) =
    let e : (a + 1) + n ≡ a + suc n = omega arith in
    ap (λ l. a ∷ l) (range_more (a + 1) n ∙ ap (λ k. range_with_len (a + 1) n ++ k ∷ []) e)

-- one more number of a range
pub range_push : (a x : ℕ) (xs ys : List ℕ) → a ≤ x → xs ≡ range_with_len a (x - a) → ys ≡ xs ++ x ∷ [] → ys ≡ range_with_len a ((x + 1) - a)
range_push a x xs ys le is more =
    let last : x ≡ a + (x - a) = omega arith in
    let next : suc (x - a) ≡ (x + 1) - a = omega arith in
    more ∙ ap (λ l. l ++ x ∷ []) is ∙ ap (λ k. range_with_len a (x - a) ++ k ∷ []) last ∙ sym (range_more a (x - a)) ∙ ap (range_with_len a) next

range_contains : (a n x : ℕ) → a ≤ x → x < a + n → Contains (range_with_len a n) x
range_contains a n x low high =
    let at = get_or-range_with_len a n (x - a) x (omega arith) in
    let len = length-range_with_len a n in
    (x - a, omega arith, omega arith)

-- consecutive vertices below the limit, and triples between them, are a proper graph
pub IsProper-range : (a b : ℕ) (g : PlainGraph) → a ≤ b → b ≤ 4194304 → g.vertices ≡ range_with_len a (b - a)
    → All (λ t. (a ≤ t.source) × (t.source < b) × (a ≤ t.target) × (t.target < b) × (t.weight ≤ greatest_of g.format)) g.triples → IsProper g
IsProper-range a b g order limit is within =
    let n = b - a in
    let len = length-range_with_len a n in
    let count : length g.vertices ≡ n = ap length is ∙ len in
    let each : (k d : ℕ) → k < n → get_or g.vertices k d ≡ a + k = λ k d lt. ap (λ xs. get_or xs k d) is ∙ get_or-range_with_len a n k d lt in
    record {
      once = λ i j li lj e. let ei = each i 0 (omega arith) in let ej = each j 0 (omega arith) in omega arith;
      vertices = λ k d lt. let e = each k d (omega arith) in omega arith;
      triples = λ k d lt. let h = within k d lt in let t = get_or g.triples k d in record {
        source = subst (λ xs. Contains xs t.source) (sym is) (range_contains a n t.source h.0 (omega arith));
        target = subst (λ xs. Contains xs t.target) (sym is) (range_contains a n t.target h.2 (omega arith));
        weight = h.4;
      };
    }
