-- Noting the triples of the vertices that a request drops.
use Rattle.std.proofs.Common.{◌≡◌, ℕ, ◌+◌, ◌<◌, ◌≤◌, Bool, true, false, cond, ◌==◌, List, [], ◌∷◌, ◌++◌, Option, Some, None, inl, inr, arith, refl, sym, subst, ap, ◌∙◌, append_assoc}
use Rattle.std.specs.HashMap.{get}
use Rattle.std.specs.List.{All, Contains}
use Rattle.std.specs.Option.{is_some}
use Rattle.std.proofs.lemmas.Bool.{cases_Bool}
use Rattle.std.proofs.lemmas.List.Elements.{All-contains, All-nil, All-push, All-weaker, Contains-append_left, Contains-push, Contains-push_cases}
use Rattle.ris_base.specs.Graph.{HasTriple, copies, is_equal, triple}
use Rattle.ris_base.specs.declared.graphs.PlainGraph.{PlainGraph}
use Rattle.ris_base.specs.declared.graphs.Triple.{Triple}
use Rattle.ris_base.proofs.EffectLemmas.{HasTriple-copies, equal_itself, same_from_equal}
use Rattle.ris_base.proofs.ListLemmas.{All-from_Contains, Contains-first, Contains-none, Contains-one}
use Rattle.ris_graph.specs.GraphView.{GraphView, IsOf, copies_in, in_row, out_row}
use Rattle.ris_graph.specs.Ticks.{IsRise, ticked}
use Rattle.ris_graph.proofs.Laws.{in_neighbour-copies, out_neighbour-copies, triple-in_neighbour, triple-out_neighbour}
use Rattle.ris_graph.proofs.ListingLemmas.{IsRise-after}
use Rattle.ris_rows.specs.declared.neighbours.Neighbour.{Neighbour}
use Rattle.ris_txn.specs.Overlays.{key, same_key, triple_note, vertex_note}
use Rattle.ris_txn.specs.Touching.{AreTouched, IsNoted, IsRowTouched, IsTouched, triple_along}
use Rattle.ris_txn.specs.declared.overlays.Overlay.{Overlay}
use Rattle.ris_txn.specs.declared.overlays.TripleNote.{TripleNote}

-- One triple

-- a triple that had no note has the one that says what the graph says
pub noted-new : (old new : Overlay) (t : Triple) (count : ℕ) → new.vertices ≡ old.vertices → is_some (get same_key old.triples (key t)) ≡ false
    → ((q : ℕ × ℕ × ℕ) → get same_key new.triples q ≡ cond (same_key (key t) q) (Some (record { before = count; copies = count; part = 0 })) (get same_key old.triples q))
    → IsTouched old new t count
unfolding vertex_note triple_note
noted-new old new t count vertices none puts = record {
  vertices = λ g x. rw vertices refl;
  triples = λ g has s. elim (cases_Bool (is_equal t s)) [
    | inl same ↦ subst (λ r. triple_note g new r ≡ triple_note g old r) (same_from_equal t s same)
        (rw (puts (key t), equal_itself t, missing (get same_key old.triples (key t)) none, has) refl)
    | inr apart ↦ rw (puts (key s), apart) refl
  ];
  noted = rw (puts (key t), equal_itself t) refl;
  kept = λ s h. elim (cases_Bool (is_equal t s)) [
    | inl same ↦ rw (puts (key s), same) refl
    | inr apart ↦ rw (puts (key s), apart) h
  ];
}
  where
    missing : (o : Option TripleNote) → is_some o ≡ false → o ≡ None
    missing None e = refl
    missing (Some n) e = absurd (cc)

-- Rows

-- no triple yet
pub row-none : (o : Overlay) (out : Bool) (x : ℕ) → IsRowTouched o o out x []
row-none o out x = record { vertices = λ g y. refl; triples = λ g all s. refl; noted = All-nil (λ (n : Neighbour). IsNoted o (triple_along out x n)); kept = λ s h. h }

-- the next neighbour's
pub row-more : (a b c : Overlay) (out : Bool) (x : ℕ) (done : List Neighbour) (n : Neighbour) → IsRowTouched a b out x done → IsTouched b c (triple_along out x n) n.copies
    → IsRowTouched a c out x (done ++ n ∷ [])
row-more a b c out x done n before now = record {
  vertices = λ g y. now.vertices g y ∙ before.vertices g y;
  triples = λ g all s. now.triples g (All-contains (λ m. copies_in g (triple_along out x m) ≡ m.copies) (done ++ n ∷ []) n all (last done n)) s
      ∙ before.triples g (All-front (λ m. copies_in g (triple_along out x m) ≡ m.copies) done n all) s;
  noted = All-push (λ (m : Neighbour). IsNoted c (triple_along out x m)) done n
      (All-weaker (λ (m : Neighbour). IsNoted b (triple_along out x m)) (λ (m : Neighbour). IsNoted c (triple_along out x m)) (λ m h. now.kept (triple_along out x m) h) done before.noted)
      now.noted;
  kept = λ s h. now.kept s (before.kept s h);
}
  where
    last : (done : List Neighbour) (n : Neighbour) → Contains (done ++ n ∷ []) n
    last done n = Contains-push done n

    All-front : (P : Neighbour → Type 0) (done : List Neighbour) (n : Neighbour) → All P (done ++ n ∷ []) → All P done
    All-front P done n all = All-from_Contains P done (λ m at. All-contains P (done ++ n ∷ []) m all (Contains-append_left done (n ∷ []) m at))

-- what is left after one neighbour more
pub left-more : (done rest all ns : List Neighbour) (n : Neighbour) → ns ≡ n ∷ rest → done ++ ns ≡ all → (done ++ n ∷ []) ++ rest ≡ all
left-more done rest all ns n is whole = append_assoc done (n ∷ []) rest ∙ ap (λ l. done ++ l) (sym is) ∙ whole

-- Vertices

module _ (g : GraphView) (p : PlainGraph) (of : IsOf g p) where
  -- the triples of both rows
  pub rows-touched : (a b c : Overlay) (x : ℕ) → IsRowTouched a b false x (in_row g x).items → IsRowTouched b c true x (out_row g x).items → AreTouched g a c (x ∷ [])
  rows-touched a b c x ins outs = record {
    vertices = λ y. outs.vertices g y ∙ ins.vertices g y;
    triples = λ t. outs.triples g (All-from_Contains (λ n. copies_in g (triple_along true x n) ≡ n.copies) (out_row g x).items
        (λ n at. of.triples (triple x n.end n.weight) ∙ sym (out_neighbour-copies g p of x n at))) t
        ∙ ins.triples g (All-from_Contains (λ n. copies_in g (triple_along false x n) ≡ n.copies) (in_row g x).items
        (λ n at. of.triples (triple n.end x n.weight) ∙ sym (in_neighbour-copies g p of x n at))) t;
    noted = λ t some named. (let there : HasTriple p t = HasTriple-copies p t (subst (λ n. 0 < n) (of.triples t) some) in elim named [
      | inl source ↦ (let same : x ≡ t.source = Contains-one x t.source source in
          All-contains (λ n. IsNoted c (triple_along true t.source n)) (out_row g t.source).items (record { end = t.target; weight = t.weight; copies = copies p t })
          (subst (λ u. All (λ n. IsNoted c (triple_along true u n)) (out_row g u).items) same outs.noted) (triple-out_neighbour g p of t there))
      | inr target ↦ (let same : x ≡ t.target = Contains-one x t.target target in
          outs.kept t (All-contains (λ n. IsNoted b (triple_along false t.target n)) (in_row g t.target).items (record { end = t.source; weight = t.weight; copies = copies p t })
          (subst (λ v. All (λ n. IsNoted b (triple_along false v n)) (in_row g v).items) same ins.noted) (triple-in_neighbour g p of t there)))
    ]);
    kept = λ t h. outs.kept t (ins.kept t h);
  }

-- no vertex yet
pub touched-none : (g : GraphView) (o : Overlay) → AreTouched g o o []
touched-none g o = record {
  vertices = λ y. refl;
  triples = λ t. refl;
  noted = λ t some named. elim named [ inl h ↦ absurd (Contains-none t.source h) | inr h ↦ absurd (Contains-none t.target h) ];
  kept = λ t h. h;
}

-- the next vertex's
pub touched-more : (g : GraphView) (a b c : Overlay) (xs : List ℕ) (x : ℕ) → AreTouched g a b xs → AreTouched g b c (x ∷ []) → AreTouched g a c (xs ++ x ∷ [])
touched-more g a b c xs x before now = record {
  vertices = λ y. now.vertices y ∙ before.vertices y;
  triples = λ t. now.triples t ∙ before.triples t;
  noted = λ t some named. elim named [
    | inl h ↦ elim (Contains-push_cases xs x t.source h) [
      | inl old ↦ now.kept t (before.noted t some (inl old))
      | inr same ↦ now.noted t some (inl (subst (Contains (x ∷ [])) same (Contains-first x [])))
    ]
    | inr h ↦ elim (Contains-push_cases xs x t.target h) [
      | inl old ↦ now.kept t (before.noted t some (inr old))
      | inr same ↦ now.noted t some (inr (subst (Contains (x ∷ [])) same (Contains-first x [])))
    ]
  ];
  kept = λ t h. now.kept t (before.kept t h);
}

-- Ticks

-- one rise after another
pub IsRise-joined : (a b c m n most : ℕ) → IsRise a b m → IsRise b c n → m + n ≤ most → IsRise a c most
IsRise-joined a b c m n most first second le = IsRise-after a b c first.ticks n most first.rose second (let few = first.few in omega arith)

-- a rise by no more than more
pub IsRise-wider : (a b m n : ℕ) → IsRise a b m → m ≤ n → IsRise a b n
IsRise-wider a b m n rise le = record { ticks = rise.ticks; few = (let few = rise.few in omega arith); rose = rise.rose }

-- so many ticks add at most so much
ticked-le : (a n : ℕ) → ticked a n ≤ a + n
unfolding ticked
ticked-le a n = elim (cases_Bool (n == 0)) [ inl none ↦ rw none (omega arith) | inr some ↦ rw some (omega arith) ]

pub rise-le : (a b m : ℕ) → IsRise a b m → b ≤ a + m
rise-le a b m rise = (let few = rise.few in let rose = rise.rose in let most = ticked-le a rise.ticks in omega arith)
