-- The triples of a net put into rows one after another.
use Rattle.std.proofs.Common.{◌≡◌, ℕ, ◌+◌, ◌<◌, ◌≤◌, Bool, true, false, not, ◌&&◌, ◌==◌, nat_lt, cond, List, [], ◌∷◌, ◌++◌, length, get_or, take, arith, refl, inl, inr, sym, ap, subst, ◌∙◌}
use Rattle.std.specs.List.{All, count_by, list_any}
use Rattle.std.proofs.lemmas.Bool.{cases_eq, cases_Bool, and_parts, both_ways, eqb-true, eq-eqb, ne_eqb, lt-ltb}
use Rattle.std.proofs.lemmas.Bool.Decides.{nat_tests}
use Rattle.std.proofs.lemmas.List.{length_push, length-take-le, get_or-take, get_or_default, get_or_append_left, get_or_push, take_more}
use Rattle.std.proofs.lemmas.List.Elements.{All-push}
use Rattle.std.proofs.lemmas.List.Folds.{list_any_at, Any-from_list_any}
use Rattle.std.proofs.lemmas.List.Sums.{sum_by_push, sum_by_more_le}
use Rattle.ris_rows.specs.Neighbours.{copies_of}
use Rattle.ris_rows.specs.RowView.{RowView}
use Rattle.ris_graph.specs.Putting.{count_from, count_to, comes_to, is_at, IsPut, IsPutOnce, HasPutRoom, ArePut, CanPut}
use Rattle.ris_graph.specs.declared.nets.NetTriple.{NetTriple}
use Rattle.ris_graph.proofs.RowChanges.{IsPut-ascending, IsPut-copies, IsPut-spare}

comes-back : (forward : Bool) (t : NetTriple) → comes_to (not forward) t ≡ ((count_to forward t == 0) && nat_lt 0 (count_from forward t))
comes-back true t = refl
comes-back false t = refl

same-counts : (forward : Bool) (t : NetTriple) → t.before ≡ t.after → count_from forward t ≡ count_to forward t
same-counts true t e = e
same-counts false t e = sym e

turned : (a b c d e f : ℕ) → ((a == b) && (c == d) && (e == f)) ≡ false → ((b == a) && (d == c) && (f == e)) ≡ false
turned a b c d e f h = grind (arith, nat_tests)

no_change : (n : ℕ) → ((n == 0) && nat_lt 0 n) ≡ false
no_change n = grind (arith, nat_tests)

-- what a step adds to both counts
spare-step : (new mid old came came' went went' c g : ℕ) → new + c ≡ mid + g → mid + came ≡ old + went → came' ≡ came + c → went' ≡ went + g → new + came' ≡ old + went'
spare-step new mid old came came' went went' c g step was more back = omega arith

spare-left : (mid old came went most : ℕ) → mid + came ≡ old + went → came + 1 ≤ most → most ≤ old → 1 ≤ mid
spare-left mid old came went most was more room = omega arith

-- from an item of one list to the same of the list with one more
All-front : {X : Type 0} (P : X → Type 0) (xs : List X) (x : X) → All P (xs ++ x ∷ []) → All P xs
All-front P xs x h k d lt =
    let size = length_push xs x in
    subst P (get_or_append_left xs (x ∷ []) d k lt) (h k d (omega arith))

All-last : {X : Type 0} (P : X → Type 0) (xs : List X) (x : X) → All P (xs ++ x ∷ []) → P x
All-last P xs x h =
    let size = length_push xs x in
    subst P (get_or_push xs x x (length xs) refl) (h (length xs) x (omega arith))

module _ (place end : NetTriple → ℕ) (forward : Bool) (old : ℕ → RowView) where
  -- a triple that stands apart from those that were put has the copies that it begins with
  pub ArePut-before : (mid : ℕ → RowView) (done : List NetTriple) (t : NetTriple) → ArePut place end forward old mid done
      → copies_of (old (place t)).items (end t) t.triple.weight ≡ count_from forward t
      → All (λ s. is_at place end (place s) (end s) s.triple.weight t ≡ false) done
      → copies_of (mid (place t)).items (end t) t.triple.weight ≡ count_from forward t
  ArePut-before mid done t are before apart =
      are.rest (place t) (end t) t.triple.weight
      (λ k d lt. turned (place (get_or done k d)) (place t) (end (get_or done k d)) (end t) (get_or done k d).triple.weight t.triple.weight (apart k d lt))
      ∙ before

  -- one triple more, whose copies are written, or which keeps them
  pub ArePut-more : (mid new : ℕ → RowView) (done : List NetTriple) (t : NetTriple) → ArePut place end forward old mid done
      → IsPut mid new (place t) (end t) t.triple.weight (count_to forward t)
      → copies_of (mid (place t)).items (end t) t.triple.weight ≡ count_from forward t
      → All (λ s. is_at place end (place s) (end s) s.triple.weight t ≡ false) done
      → (copies_of (mid (place t)).items (end t) t.triple.weight ≡ 0 → 1 ≤ count_to forward t → 1 ≤ (mid (place t)).spare)
      → ArePut place end forward old new (done ++ t ∷ [])
  ArePut-more mid new done t are put before apart room =
      let w = t.triple.weight in
      let k = count_to forward t in
      let now = IsPut-copies mid new (place t) (end t) w k put are.ascending in
      record {
        ascending = IsPut-ascending mid new (place t) (end t) w k put are.ascending;
        set = All-push (λ s. copies_of (new (place s)).items (end s) s.triple.weight ≡ count_to forward s) done t
            (λ i d lt. let s = get_or done i d in now (place s) (end s) s.triple.weight ∙ rw (apart i d lt) (are.set i d lt))
            (now (place t) (end t) w ∙ rw (eq-eqb (place t) (place t) refl, eq-eqb (end t) (end t) refl, eq-eqb w w refl) refl);
        rest = λ a e x h. now a e x ∙ rw (All-last (λ s. is_at place end a e x s ≡ false) done t h)
            (are.rest a e x (All-front (λ s. is_at place end a e x s ≡ false) done t h));
        spare = λ a. (
            let came : count_by (λ s. (place s == a) && comes_to forward s) (done ++ t ∷ []) ≡ count_by (λ s. (place s == a) && comes_to forward s) done + cond ((place t == a) && comes_to forward t) 1 0
            = sum_by_push (λ s. cond ((place s == a) && comes_to forward s) 1 0) done t in
            let went : count_by (λ s. (place s == a) && comes_to (not forward) s) (done ++ t ∷ []) ≡ count_by (λ s. (place s == a) && comes_to (not forward) s) done + cond ((place t == a) && comes_to (not forward) t) 1 0
            = sum_by_push (λ s. cond ((place s == a) && comes_to (not forward) s) 1 0) done t in
            let was = are.spare a in
            elim (cases_eq a (place t)) [
              | inl same ↦ (let here : (place t == a) ≡ true = eq-eqb (place t) a (sym same) in
                  let step = rw before at (IsPut-spare mid new (place t) (end t) w k put (are.ascending (place t)) room) in
                  let whole : (new a).spare + cond (comes_to forward t) 1 0 ≡ (mid a).spare + cond ((count_to forward t == 0) && nat_lt 0 (count_from forward t)) 1 0 = rw same step in
                  spare-step (new a).spare (mid a).spare (old a).spare _ _ _ _ _ _ whole was (rw here at came) (rw (here, comes-back forward t) at went))
              | inr ne ↦ (let other : (place t == a) ≡ false = ne_eqb (place t) a (λ q. ne (sym q)) in
                  let same : (new a).spare + 0 ≡ (mid a).spare + 0 = ap (λ (r : RowView). r.spare + 0) (put.others a ne) in
                  spare-step (new a).spare (mid a).spare (old a).spare _ _ _ _ _ _ same was (rw other at came) (rw other at went))
            ]);
      }

  pub ArePut-skip : (mid : ℕ → RowView) (done : List NetTriple) (t : NetTriple) → ArePut place end forward old mid done → t.before ≡ t.after
      → copies_of (mid (place t)).items (end t) t.triple.weight ≡ count_from forward t → ArePut place end forward old mid (done ++ t ∷ [])
  ArePut-skip mid done t are same before =
      let equal = same-counts forward t same in
      record {
        ascending = are.ascending;
        set = All-push (λ s. copies_of (mid (place s)).items (end s) s.triple.weight ≡ count_to forward s) done t are.set (before ∙ equal);
        rest = λ a e x h. are.rest a e x (All-front (λ s. is_at place end a e x s ≡ false) done t h);
        spare = λ a. (
            let came : count_by (λ s. (place s == a) && comes_to forward s) (done ++ t ∷ []) ≡ count_by (λ s. (place s == a) && comes_to forward s) done + cond ((place t == a) && comes_to forward t) 1 0
            = sum_by_push (λ s. cond ((place s == a) && comes_to forward s) 1 0) done t in
            let went : count_by (λ s. (place s == a) && comes_to (not forward) s) (done ++ t ∷ []) ≡ count_by (λ s. (place s == a) && comes_to (not forward) s) done + cond ((place t == a) && comes_to (not forward) t) 1 0
            = sum_by_push (λ s. cond ((place s == a) && comes_to (not forward) s) 1 0) done t in
            let was = are.spare a in
            let none : comes_to forward t ≡ false = rw equal (no_change (count_to forward t)) in
            let back : comes_to (not forward) t ≡ false = comes-back forward t ∙ rw equal (no_change (count_to forward t)) in
            spare-step (mid a).spare (mid a).spare (old a).spare _ _ _ _ 0 0 refl was
            (came ∙ ap (λ n. count_by (λ s. (place s == a) && comes_to forward s) done + n) (rw none (nothing (place t == a))))
            (went ∙ ap (λ n. count_by (λ s. (place s == a) && comes_to (not forward) s) done + n) (rw back (nothing (place t == a)))));
      }
    where
      nothing : (b : Bool) → ◌≡◌ {A = ℕ} (cond (b && false) 1 0) 0
      nothing true = refl
      nothing false = refl

  -- there is room for the next triple
  pub ArePut-room : (mid : ℕ → RowView) (triples : List NetTriple) (i : ℕ) (t : NetTriple) → ArePut place end forward old mid (take i triples)
      → i < length triples → get_or triples i t ≡ t
      → ((a : ℕ) → count_by (λ s. (place s == a) && comes_to forward s) triples ≤ (old a).spare)
      → copies_of (mid (place t)).items (end t) t.triple.weight ≡ count_from forward t
      → copies_of (mid (place t)).items (end t) t.triple.weight ≡ 0 → 1 ≤ count_to forward t → 1 ≤ (mid (place t)).spare
  ArePut-room mid triples i t are lt read room before none some =
      let test = λ (s : NetTriple). (place s == place t) && comes_to forward s in
      let most : count_by test (take i triples) + cond (test (get_or triples i t)) 1 0 ≤ count_by test triples = sum_by_more_le (λ s. cond (test s) 1 0) triples i t lt in
      let zero : count_from forward t ≡ 0 = sym before ∙ none in
      let comes : comes_to forward t ≡ true = rw (eq-eqb (count_from forward t) 0 zero) (lt-ltb 0 (count_to forward t) (omega arith)) in
      let one : ◌≡◌ {A = ℕ} (cond (test (get_or triples i t)) 1 0) 1 = rw (read, eq-eqb (place t) (place t) refl, comes) refl in
      spare-left (mid (place t)).spare (old (place t)).spare (count_by test (take i triples)) _ (count_by test triples) (are.spare (place t)) (rw one at most) (room (place t))

  -- the next triple stands apart from those before it
  ArePut-apart : (triples : List NetTriple) (i : ℕ) (t : NetTriple) → CanPut place end forward old triples → i < length triples → get_or triples i t ≡ t
      → All (λ s. is_at place end (place s) (end s) s.triple.weight t ≡ false) (take i triples)
  ArePut-apart triples i t can lt read k d low =
      let size = length-take-le i triples (omega arith) in
      let s = get_or-take i triples k d (omega arith) in
      let there = get_or_default triples i d t lt in
      rw s (subst (λ (x : NetTriple). is_at place end (place (get_or triples k d)) (end (get_or triples k d)) (get_or triples k d).triple.weight x ≡ false) (there ∙ read) (can.once k i d (omega arith) lt))

  ArePut-same : (mid new : ℕ → RowView) (done : List NetTriple) → ((a : ℕ) → new a ≡ mid a) → ArePut place end forward old mid done → ArePut place end forward old new done
  ArePut-same mid new done same are = record {
    ascending = λ a. rw (same a) (are.ascending a);
    set = λ k d lt. rw (same (place (get_or done k d))) (are.set k d lt);
    rest = λ a e w h. rw (same a) (are.rest a e w h);
    spare = λ a. ap (λ (r : RowView). r.spare + count_by (λ t. (place t == a) && comes_to forward t) done) (same a) ∙ are.spare a;
  }

  -- the copies of every neighbour after all triples
  pub ArePut-total : (new : ℕ → RowView) (triples : List NetTriple) (from to : ℕ → ℕ → ℕ → ℕ) → ArePut place end forward old new triples
      → ((a e w : ℕ) → copies_of (old a).items e w ≡ from a e w)
      → All (λ t. count_to forward t ≡ to (place t) (end t) t.triple.weight) triples
      → ((a e w : ℕ) → All (λ t. is_at place end a e w t ≡ false) triples → from a e w ≡ to a e w)
      → (a e w : ℕ) → copies_of (new a).items e w ≡ to a e w
  ArePut-total new triples from to are before after covered a e w =
      elim (cases_Bool (list_any (is_at place end a e w) triples)) [
        | inl some ↦ (let found = Any-from_list_any (is_at place end a e w) triples some in
            let t = found.1 in
            let outer = and_parts ((a == place t) && (e == end t)) (w == t.triple.weight) found.4 in
            let inner = and_parts (a == place t) (e == end t) outer.0 in
            let set = subst (λ (s : NetTriple). copies_of (new (place s)).items (end s) s.triple.weight ≡ to (place s) (end s) s.triple.weight) found.3
            (are.set found.0 t found.2 ∙ after found.0 t found.2) in
            moved (λ x y z. copies_of (new x).items y z) to a (place t) e (end t) w t.triple.weight
            (eqb-true a (place t) inner.0) (eqb-true e (end t) inner.1) (eqb-true w t.triple.weight outer.1) set)
        | inr none ↦ (let apart = none-All (is_at place end a e w) triples none in are.rest a e w apart ∙ before a e w ∙ covered a e w apart)
      ]
    where
      moved : (F G : ℕ → ℕ → ℕ → ℕ) (a b e f w v : ℕ) → a ≡ b → e ≡ f → w ≡ v → F b f v ≡ G b f v → F a e w ≡ G a e w
      moved F G a b e f w v p q r h = rw (p, q, r) h

      none-All : (p : NetTriple → Bool) (ts : List NetTriple) → list_any p ts ≡ false → All (λ t. p t ≡ false) ts
      none-All p ts none k d lt = elim (cases_Bool (p (get_or ts k d))) [
        | inl t ↦ (let some = list_any_at p ts k d lt t in absurd (both_ways (list_any p ts) none some))
        | inr u ↦ u
      ]

  -- one triple more, whether its copies change or stay
  pub ArePut-next : (mid new : ℕ → RowView) (triples : List NetTriple) (i : ℕ) (t : NetTriple) → CanPut place end forward old triples → i < length triples
      → get_or triples i t ≡ t → ArePut place end forward old mid (take i triples) → IsPutOnce place end forward mid new t
      → ArePut place end forward old new (take (i + 1) triples)
  ArePut-next mid new triples i t can lt read are put =
      let apart = ArePut-apart triples i t can lt read in
      let before = ArePut-before mid (take i triples) t are (subst (λ (s : NetTriple). copies_of (old (place s)).items (end s) s.triple.weight ≡ count_from forward s) read (can.counts i t lt)) apart in
      let next : ArePut place end forward old new (take i triples ++ t ∷ []) = elim (cases_eq t.before t.after) [
        | inl same ↦ ArePut-same mid new (take i triples ++ t ∷ []) (put.kept same) (ArePut-skip mid (take i triples) t are same before)
        | inr other ↦ ArePut-more mid new (take i triples) t are (put.changed other) before apart (ArePut-room mid triples i t are lt read can.room before)
      ] in
      rw (take_more triples i t lt, read) next

  pub HasPutRoom-next : (mid : ℕ → RowView) (triples : List NetTriple) (i : ℕ) (t : NetTriple) → CanPut place end forward old triples → i < length triples
      → get_or triples i t ≡ t → ArePut place end forward old mid (take i triples) → HasPutRoom place end forward mid t
  HasPutRoom-next mid triples i t can lt read are =
      let apart = ArePut-apart triples i t can lt read in
      let before = ArePut-before mid (take i triples) t are (subst (λ (s : NetTriple). copies_of (old (place s)).items (end s) s.triple.weight ≡ count_from forward s) read (can.counts i t lt)) apart in
      ArePut-room mid triples i t are lt read can.room before
