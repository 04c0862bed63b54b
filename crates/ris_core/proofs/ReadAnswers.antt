-- That the reply which is reckoned from the rows of a place answers its question.
use Rattle.std.proofs.Common.{◌≡◌, ◌≢◌, ◌↔◌, ℕ, zero, suc, ◌+◌, ◌-◌, ◌<◌, ◌≤◌, if◌then◌else◌, nat_lt, min, Bool, true, false, inl, inr, List, [], ◌∷◌, ◌++◌, length, map, get_or, Some, unwrap_or, arith, add-one, length-append, refl, sym, subst, ap, ◌∙◌}
use Rattle.std.specs.List.{All, Contains, slice_get}
use Rattle.std.specs.List.Sorted.{IsStrictlyIncreasing}
use Rattle.std.proofs.lemmas.Bool.{cases_lt, ltb-true, ltb-false, lt-ltb, true≢false}
use Rattle.std.proofs.lemmas.List.Elements.{Contains-append_left, Contains-push, Contains-push_cases}
use Rattle.std.proofs.lemmas.List.{get_or_append_left, get_or_default, get_or_push}
use Rattle.ris_base.specs.Answers.{Answers, IsAt, Setup, analysis_of, place_of}
use Rattle.ris_base.specs.Forest.{Follows, Forest, IsForest, IsPath, forest_in, up, value_in, vertex_of, vertex_or}
use Rattle.ris_base.specs.Graph.{IsProper}
use Rattle.ris_base.specs.Limits.{vertex_limit}
use Rattle.ris_base.specs.Lines.{floor, front}
use Rattle.ris_base.specs.Machine.{forests_of}
use Rattle.ris_base.specs.Requests.{after}
use Rattle.ris_base.specs.Value.{AreMoved, IsValue, Moves}
use Rattle.ris_base.specs.declared.analyses.Spec.{Spec}
use Rattle.ris_base.specs.declared.analyses.Value.{Value}
use Rattle.ris_base.specs.declared.analyses.Value.TheVariants.{Absent, Unreached, Num}
use Rattle.ris_base.specs.declared.forests.ForestRow.{ForestRow}
use Rattle.ris_base.specs.declared.forests.Parent.{Parent}
use Rattle.ris_base.specs.declared.forests.Parent.TheVariants as parent
use Rattle.ris_base.specs.declared.graphs.PlainGraph.{PlainGraph}
use Rattle.ris_base.specs.declared.replies.LogLine.TheVariants.{Answer, Denied}
use Rattle.ris_base.specs.declared.replies.ReadRefusal.TheVariants as denial
use Rattle.ris_base.specs.declared.requests.Question.{Question}
use Rattle.ris_base.specs.declared.requests.Question.TheVariants as question
use Rattle.ris_base.proofs.LineLemmas.{after-take, front-within}
use Rattle.ris_base.proofs.ListLemmas.{Contains-none}
use Rattle.ris_base.proofs.RequestLemmas.{proper-after}
use Rattle.ris_algo.proofs.Parents.{up-ended, up-none, up-suc}
use Rattle.ris_algo.proofs.Small.{vertex_below}
use Rattle.ris_algo.proofs.Unique.{Moves-forests}
use Rattle.ris_algo.proofs.Vertices.{vertices_within}
use Rattle.ris_legal.specs.Held.{IsKept}
use Rattle.ris_legal.proofs.Lists.{slice_get-map, to_some_and}
use Rattle.ris_core.specs.Answered.{answered, answered_at, answered_on, answered_or, known_lines, moved_below, moved_between, path_by, path_in, path_of, path_tail, rows_at}
use Rattle.ris_core.specs.Moves.{exists_of}
use Rattle.ris_core.specs.Rows.{bound_of, is_same_value}
use Rattle.ris_core.specs.Stands.{Listing, state_of}
use Rattle.ris_core.proofs.AnswerScans.{moved-more, moved-none, moved-same, path-suc}
use Rattle.ris_core.proofs.CellMoves.{forests-at}
use Rattle.ris_core.proofs.RowScans.{bound-least, value-is, value-past, value-true}
use Rattle.ris_core.proofs.Scans.{all-at, there-at}
use Rattle.ris_core.proofs.TailMoves.{map-length}

-- Paths

-- what follows a vertex from which k parents up there is one without a parent
follows : (k : ℕ) (F : Forest) (x : ℕ) → F.parent (up F k x) ≡ parent.None → Follows F x (path_tail (λ y. path_of F k y) (F.parent x))
follows zero F x ended = go (F.parent x) refl (sym (ap F.parent (up-none F x)) ∙ ended)
  where
    go : (p : Parent) → F.parent x ≡ p → F.parent x ≡ parent.None → Follows F x (path_tail (λ y. path_of F 0 y) p)
    go parent.None e none = e
    go (parent.From v s t w) e none = absurd (let h = sym e ∙ none in cc)
follows (suc k) F x ended = go (F.parent x) refl (λ v up_is. follows k F v up_is)
  where
    go : (p : Parent) → F.parent x ≡ p → ((v : ℕ) → F.parent (up F k v) ≡ parent.None → Follows F v (path_tail (λ y. path_of F k y) (F.parent v)))
        → Follows F x (path_tail (λ y. path_of F (suc k) y) p)
    go parent.None e more = e
    go (parent.From v s t w) e more =
        subst (Follows F x) (sym (path-suc F k v))
        (ap vertex_of e, more v (sym (ap F.parent (up-suc F k x ∙ ap (λ (p : Parent). up F k (vertex_or x p)) e)) ∙ ended))

-- the path of a vertex with a number, where so many parents up there is one without a parent
path-is : (n k : ℕ) (F : Forest) (x c : ℕ) → n ≡ suc k → F.value x ≡ Num c → F.parent (up F k x) ≡ parent.None → IsPath F x (path_of F n x)
path-is n k F x c is number ended =
    subst (IsPath F x) (sym (ap (λ m. path_of F m x) is ∙ path-suc F k x)) (refl, (c, number), follows k F x ended)

-- the path that rows give is the one of their forest
path-right : (g : PlainGraph) (spec : Spec) (F : Forest) (limit : ℕ) → limit ≡ vertex_limit → IsProper g → IsForest g spec F → (x : ℕ) (v : Value) → F.value x ≡ v
    → (path : List ℕ) → path ≡ path_by F x v → IsPath F x path
path-right g spec F limit same proper right x Absent is path e = subst (IsPath F x) (sym e) (λ c number. (let h = sym is ∙ number in cc))
path-right g spec F limit same proper right x Unreached is path e = subst (IsPath F x) (sym e) (λ c number. (let h = sym is ∙ number in cc))
path-right g spec F limit same proper right x (Num c) is path e =
    let value : IsValue g spec x (Num c) = subst (IsValue g spec x) is (right.values x) in
    let low : x < vertex_limit = vertex_below proper x value.0 in
    let within = vertices_within proper in
    let root = right.rooted x c is in
    let ended : F.parent (up F limit x) ≡ parent.None = ap F.parent (up-ended F (length g.vertices) limit x root (omega arith)) ∙ root in
    subst (IsPath F x) (sym (e ∙ ap (λ b. if b then path_of F (vertex_limit + 1) x else []) (lt-ltb x vertex_limit low)))
    (path-is (vertex_limit + 1) limit F x c (omega arith) is ended)

-- Moved vertices

-- one greater number at the end
increasing-push : (xs : List ℕ) (n : ℕ) → ((x : ℕ) → Contains xs x → x < n) → IsStrictlyIncreasing xs → IsStrictlyIncreasing (xs ++ n ∷ [])
increasing-push xs n low rise k less = elim (cases_lt (k + 1) (length xs)) [
  | inl inside ↦
      (let a = get_or_append_left xs (n ∷ []) 0 k (omega arith) in
      let b = get_or_append_left xs (n ∷ []) 0 (k + 1) inside in
      let r = rise k inside in omega arith)
  | inr past ↦
      (let same : length xs ≡ k + 1 = (let l = length-append xs (n ∷ []) in omega arith) in
      let a = get_or_append_left xs (n ∷ []) 0 k (omega arith) in
      let b = get_or_push xs n 0 (k + 1) same in
      let r = low (get_or xs k 0) (k, (let l = same in omega arith), get_or_default xs k (get_or xs k 0) 0 (omega arith)) in omega arith)
]

-- a number is among those that moved below n exactly where it is below n and its values differ
moved-sound : (a b : List ForestRow) (n x : ℕ) → Contains (moved_below a b n) x → (x < n) × (value_in a x ≢ value_in b x)
moved-sound a b zero x h = absurd (Contains-none x (subst (λ (xs : List ℕ). Contains xs x) (moved-none a b) h))
moved-sound a b (suc n) x h = go (is_same_value (value_in a n) (value_in b n)) refl (λ k. moved-sound a b n x k)
  where
    here : Contains (moved_below a b (n + 1)) x
    here = subst (λ (m : ℕ). Contains (moved_below a b m) x) (sym (add-one n)) h

    go : (c : Bool) → is_same_value (value_in a n) (value_in b n) ≡ c → (Contains (moved_below a b n) x → (x < n) × (value_in a x ≢ value_in b x)) → (x < suc n) × (value_in a x ≢ value_in b x)
    go true e more = let r = more (subst (λ (xs : List ℕ). Contains xs x) (moved-same a b n e) here) in (omega (arith, r.0), r.1)
    go false e more = elim (Contains-push_cases (moved_below a b n) n x (subst (λ (xs : List ℕ). Contains xs x) (moved-more a b n e) here)) [
      | inl old ↦ (let r = more old in (omega (arith, r.0), r.1))
      | inr last ↦ (omega arith, λ same. true≢false (sym (value-is (value_in a n) (value_in b n) (subst (λ (y : ℕ). value_in a y ≡ value_in b y) (sym last) same)) ∙ e))
    ]

moved-complete : (a b : List ForestRow) (n x : ℕ) → x < n → value_in a x ≢ value_in b x → Contains (moved_below a b n) x
moved-complete a b zero x less differs = absurd (omega arith)
moved-complete a b (suc n) x less differs = subst (λ (m : ℕ). Contains (moved_below a b m) x) (add-one n) (go (is_same_value (value_in a n) (value_in b n)) refl (λ k. moved-complete a b n x k differs))
  where
    go : (c : Bool) → is_same_value (value_in a n) (value_in b n) ≡ c → (x < n → Contains (moved_below a b n) x) → Contains (moved_below a b (n + 1)) x
    go true e more = subst (λ (xs : List ℕ). Contains xs x) (sym (moved-same a b n e)) (elim (cases_lt x n) [
      | inl low ↦ more low
      | inr past ↦ absurd (let same : x ≡ n = omega arith in differs (subst (λ (y : ℕ). value_in a y ≡ value_in b y) (sym same) (value-true (value_in a n) (value_in b n) e)))
    ])
    go false e more = subst (λ (xs : List ℕ). Contains xs x) (sym (moved-more a b n e)) (elim (cases_lt x n) [
      | inl low ↦ Contains-append_left (moved_below a b n) (n ∷ []) x (more low)
      | inr past ↦ (let same : n ≡ x = omega arith in subst (λ (y : ℕ). Contains (moved_below a b n ++ n ∷ []) y) same (Contains-push (moved_below a b n) n))
    ])

moved-rises : (a b : List ForestRow) (n : ℕ) → IsStrictlyIncreasing (moved_below a b n)
moved-rises a b zero = subst IsStrictlyIncreasing (sym (moved-none a b)) (λ k less. absurd (omega arith))
moved-rises a b (suc n) = subst (λ (m : ℕ). IsStrictlyIncreasing (moved_below a b m)) (add-one n) (go (is_same_value (value_in a n) (value_in b n)) refl (moved-rises a b n))
  where
    go : (c : Bool) → is_same_value (value_in a n) (value_in b n) ≡ c → IsStrictlyIncreasing (moved_below a b n) → IsStrictlyIncreasing (moved_below a b (n + 1))
    go true e more = subst IsStrictlyIncreasing (sym (moved-same a b n e)) more
    go false e more = subst IsStrictlyIncreasing (sym (moved-more a b n e)) (increasing-push (moved_below a b n) n (λ x h. (moved-sound a b n x h).0) more)

-- past the limit a right forest gives nothing
limit-absent : (g : PlainGraph) (spec : Spec) (F : Forest) → IsProper g → IsForest g spec F → (x : ℕ) → vertex_limit ≤ x → F.value x ≡ Absent
limit-absent g spec F proper right x past = go (F.value x) refl (right.values x)
  where
    go : (v : Value) → F.value x ≡ v → IsValue g spec x v → v ≡ Absent
    go Absent e h = refl
    go Unreached e h = absurd (let low = vertex_below proper x h.0 in omega arith)
    go (Num c) e h = absurd (let low = vertex_below proper x h.0 in omega arith)

moved-right : (g h : PlainGraph) (spec : Spec) (a b : List ForestRow) → IsProper g → IsProper h → IsForest g spec (forest_in a) → IsForest h spec (forest_in b) → AreMoved g h spec (moved_between a b)
moved-right g h spec a b proper_g proper_h right_a right_b = record {
  ascending = moved-rises a b (min vertex_limit (bound_of (bound_of 0 a) b));
  each = λ x. (
    λ in_list. (moves x).1 (moved-sound a b (min vertex_limit (bound_of (bound_of 0 a) b)) x in_list).1,
    λ moved. (let differs = (moves x).0 moved in moved-complete a b (min vertex_limit (bound_of (bound_of 0 a) b)) x (below x differs) differs),
  );
}
  where
    moves : (x : ℕ) → Moves g h spec x ↔ (value_in a x ≢ value_in b x)
    moves x = Moves-forests g h spec (forest_in a) (forest_in b) right_a right_b x

    below : (x : ℕ) → value_in a x ≢ value_in b x → x < min vertex_limit (bound_of (bound_of 0 a) b)
    below x differs = elim (cases_lt x vertex_limit) [
      | inl low ↦ elim (cases_lt x (bound_of (bound_of 0 a) b)) [
        | inl less ↦ omega arith
        | inr past ↦ absurd (let least = bound-least (bound_of 0 a) b in differs (value-past 0 a x (omega arith) ∙ sym (value-past (bound_of 0 a) b x past)))
      ]
      | inr past ↦ absurd (differs (limit-absent g spec (forest_in a) proper_g right_a x past ∙ sym (limit-absent h spec (forest_in b) proper_h right_b x past)))
    ]

-- Places

module _ (l : Listing) (kept : IsKept (state_of l)) (full : All (λ tables. length tables ≡ length l.specs) l.places) where
  abbrev setup : Setup
  setup = (state_of l).setup

  abbrev forests : ℕ → List Forest
  forests = forests_of (state_of l).book

  -- the rows of an analysis at a place that can be read
  record AtPlace (v a : ℕ) : Type 0 where
    pub spec : Spec
    pub of_analysis : slice_get l.specs a ≡ Some spec
    pub right : IsForest (after l.opening (known_lines l) v) spec (forest_in (rows_at l v a))
    pub forest : slice_get (forests v) a ≡ Some (forest_in (rows_at l v a))

  at-place : (v a : ℕ) → v ≤ front (known_lines l) → a < length l.specs → AtPlace v a
  at-place v a made less =
      let within = front-within l.lines l.published kept.book.within in
      let count = kept.book.account.places in
      let mapped = map-length (λ fs. map forest_in fs) l.places in
      let tables = there-at l.places v (omega arith) in
      let wide = all-at (λ ts. length ts ≡ length l.specs) l.places full v tables.0 tables.1 in
      let rows = there-at tables.0 a (omega arith) in
      let spec = there-at l.specs a less in
      let own : rows_at l v a ≡ rows.0 =
      ap (λ o. unwrap_or (slice_get (unwrap_or o []) a) []) tables.1 ∙ ap (λ o. unwrap_or o []) rows.1 in
      let forest : slice_get (forests v) a ≡ Some (forest_in rows.0) =
      ap (λ fs. slice_get fs a) (forests-at l.places v ∙ ap (λ o. map forest_in (unwrap_or o [])) tables.1) ∙ slice_get-map forest_in tables.0 a rows.0 rows.1 in
      let right = kept.book.account.forests v (omega arith) a spec.0 (forest_in rows.0) spec.1 forest in
      record {
        spec = spec.0;
        of_analysis = spec.1;
        right = subst (λ (rs : List ForestRow). IsForest (after l.opening (known_lines l) v) spec.0 (forest_in rs)) (sym own)
            (subst (λ (g : PlainGraph). IsForest g spec.0 (forest_in rows.0)) (sym (after-take l.opening l.lines l.published v made)) right);
        forest = forest ∙ ap (λ rs. Some (forest_in rs)) (sym own);
      }

  proper-at : (v : ℕ) → IsProper (after l.opening (known_lines l) v)
  proper-at v = proper-after l.opening (known_lines l) v kept.proper

  module _ (f low : ℕ) (is_front : f ≡ front (known_lines l)) (is_floor : low ≡ floor (length l.seats) (known_lines l)) where
    readable : (v : ℕ) → v ≤ f → low ≤ v → IsAt setup (known_lines l) v f v
    readable v made high = record { of_front = is_front; of_place = refl; made = (let e = is_front in omega arith); kept = (let e = is_floor in omega arith) }

    -- the answer at a place that can be read
    answers-at : (q : Question) (v : ℕ) → place_of q ≡ Some v → v ≤ f → low ≤ v → exists_of (length l.specs) (analysis_of q) ≡ true
        → Answers setup (known_lines l) forests q (Answer (answered_at l f q))
    answers-at (question.Value v a x) w at made high exists =
        let same : w ≡ v = cc in
        let p = at-place v a (omega (arith, is_front)) (ltb-true a (length l.specs) exists) in
        record { bare = (readable v (omega arith) (omega arith), to_some_and _ (slice_get l.specs a) p.spec p.of_analysis (p.right.values x)); agrees = tt }
    answers-at (question.Parent v a x) w at made high exists =
        let same : w ≡ v = cc in
        let less = ltb-true a (length l.specs) exists in
        let p = at-place v a (omega (arith, is_front)) less in
        record { bare = (readable v (omega arith) (omega arith), less); agrees = to_some_and _ (slice_get (forests v) a) (forest_in (rows_at l v a)) p.forest refl }
    answers-at (question.Path v a x) w at made high exists =
        let same : w ≡ v = cc in
        let less = ltb-true a (length l.specs) exists in
        let p = at-place v a (omega (arith, is_front)) less in
        record {
          bare = (readable v (omega arith) (omega arith), less);
          agrees = to_some_and _ (slice_get (forests v) a) (forest_in (rows_at l v a)) p.forest
              (path-right (after l.opening (known_lines l) v) p.spec (forest_in (rows_at l v a)) vertex_limit refl (proper-at v) p.right x (value_in (rows_at l v a) x) refl (path_in (rows_at l v a) x) refl);
        }
    answers-at (question.Modified v a) w at made high exists =
        let same : w ≡ v = cc in
        let less = ltb-true a (length l.specs) exists in
        let now = at-place v a (omega (arith, is_front)) less in
        let before = at-place (v - 1) a (omega (arith, is_front)) less in
        let one : before.spec ≡ now.spec = (let e = sym before.of_analysis ∙ now.of_analysis in cc) in
        let old = subst (λ (s : Spec). IsForest (after l.opening (known_lines l) (v - 1)) s (forest_in (rows_at l (v - 1) a))) one before.right in
        record {
          bare = (
            readable v (omega arith) (omega arith),
            to_some_and _ (slice_get l.specs a) now.spec now.of_analysis
                (moved-right (after l.opening (known_lines l) (v - 1)) (after l.opening (known_lines l) v) now.spec (rows_at l (v - 1) a) (rows_at l v a) (proper-at (v - 1)) (proper-at v) old now.right),
          );
          agrees = tt;
        }
    answers-at question.Current w at made high exists = absurd (cc)

    -- a place that can't be read
    late : (q : Question) (v : ℕ) → place_of q ≡ Some v → f < v → Answers setup (known_lines l) forests q (Denied (denial.NotYet f))
    late (question.Value v a x) w at less = let same : w ≡ v = cc in record { bare = (is_front, omega (arith, is_front)); agrees = tt }
    late (question.Parent v a x) w at less = let same : w ≡ v = cc in record { bare = (is_front, omega (arith, is_front)); agrees = tt }
    late (question.Path v a x) w at less = let same : w ≡ v = cc in record { bare = (is_front, omega (arith, is_front)); agrees = tt }
    late (question.Modified v a) w at less = let same : w ≡ v = cc in record { bare = (is_front, omega (arith, is_front)); agrees = tt }
    late question.Current w at less = absurd (cc)

    released : (q : Question) (v : ℕ) → place_of q ≡ Some v → v ≤ f → v < low → Answers setup (known_lines l) forests q (Denied (denial.Released f low))
    released (question.Value v a x) w at made less = let same : w ≡ v = cc in record { bare = (is_front, is_floor, omega (arith, is_front), omega (arith, is_floor)); agrees = tt }
    released (question.Parent v a x) w at made less = let same : w ≡ v = cc in record { bare = (is_front, is_floor, omega (arith, is_front), omega (arith, is_floor)); agrees = tt }
    released (question.Path v a x) w at made less = let same : w ≡ v = cc in record { bare = (is_front, is_floor, omega (arith, is_front), omega (arith, is_floor)); agrees = tt }
    released (question.Modified v a) w at made less = let same : w ≡ v = cc in record { bare = (is_front, is_floor, omega (arith, is_front), omega (arith, is_floor)); agrees = tt }
    released question.Current w at made less = absurd (cc)

    by-place : (q : Question) (v : ℕ) → place_of q ≡ Some v → exists_of (length l.specs) (analysis_of q) ≡ true → Answers setup (known_lines l) forests q (answered_or l f low v q)
    by-place q v at exists = go (nat_lt f v) refl (nat_lt v low) refl
      where
        go : (b : Bool) → nat_lt f v ≡ b → (c : Bool) → nat_lt v low ≡ c
            → Answers setup (known_lines l) forests q (if b then Denied (denial.NotYet f) else (if c then Denied (denial.Released f low) else Answer (answered_at l f q)))
        go true e c d = late q v at (ltb-true f v e)
        go false e true d = released q v at (ltb-false f v e) (ltb-true v low d)
        go false e false d = answers-at q v at (ltb-false f v e) (ltb-false v low d) exists

    by-question : (q : Question) → exists_of (length l.specs) (analysis_of q) ≡ true → Answers setup (known_lines l) forests q (answered_on l f low q)
    by-question (question.Value v a x) exists = by-place (question.Value v a x) v refl exists
    by-question (question.Parent v a x) exists = by-place (question.Parent v a x) v refl exists
    by-question (question.Path v a x) exists = by-place (question.Path v a x) v refl exists
    by-question (question.Modified v a) exists = by-place (question.Modified v a) v refl exists
    by-question question.Current exists = record { bare = (is_front, is_floor); agrees = tt }

  -- the reply answers the question
  pub answered-right : (q : Question) → exists_of (length l.specs) (analysis_of q) ≡ true → Answers setup (known_lines l) forests q (answered l q)
  answered-right q exists = by-question (front (known_lines l)) (floor (length l.seats) (known_lines l)) refl refl q exists
