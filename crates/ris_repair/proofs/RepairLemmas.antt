-- What the changes make of a forest once none waits, and how many visits that took.
use Rattle.std.proofs.Common.{◌≡◌, ◌≢◌, ◌↔◌, ◌⊎◌, ℕ, ◌+◌, ◌<◌, Bool, true, false, ◌&&◌, nat_lt, IsTrue, inl, inr, List, [], ◌∷◌, ◌++◌, length, Option, arith, refl, sym, subst, ap, ◌∙◌}
use Rattle.std.specs.List.{All, Contains, sum_by}
use Rattle.std.specs.Option.{IsSome}
use Rattle.std.proofs.lemmas.Bool.{cases_Bool, and_parts, lt-ltb, false_from_ne_true, both_ways as not_both}
use Rattle.std.proofs.lemmas.List.Elements.{All-contains}
use Rattle.std.proofs.lemmas.List.Sums.{sum_by-cons}
use Rattle.ris_base.specs.Analysis.{start}
use Rattle.ris_base.specs.Falling.{AreFallen, IsReachFor, pull, push}
use Rattle.ris_base.specs.Forest.{Forest, IsForest, IsParent, up}
use Rattle.ris_base.specs.Graph.{HasVertex, IsProper}
use Rattle.ris_base.specs.Limits.{vertex_limit}
use Rattle.ris_base.specs.Requests.{entered}
use Rattle.ris_base.specs.Safe.{beats}
use Rattle.ris_base.specs.Value.{IsValue, Moves}
use Rattle.ris_base.specs.Walk.{both_ways}
use Rattle.ris_base.specs.declared.graphs.PlainGraph.{PlainGraph}
use Rattle.ris_base.specs.declared.graphs.Triple.{Triple}
use Rattle.ris_base.specs.declared.analyses.Spec.{Spec}
use Rattle.ris_base.specs.declared.analyses.Value.{Value}
use Rattle.ris_base.specs.declared.analyses.Value.TheVariants.{Absent, Unreached, Num}
use Rattle.ris_base.specs.declared.forests.Parent.{Parent}
use Rattle.ris_base.specs.declared.forests.Parent.TheVariants as parent
use Rattle.ris_base.specs.declared.updates.Update.{Update}
use Rattle.ris_base.proofs.ListLemmas.{Contains-first, Contains-rest, Contains-cases, Contains-none, All-from_Contains}
use Rattle.ris_algo.specs.Spreading.{nothing}
use Rattle.ris_algo.proofs.Begun.{none_settling}
use Rattle.ris_algo.proofs.Certificates.{placed-number, placed_from_value}
use Rattle.ris_algo.proofs.Covered.{sum_by-covered}
use Rattle.ris_algo.proofs.Four.{laws_of}
use Rattle.ris_algo.proofs.Parents.{up-none}
use Rattle.ris_algo.proofs.Spread.{spread_forest}
use Rattle.ris_algo.proofs.Taken.{value_small}
use Rattle.ris_algo.proofs.Unique.{Moves-forests}
use Rattle.ris_graph.specs.GraphView.{GraphView, IsOf, vertex_in}
use Rattle.ris_graph.specs.declared.nets.Net.{Net}
use Rattle.ris_graph.specs.Ticks.{IsRise}
use Rattle.ris_forest.specs.Cells.{Cell, forest_of, IsRooted, IsSmall, IsParentBelow}
use Rattle.ris_forest.specs.Commits.{with_rows, IsRowBelow}
use Rattle.ris_forest.specs.declared.deltas.DeltaRow.{DeltaRow}
use Rattle.ris_repair.specs.Changes.{state_of, is_waiting, IsGain, NoneWaits, AreQueued, AreQueuedBut}
use Rattle.ris_repair.specs.Due.{IsDue}
use Rattle.ris_repair.specs.Marks.{among, AreMarked}
use Rattle.ris_repair.specs.Rows.{origin_count}
use Rattle.ris_repair.specs.Stages.{IsPrepared, IsPushing, IsRowOf, AreRowsOf, AreRowsDue, Covers, unpulled, unadded}
use Rattle.ris_repair.specs.declared.stores.Change.{Change}
use Rattle.ris_repair.proofs.AddLemmas.{unadded_from_pull, unadded_none}
use Rattle.ris_repair.proofs.MarkLemmas.{among-Contains, Contains-among, marks_listed, listed_marks, prepared}
use Rattle.ris_repair.proofs.QueueLemmas.{queued_all, queued_items, waiting_items, waits_listed}
use Rattle.ris_repair.proofs.RiseLemmas.{rise_more, rise_none}
use Rattle.ris_repair.proofs.RowLemmas.{origin_count-pull}
use Rattle.ris_repair.proofs.TableLemmas.{rows_forest, row_value, row_parent}
use Rattle.ris_repair.proofs.TakeLemmas.{waits_from}

-- what is prepared may be pushed
pub pushing_from_prepared : (g : PlainGraph) (spec : Spec) (F : Forest) (n : ℕ) (fallen : List ℕ) (changes : ℕ → Option Change) (queue : List (ℕ × ℕ))
    → IsPrepared g spec F n fallen changes queue nothing → IsPushing g spec F n fallen changes queue nothing
pushing_from_prepared g spec F n fallen changes queue P = record { carried = P.carried; settling = none_settling g spec (state_of F changes) P.fresh }

module _ (g : PlainGraph) (spec : Spec) (F : Forest) (n : ℕ) (fallen : List ℕ) (changes : ℕ → Option Change) (queue : List (ℕ × ℕ)) (rows : List DeltaRow)
    (proper : IsProper g) (P : IsPushing g spec F n fallen changes queue nothing) (none : NoneWaits changes) (R : AreRowsOf F changes rows) where
  idle : (x : ℕ) → is_waiting (changes x) ≡ false
  idle x = false_from_ne_true (is_waiting (changes x))
      (λ h. (let r = P.carried.spreading.numbered x h in let e = waits_from (F.value x) (changes x) r.0 h r.1 in let k = none x in absurd (cc)))

  -- the forest with the rows is right
  pub repaired : IsForest g spec (with_rows F rows)
  repaired = rows_forest F changes rows R (λ G. IsForest g spec G) (spread_forest g spec (state_of F changes) proper P.carried.spreading idle)

  small_value : (x : ℕ) (v : Value) → IsValue g spec x v → IsSmall v
  small_value x Absent is = tt
  small_value x Unreached is = tt
  small_value x (Num c) is = value_small g spec proper x c is

  -- the rows' vertices are below the limit
  pub rows_within : All (λ row. row.vertex < n) rows
  rows_within = All-from_Contains (λ row. row.vertex < n) rows (λ row at. (let r = All-contains (IsRowOf F changes) rows row R.each at in P.carried.below row.vertex r.change r.is))

  -- they are fallen or have better numbers than before
  pub rows_due : AreRowsDue spec.kind F fallen rows
  rows_due = All-from_Contains (λ row. Contains fallen row.vertex ⊎ IsGain spec.kind row.value (F.value row.vertex)) rows (λ row at. (
      let r = All-contains (IsRowOf F changes) rows row R.each at in
      subst (λ (v : Value). Contains fallen row.vertex ⊎ IsGain spec.kind v (F.value row.vertex)) (sym r.value) (P.carried.due row.vertex r.change r.is)))

  -- their numbers are small
  pub rows_small : All (λ row. IsSmall row.value) rows
  rows_small = All-from_Contains (λ row. IsSmall row.value) rows (λ row at.
      subst IsSmall (row_value F changes rows R row at) (small_value row.vertex ((with_rows F rows).value row.vertex) (repaired.values row.vertex)))

  -- parents lead to starts
  pub rows_rooted : IsRooted (with_rows F rows)
  rows_rooted x = by_parent ((with_rows F rows).parent x) (repaired.parents x) refl
    where
      by_parent : (p : Parent) → IsParent g spec (with_rows F rows).value x p → (with_rows F rows).parent x ≡ p
          → (k : ℕ) × ((with_rows F rows).parent (up (with_rows F rows) k x) ≡ parent.None)
      by_parent parent.None own is = (0, ap (with_rows F rows).parent (up-none (with_rows F rows) x) ∙ is)
      by_parent (parent.From vertex source target weight) from is = (length g.vertices, repaired.rooted x _ from.here)

-- a vertex with a number is in the graph
numbered_in : (g : PlainGraph) (spec : Spec) (G : Forest) (x c : ℕ) → IsForest g spec G → G.value x ≡ Num c → HasVertex g x
numbered_in g spec G x c repaired e = placed-number g spec x c (G.value x) e (placed_from_value g spec x (G.value x) (repaired.values x))

module _ (graph : GraphView) (g : PlainGraph) (spec : Spec) (cells : List Cell) (fallen : List ℕ) (changes : ℕ → Option Change) (rows : List DeltaRow)
    (of : IsOf graph g) (repaired : IsForest g spec (with_rows (forest_of cells) rows)) (R : AreRowsOf (forest_of cells) changes rows)
    (due : AreRowsDue spec.kind (forest_of cells) fallen rows) (room : (x : ℕ) → IsTrue (vertex_in graph x) → x < length cells)
    (within : (x : ℕ) → Contains fallen x → x < length cells) where
  numbered_within : (x c : ℕ) → (with_rows (forest_of cells) rows).value x ≡ Num c → x < length cells
  numbered_within x c e = room x ((of.vertices x).1 (numbered_in g spec (with_rows (forest_of cells) rows) x c repaired e))

  parent_within : (x : ℕ) (p : Parent) → IsParent g spec (with_rows (forest_of cells) rows).value x p → IsParentBelow (length cells) p
  parent_within x parent.None own = tt
  parent_within x (parent.From vertex source target weight) from = numbered_within vertex from.number from.above

  -- there is room for the rows
  pub rows_below : All (IsRowBelow (length cells)) rows
  rows_below = All-from_Contains (IsRowBelow (length cells)) rows (λ row at. record {
    vertex = elim (All-contains (λ r. Contains fallen r.vertex ⊎ IsGain spec.kind r.value ((forest_of cells).value r.vertex)) rows row due at) [
      | inl here ↦ within row.vertex here
      | inr gain ↦ numbered_within row.vertex gain.number (row_value (forest_of cells) changes rows R row at ∙ gain.is)
    ];
    parent = subst (IsParentBelow (length cells)) (row_parent (forest_of cells) changes rows R row at)
        (parent_within row.vertex ((with_rows (forest_of cells) rows).parent row.vertex) (repaired.parents row.vertex));
  })

-- each row's vertex is fallen or its value moves
pub rows_fallen_or_moved : (p g : PlainGraph) (spec : Spec) (F : Forest) (fallen : List ℕ) (changes : ℕ → Option Change) (rows : List DeltaRow) → AreRowsOf F changes rows
    → IsForest p spec F → IsForest g spec (with_rows F rows) → AreRowsDue spec.kind F fallen rows
    → All (λ row. Contains fallen row.vertex ⊎ Moves p g spec row.vertex) rows
rows_fallen_or_moved p g spec F fallen changes rows R right repaired due = All-from_Contains (λ row. Contains fallen row.vertex ⊎ Moves p g spec row.vertex) rows (λ row at.
    elim (All-contains (λ r. Contains fallen r.vertex ⊎ IsGain spec.kind r.value (F.value r.vertex)) rows row due at) [
      | inl here ↦ inl here
      | inr gain ↦ inr ((Moves-forests p g spec F (with_rows F rows) right repaired row.vertex).1 (λ e.
          not_both (beats spec.kind gain.number (Num gain.number)) ((laws_of g spec).irreflexive gain.number)
          (subst (λ (v : Value). beats spec.kind gain.number v ≡ true) (e ∙ row_value F changes rows R row at ∙ gain.is) gain.beats)))
    ])

-- a row's mark is true exactly where its value moves
pub rows_moved : (p g : PlainGraph) (spec : Spec) (F : Forest) (changes : ℕ → Option Change) (rows : List DeltaRow) → AreRowsOf F changes rows
    → IsForest p spec F → IsForest g spec (with_rows F rows) → All (λ row. IsTrue row.moved ↔ Moves p g spec row.vertex) rows
rows_moved p g spec F changes rows R right repaired = All-from_Contains (λ row. IsTrue row.moved ↔ Moves p g spec row.vertex) rows (λ row at. (
    let r = All-contains (IsRowOf F changes) rows row R.each at in
    let m = Moves-forests p g spec F (with_rows F rows) right repaired row.vertex in
    let same = row_value F changes rows R row at in (
      λ on. m.1 (λ e. r.moved.0 on (sym same ∙ sym e)),
      λ moves. r.moved.1 (λ e. m.0 moves (sym e ∙ sym same)),
    )))

-- Visits

sum_by-append : (size : ℕ → ℕ) (xs ys : List ℕ) → sum_by size (xs ++ ys) ≡ sum_by size xs + sum_by size ys
sum_by-append size [] ys = omega arith
sum_by-append size (x ∷ xs) ys =
    let one = sum_by-cons size x xs in let two = sum_by-cons size x (xs ++ ys) in let rest = sum_by-append size xs ys in omega arith

pub sum_by-both : (one two : ℕ → ℕ) (xs : List ℕ) → sum_by (λ x. one x + two x) xs ≡ sum_by one xs + sum_by two xs
sum_by-both one two [] = omega arith
sum_by-both one two (x ∷ xs) =
    let a = sum_by-cons one x xs in let b = sum_by-cons two x xs in let c = sum_by-cons (λ y. one y + two y) x xs in
    let rest = sum_by-both one two xs in omega arith

sum_by-same : (one two : ℕ → ℕ) → ((x : ℕ) → one x ≡ two x) → (xs : List ℕ) → sum_by one xs ≡ sum_by two xs
sum_by-same one two same [] = refl
sum_by-same one two same (x ∷ xs) =
    let a = sum_by-cons one x xs in let b = sum_by-cons two x xs in let s = same x in let rest = sum_by-same one two same xs in omega arith

Contains-before : (xs ys : List ℕ) (x : ℕ) → Contains xs x → Contains (xs ++ ys) x
Contains-before [] ys x h = absurd (Contains-none x h)
Contains-before (z ∷ zs) ys x h = elim (Contains-cases z zs x h) [
  | inl same ↦ subst (λ (k : ℕ). Contains (z ∷ (zs ++ ys)) k) same (Contains-first z (zs ++ ys))
  | inr later ↦ Contains-rest z (zs ++ ys) x (Contains-before zs ys x later)
]

Contains-after : (xs ys : List ℕ) (x : ℕ) → Contains ys x → Contains (xs ++ ys) x
Contains-after [] ys x h = h
Contains-after (z ∷ zs) ys x h = Contains-rest z (zs ++ ys) x (Contains-after zs ys x h)

module _ (p : PlainGraph) (spec : Spec) (F : Forest) (parts : List Update) (xs : List ℕ) (m : ℕ)
    (right : IsForest p spec F) (are : AreFallen p parts F xs) (reach : IsReachFor p spec parts F m) where
  abbrev g : PlainGraph
  g = entered p parts

  -- the reach has each vertex that may be settled
  pub reach_covers : Covers (entered p parts) spec F xs (reach.fallen ++ reach.improved)
  reach_covers x d is why = elim (cases_Bool (among xs x)) [
    | inl on ↦ Contains-before reach.fallen reach.improved x ((reach.all_fallen.each x).1 ((are.each x).0 (among-Contains xs x on)))
    | inr off ↦ Contains-after reach.fallen reach.improved x ((reach.all_improved.each x).1 (
      λ fallen. not_both (among xs x) off (Contains-among xs x ((are.each x).1 fallen)),
      moves off why,
    ))
  ]
    where
      beaten : among xs x ≡ false → Contains xs x ⊎ (beats spec.kind d (F.value x) ≡ true) → beats spec.kind d (F.value x) ≡ true
      beaten off h = elim h [ inl at ↦ absurd (not_both (among xs x) off (Contains-among xs x at)) | inr won ↦ won ]

      moves : among xs x ≡ false → Contains xs x ⊎ (beats spec.kind d (F.value x) ≡ true) → Moves p (entered p parts) spec x
      moves off h = record {
        old = F.value x;
        new = Num d;
        was = right.values x;
        is = is;
        differs = λ same. not_both (beats spec.kind d (Num d)) ((laws_of (entered p parts) spec).irreflexive d)
            (subst (λ (v : Value). beats spec.kind d v ≡ true) same (beaten off h));
      }

  -- what was pulled and what was pushed are within the reach
  pub reach_rise : (graph : GraphView) (both : Bool) (a b c : ℕ) → IsOf graph (entered p parts) → both ≡ both_ways spec.kind
      → IsRise a b (sum_by (origin_count both graph) xs) → IsRise b c (sum_by (push (entered p parts) spec) (reach.fallen ++ reach.improved)) → IsRise a c m
  reach_rise graph both a b c of ways one two =
      let pulled = sum_by-same (origin_count both graph) (pull (entered p parts) spec) (λ x. origin_count-pull graph (entered p parts) of both spec ways x) xs in
      let covered = sum_by-covered (pull (entered p parts) spec) xs reach.fallen are.once (λ x at. (reach.all_fallen.each x).1 ((are.each x).0 at)) in
      let pushed = sum_by-append (push (entered p parts) spec) reach.fallen reach.improved in
      let each = sum_by-both (pull (entered p parts) spec) (push (entered p parts) spec) reach.fallen in
      let count = reach.count in
      rise_more a b c (sum_by (origin_count both graph) xs) (sum_by (push (entered p parts) spec) (reach.fallen ++ reach.improved)) m one two (omega arith)

  -- and so is what was pulled alone
  pub reach_pull : (graph : GraphView) (both : Bool) (a b : ℕ) → IsOf graph (entered p parts) → both ≡ both_ways spec.kind
      → IsRise a b (sum_by (origin_count both graph) xs) → IsRise a b m
  reach_pull graph both a b of ways one =
      reach_rise graph both a b b of ways one (rise_none b (sum_by (push (entered p parts) spec) (reach.fallen ++ reach.improved)))

-- another queue that has each vertex that waits
requeued : (g : PlainGraph) (spec : Spec) (F : Forest) (n : ℕ) (fallen : List ℕ) (changes : ℕ → Option Change) (queue queue2 : List (ℕ × ℕ))
    (todo : Triple → ℕ → ℕ → Type 0) → IsPrepared g spec F n fallen changes queue todo → AreQueued spec.kind changes queue2 → IsPrepared g spec F n fallen changes queue2 todo
requeued g spec F n fallen changes queue queue2 todo P queued = record {
  carried = record { inside = P.carried.inside; spreading = P.carried.spreading; due = P.carried.due; below = P.carried.below; queued = queued };
  fresh = P.fresh;
}

-- the whole way to the push
pub pushed_from : (graph : GraphView) (spec : Spec) (cells : List Cell) (xs : List ℕ) (effect : Net) (p : PlainGraph) (parts : List Update) (begin : ℕ → Option ℕ)
    (ch0 ch1 ch2 : ℕ → Option Change) (q0 q1 q2 : List (ℕ × ℕ))
    → IsDue graph spec cells xs effect p parts
    → ((x : ℕ) → begin x ≡ start (entered p parts) spec x) → AreMarked graph begin (among xs) ch0
    → (AreQueuedBut spec.kind xs ch0 q0 → AreQueuedBut spec.kind [] ch1 q1)
    → ((queue : List (ℕ × ℕ)) → ((x : ℕ) → Contains xs x → IsSome (ch0 x)) → IsPrepared (entered p parts) spec (forest_of cells) vertex_limit xs ch0 queue (unpulled p 0 [] xs)
    → (after : List (ℕ × ℕ)) × IsPrepared (entered p parts) spec (forest_of cells) vertex_limit xs ch1 after (unpulled p 0 [] []))
    → (IsPrepared (entered p parts) spec (forest_of cells) vertex_limit xs ch1 q1 (unadded effect.triples)
    → IsPrepared (entered p parts) spec (forest_of cells) vertex_limit xs ch2 q2 (unadded []))
    → IsPrepared (entered p parts) spec (forest_of cells) vertex_limit xs ch2 q2 nothing
pushed_from graph spec cells xs effect p parts begin ch0 ch1 ch2 q0 q1 q2 due starts marks queued pull_on add_on =
    let listed = marks_listed graph begin xs ch0 marks in
    let items = waiting_items spec.kind ch0 xs in
    let pulled = pull_on items (listed_marks graph begin xs ch0 marks)
    (prepared graph spec cells xs effect p parts begin ch0 items due starts marks (queued_items spec.kind ch0 xs listed)) in
    unadded_none (entered p parts) spec (forest_of cells) vertex_limit xs ch2 q2
    (add_on (unadded_from_pull p parts effect spec (forest_of cells) vertex_limit xs ch1 q1 due.net
    (requeued (entered p parts) spec (forest_of cells) vertex_limit xs ch1 pulled.0 q1 (unpulled p 0 [] []) pulled.1
    (queued_all spec.kind ch1 q1 (queued (λ x d waits. inl (waits_listed spec.kind ch0 xs listed x d waits)))))))

-- the vertices of the graph have each vertex that may be settled
pub vertices_cover : (g : PlainGraph) (spec : Spec) (F : Forest) (xs : List ℕ) → Covers g spec F xs g.vertices
vertices_cover g spec F xs x d is why = is.0

-- where all were absent before, a row's mark is true exactly where its value isn't absent
pub rows_present : (F : Forest) (changes : ℕ → Option Change) (rows : List DeltaRow) → ((x : ℕ) → F.value x ≡ Absent) → AreRowsOf F changes rows
    → All (λ row. IsTrue row.moved ↔ (row.value ≢ Absent)) rows
rows_present F changes rows absent R = All-from_Contains (λ row. IsTrue row.moved ↔ (row.value ≢ Absent)) rows (λ row at.
    let r = All-contains (IsRowOf F changes) rows row R.each at in
    subst (λ (v : Value). IsTrue row.moved ↔ (row.value ≢ v)) (absent row.vertex) r.moved)

-- where there is room for the vertices of the graph, they are those that are present below the table's size
pub present_tests : (graph : GraphView) (g : PlainGraph) (size : ℕ) → IsOf graph g → ((x : ℕ) → IsTrue (vertex_in graph x) → x < size)
    → (x : ℕ) → ((vertex_in graph x && nat_lt x size) ≡ true) ↔ HasVertex g x
present_tests graph g size of room x = (
  λ on. (of.vertices x).0 (and_parts (vertex_in graph x) (nat_lt x size) on).0,
  λ has. let here = (of.vertices x).1 has in rw (here, lt-ltb x size (room x here)) refl,
)
