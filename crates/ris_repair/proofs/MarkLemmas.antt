-- Vertices that begin anew.
use Rattle.std.proofs.Common.{◌≡◌, ◌↔◌, ◌⊎◌, ℕ, ◌+◌, ◌<◌, Bool, true, false, not, ◌&&◌, ◌||◌, ◌==◌, nat_lt, IsTrue, if◌then◌else◌, inl, inr, List, [], length, take, get_or, ◌≤◌, Option, Some, None, arith, refl, sym, subst, ap, ◌∙◌}
use Rattle.std.specs.List.{Contains, list_any}
use Rattle.std.specs.Option.{IsSome}
use Rattle.std.proofs.lemmas.Bool.{cases_Bool, cases_eq, cases_lt, eqb-true, eq-eqb, ne_eqb, lt-ltb, both_ways as not_both}
use Rattle.std.proofs.lemmas.Bool.Decides.{nat_tests}
use Rattle.std.proofs.lemmas.List.{get_or_past}
use Rattle.std.proofs.lemmas.List.Folds.{list_any_more}
use Rattle.ris_base.specs.Analysis.{start}
use Rattle.ris_base.specs.Falling.{IsFallen, HangsLost}
use Rattle.ris_base.specs.Forest.{Forest, IsForest, IsParent, up}
use Rattle.ris_base.specs.Graph.{HasVertex}
use Rattle.ris_base.specs.Limits.{vertex_limit}
use Rattle.ris_base.specs.Requests.{entered}
use Rattle.ris_base.specs.Value.{IsValue}
use Rattle.ris_base.specs.declared.graphs.PlainGraph.{PlainGraph}
use Rattle.ris_base.specs.declared.analyses.Spec.{Spec}
use Rattle.ris_base.specs.declared.analyses.Value.{Value}
use Rattle.ris_base.specs.declared.analyses.Value.TheVariants.{Absent, Num}
use Rattle.ris_base.specs.declared.forests.Parent.{Parent}
use Rattle.ris_base.specs.declared.forests.Parent.TheVariants as parent
use Rattle.ris_base.specs.declared.updates.Update.{Update}
use Rattle.ris_base.proofs.ListLemmas.{Contains-from_list_any, list_any-from_passing}
use Rattle.ris_algo.specs.Spreading.{nothing}
use Rattle.ris_algo.proofs.Begun.{IsOwn, IsFresh, IsStill, begun, fresh_spreading, unseen}
use Rattle.ris_algo.proofs.Offers.{narrowed}
use Rattle.ris_algo.proofs.Parents.{up-root}
use Rattle.ris_algo.proofs.Small.{vertex_below}
use Rattle.ris_graph.specs.GraphView.{GraphView, IsOf, vertex_in}
use Rattle.ris_graph.specs.declared.nets.Net.{Net}
use Rattle.ris_forest.specs.Cells.{Cell, cell_at, absent_cell, forest_of}
use Rattle.ris_repair.specs.Changes.{state_of, value_or, parent_or, is_settled, is_waiting, is_number, AreQueued}
use Rattle.ris_repair.specs.Due.{IsDue}
use Rattle.ris_repair.specs.Marks.{marked, started, among, AreMarked}
use Rattle.ris_repair.specs.Stages.{IsPrepared, unpulled}
use Rattle.ris_repair.specs.declared.stores.Change.{Change}

or_true : (b : Bool) → (b || true) ≡ true
or_true true = refl
or_true false = refl

or_false : (b : Bool) → (b || false) ≡ b
or_false true = refl
or_false false = refl

below_more_other : (x z : ℕ) → ¬ (x ≡ z) → nat_lt z (x + 1) ≡ nat_lt z x
below_more_other x z ne = elim (cases_lt z x) [
  | inl lt ↦ lt-ltb z (x + 1) (omega arith) ∙ sym (lt-ltb z x lt)
  | inr le ↦ grind (arith, nat_tests)
]

-- one vertex more begins anew
pub marks_step : (graph : GraphView) (start : ℕ → Option ℕ) (test test2 : ℕ → Bool) (old new : ℕ → Option Change) (x : ℕ) → AreMarked graph start test old
    → new x ≡ Some (marked graph start x) → ((z : ℕ) → (x == z) ≡ false → new z ≡ old z) → ((z : ℕ) → test2 z ≡ (test z || (x == z)))
    → AreMarked graph start test2 new
marks_step graph start test test2 old new x before here others more z = elim (cases_eq x z) [
  | inl e ↦
      let on : test2 z ≡ true = more z ∙ ap (λ b. test z || b) (eq-eqb x z e) ∙ or_true (test z) in
      subst (λ (k : ℕ). new k ≡ Some (marked graph start k)) e here
      ∙ ap (λ (b : Bool). if b then Some (marked graph start z) else None) (sym on)
  | inr ne ↦
      let off = ne_eqb x z ne in
      let same : test2 z ≡ test z = more z ∙ ap (λ b. test z || b) off ∙ or_false (test z) in
      others z off ∙ before z ∙ ap (λ (b : Bool). if b then Some (marked graph start z) else None) (sym same)
]

-- one place of a list more
pub among-more : (xs : List ℕ) (k x : ℕ) → k < length xs → get_or xs k x ≡ x → (z : ℕ) → among (take (k + 1) xs) z ≡ (among (take k xs) z || (x == z))
among-more xs k x lt at z = list_any_more (λ y. y == z) xs k x lt ∙ ap (λ (y : ℕ). list_any (λ w. w == z) (take k xs) || (y == z)) at

-- one vertex number more, of a vertex of the graph
pub present_more : (graph : GraphView) (x : ℕ) → vertex_in graph x ≡ true
    → (z : ℕ) → (vertex_in graph z && nat_lt z (x + 1)) ≡ ((vertex_in graph z && nat_lt z x) || (x == z))
present_more graph x there z = elim (cases_eq x z) [
  | inl e ↦
      let here : vertex_in graph z ≡ true = ap (vertex_in graph) (sym e) ∙ there in
      let less : nat_lt z (x + 1) ≡ true = lt-ltb z (x + 1) (omega arith) in
      ap (λ (b : Bool). b && nat_lt z (x + 1)) here ∙ less ∙ sym (ap (λ (b : Bool). (vertex_in graph z && nat_lt z x) || b) (eq-eqb x z e) ∙ or_true (vertex_in graph z && nat_lt z x))
  | inr ne ↦
      ap (λ (b : Bool). vertex_in graph z && b) (below_more_other x z ne)
      ∙ sym (ap (λ (b : Bool). (vertex_in graph z && nat_lt z x) || b) (ne_eqb x z ne) ∙ or_false (vertex_in graph z && nat_lt z x))
]

-- and of another
pub missing_more : (graph : GraphView) (x : ℕ) → vertex_in graph x ≡ false → (z : ℕ) → (vertex_in graph z && nat_lt z (x + 1)) ≡ (vertex_in graph z && nat_lt z x)
missing_more graph x missing z = elim (cases_eq x z) [
  | inl e ↦
      let off : vertex_in graph z ≡ false = ap (vertex_in graph) (sym e) ∙ missing in
      ap (λ (b : Bool). b && nat_lt z (x + 1)) off ∙ sym (ap (λ (b : Bool). b && nat_lt z x) off)
  | inr ne ↦ ap (λ (b : Bool). vertex_in graph z && b) (below_more_other x z ne)
]

-- the same vertices by another test
pub marks_same : (graph : GraphView) (start : ℕ → Option ℕ) (test test2 : ℕ → Bool) (changes : ℕ → Option Change) → AreMarked graph start test changes
    → ((z : ℕ) → test2 z ≡ test z) → AreMarked graph start test2 changes
marks_same graph start test test2 changes before same z =
    before z ∙ ap (λ (b : Bool). if b then Some (marked graph start z) else None) (sym (same z))

-- What is marked

-- the value with which a vertex begins
own_from : (g : PlainGraph) (spec : Spec) (x : ℕ) (b : Bool) (o : Option ℕ) → (b ≡ true → HasVertex g x) → (b ≡ false → ¬ (HasVertex g x)) → o ≡ start g spec x
    → IsOwn g spec x (if b then started o else Absent) (is_number (if b then started o else Absent) && not false)
own_from g spec x false o there missing same = (missing refl, refl)
own_from g spec x true None there missing same = (there refl, sym same, refl)
own_from g spec x true (Some c) there missing same = (there refl, sym same, refl)

-- a marked vertex is fresh
pub marked_fresh : (graph : GraphView) (g : PlainGraph) (spec : Spec) (F : Forest) (begin : ℕ → Option ℕ) (changes : ℕ → Option Change) (x : ℕ) → IsOf graph g
    → begin x ≡ start g spec x → changes x ≡ Some (marked graph begin x) → IsFresh g spec (state_of F changes) x
marked_fresh graph g spec F begin changes x of same is = record {
  own = subst (λ (o : Option Change). IsOwn g spec x (value_or (F.value x) o) (is_waiting o)) (sym is)
      (own_from g spec x (vertex_in graph x) (begin x) (of.vertices x).0 (λ off has. not_both (vertex_in graph x) off ((of.vertices x).1 has)) same);
  parent = ap (parent_or (F.parent x)) is;
}

-- one that isn't marked stands as it was
unmarked_still : (F : Forest) (changes : ℕ → Option Change) (x : ℕ) → changes x ≡ None → IsStill F (state_of F changes) x
unmarked_still F changes x is = record { value = ap (value_or (F.value x)) is; parent = ap (parent_or (F.parent x)) is; waiting = ap is_waiting is }

module _ (graph : GraphView) (begin : ℕ → Option ℕ) (test : ℕ → Bool) (changes : ℕ → Option Change) (marks : AreMarked graph begin test changes) where
  pub marks_on : (x : ℕ) → test x ≡ true → changes x ≡ Some (marked graph begin x)
  marks_on x on = marks x ∙ ap (λ (b : Bool). if b then Some (marked graph begin x) else None) on

  pub marks_off : (x : ℕ) → test x ≡ false → changes x ≡ None
  marks_off x off = marks x ∙ ap (λ (b : Bool). if b then Some (marked graph begin x) else None) off

  -- what changed passes the test
  pub marks_passing : (x : ℕ) (c : Change) → changes x ≡ Some c → test x ≡ true
  marks_passing x c is = elim (cases_Bool (test x)) [
    | inl on ↦ on
    | inr off ↦ absurd (let both = sym (marks_off x off) ∙ is in (cc))
  ]

  -- nothing is settled
  pub marks_unsettled : (x : ℕ) → is_settled (changes x) ≡ false
  marks_unsettled x = elim (cases_Bool (test x)) [
    | inl on ↦ ap is_settled (marks_on x on)
    | inr off ↦ ap is_settled (marks_off x off)
  ]

-- what stands in a list is among it, and the other way round
pub among-Contains : (xs : List ℕ) (x : ℕ) → among xs x ≡ true → Contains xs x
among-Contains xs x h = let r = Contains-from_list_any (λ y. y == x) xs h in subst (Contains xs) (eqb-true r.0 x r.2) r.1

pub Contains-among : (xs : List ℕ) (x : ℕ) → Contains xs x → among xs x ≡ true
Contains-among xs x h = list_any-from_passing (λ y. y == x) xs x h (eq-eqb x x refl)

-- The room

-- a cell that isn't absent is within the table
cell_within : (cells : List Cell) (x : ℕ) → ¬ (cell_at cells x ≡ absent_cell) → x < length cells
cell_within cells x there = elim (cases_lt x (length cells)) [
  | inl lt ↦ lt
  | inr le ↦ absurd (there (past cells x le))
]
  where
    past : (cs : List Cell) (k : ℕ) → length cs ≤ k → cell_at cs k ≡ absent_cell
    past cs k le = get_or_past cs k absent_cell le

-- a vertex of the graph of a right forest has a cell
present_within : (p : PlainGraph) (spec : Spec) (cells : List Cell) (x : ℕ) → IsForest p spec (forest_of cells) → HasVertex p x → x < length cells
present_within p spec cells x right has = cell_within cells x (λ e. absent_value (ap (λ (c : Cell). c.value) e) (right.values x))
  where
    absent_value : (forest_of cells).value x ≡ Absent → IsValue p spec x ((forest_of cells).value x) → ⊥
    absent_value e is = (subst (IsValue p spec x) e is) has

-- one that hangs at or below a lost edge is in the graph before
hangs_present : (p : PlainGraph) (spec : Spec) (parts : List Update) (F : Forest) (k x : ℕ) → IsForest p spec F → HangsLost p parts F (up F k x) → HasVertex p x
hangs_present p spec parts F k x right lost = go (F.parent x) refl
  where
    valued : (v : Value) (c : ℕ) → IsValue p spec x v → v ≡ Num c → HasVertex p x
    valued v c is e = (subst (IsValue p spec x) e is).0

    go : (q : Parent) → F.parent x ≡ q → HasVertex p x
    go parent.None e =
        let here : HangsLost p parts F x = subst (HangsLost p parts F) (up-root F k x e) lost in
        let by = here.by_edge in
        let both = sym e ∙ by.is in
        absurd (cc)
    go (parent.From vertex source target weight) e =
        let from = subst (IsParent p spec F.value x) e (right.parents x) in
        valued (F.value x) _ (right.values x) from.here

-- a fallen vertex was in the graph before or is in it after
fallen_present : (p : PlainGraph) (spec : Spec) (parts : List Update) (F : Forest) (x : ℕ) → IsForest p spec F → IsFallen p parts F x
    → HasVertex p x ⊎ HasVertex (entered p parts) x
fallen_present p spec parts F x right fallen = elim fallen [
  | inl dropped ↦ inl dropped.0
  | inr other ↦ elim other [
    | inl new ↦ inr new.0
    | inr below ↦ inl (hangs_present p spec parts F below.steps x right below.lost)
  ]
]

module _ (graph : GraphView) (spec : Spec) (cells : List Cell) (xs : List ℕ) (effect : Net) (p : PlainGraph) (parts : List Update)
    (due : IsDue graph spec cells xs effect p parts) where
  -- a fallen vertex is below the limit
  fallen_limited : (x : ℕ) → IsFallen p parts (forest_of cells) x → x < vertex_limit
  fallen_limited x fallen = elim (fallen_present p spec parts (forest_of cells) x due.right fallen) [
    | inl before ↦ vertex_below due.net.proper x before
    | inr now ↦ vertex_below due.is.proper x now
  ]

  -- and has a cell, where the vertices of the graph have
  pub fallen_within : ((x : ℕ) → IsTrue (vertex_in graph x) → x < length cells) → (x : ℕ) → Contains xs x → x < length cells
  fallen_within room x at = elim (fallen_present p spec parts (forest_of cells) x due.right ((due.fallen.each x).0 at)) [
    | inl before ↦ present_within p spec cells x due.right before
    | inr now ↦ room x ((due.is.vertices x).1 now)
  ]

-- Before the pull

-- what changed stands in the list, and what stands there changed
pub marks_listed : (graph : GraphView) (begin : ℕ → Option ℕ) (xs : List ℕ) (changes : ℕ → Option Change) → AreMarked graph begin (among xs) changes
    → (x : ℕ) (c : Change) → changes x ≡ Some c → Contains xs x
marks_listed graph begin xs changes marks x c is = among-Contains xs x (marks_passing graph begin (among xs) changes marks x c is)

pub listed_marks : (graph : GraphView) (begin : ℕ → Option ℕ) (xs : List ℕ) (changes : ℕ → Option Change) → AreMarked graph begin (among xs) changes
    → (x : ℕ) → Contains xs x → IsSome (changes x)
listed_marks graph begin xs changes marks x at = rw (marks_on graph begin (among xs) changes marks x (Contains-among xs x at)) refl

-- the fallen vertices begin anew, and the others stand
pub prepared : (graph : GraphView) (spec : Spec) (cells : List Cell) (xs : List ℕ) (effect : Net) (p : PlainGraph) (parts : List Update) (begin : ℕ → Option ℕ)
    (changes : ℕ → Option Change) (queue : List (ℕ × ℕ))
    → IsDue graph spec cells xs effect p parts
    → ((x : ℕ) → begin x ≡ start (entered p parts) spec x) → AreMarked graph begin (among xs) changes → AreQueued spec.kind changes queue
    → IsPrepared (entered p parts) spec (forest_of cells) vertex_limit xs changes queue (unpulled p 0 [] xs)
prepared graph spec cells xs effect p parts begin changes queue due starts marks queued = record {
  carried = record {
    inside = vertex_below due.is.proper;
    spreading = narrowed (entered p parts) spec (state_of (forest_of cells) changes) (unseen p (among xs)) (unpulled p 0 [] xs)
        (begun p spec (forest_of cells) parts due.net.proper due.right (state_of (forest_of cells) changes) (among xs) stands
        (λ x on. marked_fresh graph (entered p parts) spec (forest_of cells) begin changes x due.is (starts x) (marks_on graph begin (among xs) changes marks x on))
        (λ x off. unmarked_still (forest_of cells) changes x (marks_off graph begin (among xs) changes marks x off))
        is_fallen)
        (λ t a x has joins idle out. inl (λ h. elim h [
          | inl on ↦ out (inl (among-Contains xs x on))
          | inr missing ↦ out (inr (inr missing))
        ]));
    due = λ x c is. inl (marks_listed graph begin xs changes marks x c is);
    below = λ x c is. fallen_limited graph spec cells xs effect p parts due x (is_fallen x (marks_passing graph begin (among xs) changes marks x c is));
    queued = queued;
  };
  fresh = marks_unsettled graph begin (among xs) changes marks;
}
  where
    is_fallen : (x : ℕ) → among xs x ≡ true → IsFallen p parts (forest_of cells) x
    is_fallen x on = (due.fallen.each x).0 (among-Contains xs x on)

    stands : (x : ℕ) → among xs x ≡ false → ¬ (IsFallen p parts (forest_of cells) x)
    stands x off fallen = not_both (among xs x) off (Contains-among xs x ((due.fallen.each x).1 fallen))

-- From scratch

-- all vertices of the graph begin anew, and the others are absent
pub scratched : (graph : GraphView) (g : PlainGraph) (spec : Spec) (cells : List Cell) (begin : ℕ → Option ℕ) (test : ℕ → Bool)
    (changes : ℕ → Option Change) (queue : List (ℕ × ℕ))
    → IsOf graph g → ((x : ℕ) → cell_at cells x ≡ absent_cell)
    → ((x : ℕ) → begin x ≡ start g spec x) → ((x : ℕ) → (test x ≡ true) ↔ HasVertex g x)
    → AreMarked graph begin test changes → AreQueued spec.kind changes queue
    → IsPrepared g spec (forest_of cells) vertex_limit g.vertices changes queue nothing
scratched graph g spec cells begin test changes queue of absent starts tests marks queued = record {
  carried = record {
    inside = vertex_below of.proper;
    spreading = fresh_spreading g spec (state_of (forest_of cells) changes) fresh;
    due = λ x c is. inl ((tests x).0 (marks_passing graph begin test changes marks x c is));
    below = λ x c is. vertex_below of.proper x ((tests x).0 (marks_passing graph begin test changes marks x c is));
    queued = queued;
  };
  fresh = marks_unsettled graph begin test changes marks;
}
  where
    none_fresh : (x : ℕ) → test x ≡ false → changes x ≡ None → IsFresh g spec (state_of (forest_of cells) changes) x
    none_fresh x off is = record {
      own = subst (λ (o : Option Change). IsOwn g spec x (value_or ((forest_of cells).value x) o) (is_waiting o)) (sym is)
          (subst (λ (v : Value). IsOwn g spec x v false) (sym (ap (λ (c : Cell). c.value) (absent x))) (λ has. not_both (test x) off ((tests x).1 has), refl));
      parent = ap (parent_or ((forest_of cells).parent x)) is ∙ ap (λ (c : Cell). c.parent) (absent x);
    }

    fresh : (x : ℕ) → IsFresh g spec (state_of (forest_of cells) changes) x
    fresh x = elim (cases_Bool (test x)) [
      | inl on ↦ marked_fresh graph g spec (forest_of cells) begin changes x of (starts x) (marks_on graph begin test changes marks x on)
      | inr off ↦ none_fresh x off (marks_off graph begin test changes marks x off)
    ]
