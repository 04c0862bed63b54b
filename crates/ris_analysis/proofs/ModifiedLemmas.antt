-- The vertices that a delta says to have moved.
use Rattle.std.proofs.Common.{◌≡◌, ℕ, ◌+◌, ◌<◌, ◌↔◌, Bool, true, false, cond, ◌==◌, List, [], ◌∷◌, ◌++◌, length, get_or, map, take, arith, refl, inl, inr, sym, subst, ap, ◌∙◌}
use Rattle.std.specs.Prelude.{IsTrue, Some, slice_get}
use Rattle.std.specs.List.{All, Contains, filter, list_any}
use Rattle.std.specs.List.Sorted.{IsStrictlyIncreasing}
use Rattle.std.proofs.lemmas.Bool.{cases_Bool, eqb-true, eq-eqb, true≢false}
use Rattle.std.proofs.lemmas.List.{append-nil, get_or-map, length-map, map-append}
use Rattle.std.proofs.lemmas.Option.{get_or_from_slice_get}
use Rattle.std.proofs.lemmas.List.Elements.{All-contains, filter_more}
use Rattle.std.proofs.lemmas.List.Kept.{AllPairs-filter}
use Rattle.ris_base.specs.Forest.{Forest, IsForest}
use Rattle.ris_base.specs.Value.{Moves, AreMoved}
use Rattle.ris_base.specs.declared.analyses.Spec.{Spec}
use Rattle.ris_base.specs.declared.analyses.Value.TheVariants.{Absent}
use Rattle.ris_base.specs.declared.forests.Parent.TheVariants as parent
use Rattle.ris_base.specs.declared.graphs.PlainGraph.{PlainGraph}
use Rattle.ris_base.proofs.ListLemmas.{Contains-none, Contains-first, Contains-rest, Contains-cases, Contains-from_list_any, list_any-from_passing, Contains-filter, Contains-filtered}
use Rattle.ris_algo.proofs.Unique.{Moves-forests}
use Rattle.ris_forest.specs.Commits.{AreAscendingRows, with_rows}
use Rattle.ris_forest.specs.declared.deltas.DeltaRow.{DeltaRow}
use Rattle.ris_forest.proofs.CellLemmas.{with_rows-other}
use Rattle.ris_analysis.specs.Repairing.{moved_in}

-- Lists

-- what a list of made items contains
Contains-map : {X Y : Type 0} (f : X → Y) (xs : List X) (y : Y) → Contains (map f xs) y → (x : X) × Contains xs x × (f x ≡ y)
Contains-map f [] y h = absurd (Contains-none y h)
Contains-map f (x ∷ xs) y h = elim (Contains-cases (f x) (map f xs) y h) [
  | inl here ↦ (x, Contains-first x xs, here)
  | inr more ↦ (let r = Contains-map f xs y more in (r.0, Contains-rest x xs r.0 r.1, r.2))
]

Contains-mapped : {X Y : Type 0} (f : X → Y) (xs : List X) (x : X) → Contains xs x → Contains (map f xs) (f x)
Contains-mapped f [] x h = absurd (Contains-none x h)
Contains-mapped f (y ∷ xs) x h = elim (Contains-cases y xs x h) [
  | inl here ↦ subst (Contains (map f (y ∷ xs))) (ap f here) (Contains-first (f y) (map f xs))
  | inr more ↦ Contains-rest (f y) (map f xs) (f x) (Contains-mapped f xs x more)
]

-- One row more

pub moved_in-more : (rows : List DeltaRow) (k : ℕ) (d : DeltaRow) → k < length rows
    → moved_in (take (k + 1) rows) ≡ moved_in (take k rows) ++ (cond (get_or rows k d).moved ((get_or rows k d).vertex ∷ []) [])
moved_in-more rows k d less =
    ap (map (λ (row : DeltaRow). row.vertex)) (filter_more (λ (row : DeltaRow). row.moved) rows k d less)
    ∙ map-append (λ (row : DeltaRow). row.vertex) (filter (λ (row : DeltaRow). row.moved) (take k rows)) (cond (get_or rows k d).moved (get_or rows k d ∷ []) [])
    ∙ ap (λ (l : List ℕ). moved_in (take k rows) ++ l) (one (get_or rows k d).moved (get_or rows k d))
  where
    one : (b : Bool) (row : DeltaRow) → map (λ (r : DeltaRow). r.vertex) (cond b (row ∷ []) []) ≡ cond b (row.vertex ∷ []) []
    one true row = refl
    one false row = refl

-- a row that moved, and one that didn't
pub moved_in-some : (rows : List DeltaRow) (k : ℕ) (row : DeltaRow) → k < length rows → slice_get rows k ≡ Some row → row.moved ≡ true
    → moved_in (take (k + 1) rows) ≡ moved_in (take k rows) ++ row.vertex ∷ []
moved_in-some rows k row less at moved =
    moved_in-more rows k row less
    ∙ ap (λ (r : DeltaRow). moved_in (take k rows) ++ (cond r.moved (r.vertex ∷ []) [])) (get_or_from_slice_get rows k row row at)
    ∙ ap (λ b. moved_in (take k rows) ++ (cond b (row.vertex ∷ []) [])) moved

pub moved_in-none : (rows : List DeltaRow) (k : ℕ) (row : DeltaRow) → k < length rows → slice_get rows k ≡ Some row → row.moved ≡ false
    → moved_in (take (k + 1) rows) ≡ moved_in (take k rows)
moved_in-none rows k row less at still =
    moved_in-more rows k row less
    ∙ ap (λ (r : DeltaRow). moved_in (take k rows) ++ (cond r.moved (r.vertex ∷ []) [])) (get_or_from_slice_get rows k row row at)
    ∙ ap (λ b. moved_in (take k rows) ++ (cond b (row.vertex ∷ []) [])) still
    ∙ append-nil (moved_in (take k rows))

-- What they are

-- they ascend
pub ascending-moved_in : (rows : List DeltaRow) → AreAscendingRows rows → IsStrictlyIncreasing (moved_in rows)
ascending-moved_in rows ascending k less =
    let moved = filter (λ (row : DeltaRow). row.moved) rows in
    let pairs = AllPairs-filter (λ (row later : DeltaRow). row.vertex < later.vertex) (λ (row : DeltaRow). row.moved) rows ascending in
    let size = length-map moved (λ (row : DeltaRow). row.vertex) in
    let here = get_or-map (λ (row : DeltaRow). row.vertex) moved k none 0 (omega arith) in
    let next = get_or-map (λ (row : DeltaRow). row.vertex) moved (k + 1) none 0 (omega arith) in
    let below = pairs k (k + 1) none (omega arith) (omega arith) in
    omega arith
  where
    none : DeltaRow
    none = record { vertex = 0; value = Absent; parent = parent.None; moved = false }

-- they are exactly the vertices whose value differs, where the rows make a right forest of a right one and tell what moves
pub are_moved : (g h : PlainGraph) (spec : Spec) (F : Forest) (rows : List DeltaRow) → AreAscendingRows rows → IsForest g spec F → IsForest h spec (with_rows F rows)
    → All (λ row. IsTrue row.moved ↔ Moves g h spec row.vertex) rows → AreMoved g h spec (moved_in rows)
are_moved g h spec F rows ascending before after each = record {
  ascending = ascending-moved_in rows ascending;
  each = λ x. (there x, back x);
}
  where
    there : (x : ℕ) → Contains (moved_in rows) x → Moves g h spec x
    there x c =
        let from = Contains-map (λ (row : DeltaRow). row.vertex) (filter (λ (row : DeltaRow). row.moved) rows) x c in
        let listed = Contains-filter (λ (row : DeltaRow). row.moved) rows from.0 from.1 in
        subst (Moves g h spec) from.2 ((All-contains (λ (row : DeltaRow). IsTrue row.moved ↔ Moves g h spec row.vertex) rows from.0 each listed.0).0 listed.1)

    back : (x : ℕ) → Moves g h spec x → Contains (moved_in rows) x
    back x moves = elim (cases_Bool (list_any (λ (row : DeltaRow). row.vertex == x) rows)) [
      | inl some ↦ (let row = Contains-from_list_any (λ (r : DeltaRow). r.vertex == x) rows some in
          let at : row.0.vertex ≡ x = eqb-true row.0.vertex x row.2 in
          let moved = (All-contains (λ (r : DeltaRow). IsTrue r.moved ↔ Moves g h spec r.vertex) rows row.0 each row.1).1 (subst (Moves g h spec) (sym at) moves) in
          subst (Contains (moved_in rows)) at (Contains-mapped (λ (r : DeltaRow). r.vertex) (filter (λ (r : DeltaRow). r.moved) rows) row.0
          (Contains-filtered (λ (r : DeltaRow). r.moved) rows row.0 row.1 moved)))
      | inr none ↦ (let other = with_rows-other F rows x (λ row listed same. true≢false (sym (list_any-from_passing (λ (r : DeltaRow). r.vertex == x) rows row listed (eq-eqb row.vertex x same)) ∙ none)) in
          absurd ((Moves-forests g h spec F (with_rows F rows) before after x).0 moves (sym other.0)))
    ]
