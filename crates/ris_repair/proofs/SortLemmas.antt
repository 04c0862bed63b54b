-- Rows of a table of changes, and rows that are sorted by their vertices.
use Rattle.std.proofs.Common.{◌≡◌, ◌≢◌, ◌↔◌, IsTrue, ℕ, ◌<◌, ◌≤◌, eqb, inl, inr, List, [], ◌∷◌, ◌++◌, length, map, get_or, Option, Some, arith, sym, subst, ap, ◌∙◌}
use Rattle.std.specs.List.{All, AllPairs, Contains, IsDistinct}
use Rattle.std.specs.List.Sorted.{IsPermutation, IsNonDecreasingBy}
use Rattle.std.specs.Map.{keys_of}
use Rattle.std.proofs.lemmas.Bool.{cases_eq, eq-eqb, ne_eqb, both_ways as not_both}
use Rattle.std.proofs.lemmas.List.{append_assoc, map-append, get_or-map, length-map}
use Rattle.std.proofs.lemmas.List.Sorted.{All-permutation, Contains-permutation, IsPermutation-map}
use Rattle.std.proofs.lemmas.Map.Keys.{apart_from_distinct, IsDistinct-IsPermutation}
use Rattle.ris_base.specs.Forest.{Forest}
use Rattle.ris_base.proofs.ListLemmas.{Contains-none, Contains-first, Contains-rest, Contains-cases}
use Rattle.ris_forest.specs.declared.deltas.DeltaRow.{DeltaRow}
use Rattle.ris_repair.specs.Stages.{IsRowOf, AreRowsOf}
use Rattle.ris_repair.specs.declared.stores.Change.{Change}

-- the vertices of rows
abbrev pub vertices_of : List DeltaRow → List ℕ
vertices_of rows = map (λ row. row.vertex) rows

-- a vertex of the rows is that of some row
Contains-vertex : (rows : List DeltaRow) (x : ℕ) → Contains (vertices_of rows) x → (row : DeltaRow) × Contains rows row × (row.vertex ≡ x)
Contains-vertex [] x h = absurd (Contains-none x h)
Contains-vertex (row ∷ rest) x h = elim (Contains-cases row.vertex (vertices_of rest) x h) [
  | inl same ↦ (row, Contains-first row rest, same)
  | inr later ↦ (let r = Contains-vertex rest x later in (r.0, Contains-rest row rest r.0 r.1, r.2))
]

-- a row that is made of a change tells it
pub row_made : (F : Forest) (changes : ℕ → Option Change) (row : DeltaRow) (x : ℕ) (c : Change) → changes x ≡ Some c → row.vertex ≡ x → row.value ≡ c.value
    → row.parent ≡ c.parent → (IsTrue row.moved ↔ (row.value ≢ F.value x)) → IsRowOf F changes row
row_made F changes row x c is vertex value parent moved = record {
  change = c;
  is = ap changes vertex ∙ is;
  value = value;
  parent = parent;
  moved = subst (λ (k : ℕ). IsTrue row.moved ↔ (row.value ≢ F.value k)) (sym vertex) moved;
}

-- one row more for the next key
pub keys_step : (rows : List DeltaRow) (row : DeltaRow) (entries rest : List (ℕ × Change)) (c : Change) (all : List ℕ) → entries ≡ (row.vertex, c) ∷ rest
    → vertices_of rows ++ keys_of entries ≡ all → vertices_of (rows ++ row ∷ []) ++ keys_of rest ≡ all
keys_step rows row entries rest c all is before =
    ap (λ (l : List ℕ). l ++ keys_of rest) (map-append (λ (r : DeltaRow). r.vertex) rows (row ∷ []))
    ∙ append_assoc (vertices_of rows) (row.vertex ∷ []) (keys_of rest)
    ∙ ap (λ (l : List (ℕ × Change)). vertices_of rows ++ keys_of l) (sym is) ∙ before

-- rows in another order tell the same changes
pub sorted_whole : (F : Forest) (changes : ℕ → Option Change) (ks : List ℕ) (rows sorted : List DeltaRow) → All (IsRowOf F changes) rows → vertices_of rows ≡ ks
    → ((x : ℕ) (c : Change) → changes x ≡ Some c → Contains ks x) → IsPermutation rows sorted → AreRowsOf F changes sorted
sorted_whole F changes ks rows sorted each keys has perm = record {
  each = All-permutation (IsRowOf F changes) rows sorted perm each;
  whole = λ x c is. (let r = Contains-vertex rows x (subst (λ (l : List ℕ). Contains l x) (sym keys) (has x c is)) in
      (r.0, Contains-permutation rows sorted r.0 perm r.1, r.2));
}

eqb-flips : (x y : ℕ) → eqb x y ≡ eqb y x
eqb-flips x y = elim (cases_eq x y) [
  | inl e ↦ eq-eqb x y e ∙ sym (eq-eqb y x (sym e))
  | inr ne ↦ ne_eqb x y ne ∙ sym (ne_eqb y x (λ e. ne (sym e)))
]

-- where no two vertices are the same, sorted rows ascend
pub sorted_ascending : (ks : List ℕ) (rows sorted : List DeltaRow) → vertices_of rows ≡ ks → IsDistinct eqb ks → IsPermutation rows sorted
    → IsNonDecreasingBy (λ row. row.vertex) sorted → AllPairs (λ row later. row.vertex < later.vertex) sorted
sorted_ascending ks rows sorted keys once perm order i j d low high =
    let again : IsDistinct eqb (vertices_of sorted) =
    IsDistinct-IsPermutation eqb eqb-flips (vertices_of rows) (vertices_of sorted) (IsPermutation-map (λ (r : DeltaRow). r.vertex) rows sorted perm)
    (subst (λ (l : List ℕ). IsDistinct eqb l) (sym keys) once) in
    let long : length (vertices_of sorted) ≡ length sorted = length-map sorted (λ (r : DeltaRow). r.vertex) in
    let apart = apart_from_distinct eqb (vertices_of sorted) i j 0 again low (omega arith) in
    let one : get_or (vertices_of sorted) i 0 ≡ (get_or sorted i d).vertex = get_or-map (λ (r : DeltaRow). r.vertex) sorted i d 0 (omega arith) in
    let two : get_or (vertices_of sorted) j 0 ≡ (get_or sorted j d).vertex = get_or-map (λ (r : DeltaRow). r.vertex) sorted j d 0 high in
    let le : (get_or sorted i d).vertex ≤ (get_or sorted j d).vertex = order i j d (omega arith) high in
    strict (get_or sorted i d).vertex (get_or sorted j d).vertex le
    (λ e. not_both (eqb (get_or (vertices_of sorted) i 0) (get_or (vertices_of sorted) j 0)) apart
    (eq-eqb (get_or (vertices_of sorted) i 0) (get_or (vertices_of sorted) j 0) (one ∙ e ∙ sym two)))
  where
    strict : (a b : ℕ) → a ≤ b → ¬ (a ≡ b) → a < b
    strict a b le ne = omega arith
