-- What more cells and rows of a delta make of the forest that cells say.
use Rattle.std.proofs.Common.{◌≡◌, ◌≢◌, ℕ, zero, suc, ◌^◌, ◌<◌, ◌≤◌, ◌==◌, if◌then◌else◌, inl, inr, List, [], ◌∷◌, ◌++◌, length, set, replicate, arith, refl, sym, subst, ap, ◌∙◌}
use Rattle.std.specs.List.{All, Contains}
use Rattle.std.proofs.lemmas.Bool.{cases_eq, cond_both, eq-eqb, ne_eqb}
use Rattle.std.proofs.lemmas.Grind.{get_or-set_at}
use Rattle.std.proofs.lemmas.List.{length-set, length-append, get_or-set_other}
use Rattle.std.proofs.lemmas.List.Elements.{All-head, All-tail}
use Rattle.ris_base.specs.Forest.{Forest}
use Rattle.ris_base.specs.declared.forests.Parent.{Parent}
use Rattle.ris_base.specs.declared.forests.Parent.TheVariants as parent
use Rattle.ris_base.proofs.ListLemmas.{Contains-none, Contains-first, Contains-rest, Contains-cases}
use Rattle.ris_base.proofs.RowLemmas.{AllPairs-drop_one}
use Rattle.ris_forest.specs.Cells.{Cell, absent_cell, cell_at, forest_of, IsRooted, IsSmall, IsParentBelow, IsSound}
use Rattle.ris_forest.specs.Commits.{AreAscendingRows, cell_of, committed, with_row, with_rows, IsRowBelow}
use Rattle.ris_forest.specs.declared.deltas.DeltaRow.{DeltaRow}
use mathlib.Core.Path.{fun_ext}

-- forests with equal values and parents are equal
forest_ext : (F G : Forest) → ((x : ℕ) → F.value x ≡ G.value x) → ((x : ℕ) → F.parent x ≡ G.parent x) → F ≡ G
forest_ext F G values parents = λ i. record { value = fun_ext values i; parent = fun_ext parents i }

-- More cells

-- cells of absent vertices alone
cell_at-absent : (n x : ℕ) → cell_at (replicate n absent_cell) x ≡ absent_cell
cell_at-absent zero x = refl
cell_at-absent (suc n) zero = refl
cell_at-absent (suc n) (suc x) = cell_at-absent n x

-- a list of cells with cells of absent vertices at the end
cell_at-more : (cells : List Cell) (n x : ℕ) → cell_at (cells ++ replicate n absent_cell) x ≡ cell_at cells x
cell_at-more [] n x = cell_at-absent n x
cell_at-more (c ∷ cells) n zero = refl
cell_at-more (c ∷ cells) n (suc x) = cell_at-more cells n x

-- cells of absent vertices at the end leave the forest
pub forest_of-more : (cells : List Cell) (n : ℕ) → forest_of (cells ++ replicate n absent_cell) ≡ forest_of cells
forest_of-more cells n =
    forest_ext (forest_of (cells ++ replicate n absent_cell)) (forest_of cells) (λ x. ap (λ (c : Cell). c.value) (cell_at-more cells n x)) (λ x. ap (λ (c : Cell). c.parent) (cell_at-more cells n x))

-- Rows

-- the first row's vertex is less than those of the others, which ascend
ascending-first : (row : DeltaRow) (rows : List DeltaRow) (later : DeltaRow) → AreAscendingRows (row ∷ rows) → Contains rows later → row.vertex < later.vertex
ascending-first row rows later ascending h =
    let within = h.1 in
    subst (λ (r : DeltaRow). row.vertex < r.vertex) h.2 (ascending 0 (suc h.0) later (omega arith) (omega arith))

-- and the others ascend
ascending-rest : (row : DeltaRow) (rows : List DeltaRow) → AreAscendingRows (row ∷ rows) → AreAscendingRows rows
ascending-rest row rows ascending = AllPairs-drop_one (λ (r later : DeltaRow). r.vertex < later.vertex) (row ∷ rows) ascending

-- a row overwrites the cell of its vertex
forest_of-set : (cells : List Cell) (row : DeltaRow) → row.vertex < length cells → forest_of (set cells row.vertex (cell_of row)) ≡ with_row (forest_of cells) row
forest_of-set cells row within =
    forest_ext (forest_of (set cells row.vertex (cell_of row))) (with_row (forest_of cells) row)
    (λ x. read (λ (c : Cell). c.value) x) (λ x. read (λ (c : Cell). c.parent) x)
  where
    read : {B : Type 0} (f : Cell → B) (x : ℕ) → f (cell_at (set cells row.vertex (cell_of row)) x) ≡ (if row.vertex == x then f (cell_of row) else f (cell_at cells x))
    read f x = elim (cases_eq row.vertex x) [
      | inl same ↦ (let t = eq-eqb row.vertex x same in rw t (ap f (get_or-set_at cells row.vertex x (cell_of row) absent_cell (sym same) within)))
      | inr apart ↦ (let u = ne_eqb row.vertex x apart in rw u (ap f (get_or-set_other cells row.vertex x (cell_of row) absent_cell (λ e. apart (sym e)))))
    ]

-- rows leave the number of cells
pub length-committed : (cells : List Cell) (rows : List DeltaRow) → length (committed cells rows) ≡ length cells
length-committed cells [] = refl
length-committed cells (row ∷ rows) = length-committed (set cells row.vertex (cell_of row)) rows ∙ length-set cells row.vertex (cell_of row)

-- where there is room for each row, the forest is overwritten by the rows
pub forest_of-committed : (cells : List Cell) (rows : List DeltaRow) → All (IsRowBelow (length cells)) rows → forest_of (committed cells rows) ≡ with_rows (forest_of cells) rows
unfolding with_rows
forest_of-committed cells [] room = refl
forest_of-committed cells (row ∷ rows) room =
    let size = length-set cells row.vertex (cell_of row) in
    forest_of-committed (set cells row.vertex (cell_of row)) rows
    (subst (λ n. All (IsRowBelow n) rows) (sym size) (All-tail (IsRowBelow (length cells)) row rows room))
    ∙ ap (λ (F : Forest). with_rows F rows) (forest_of-set cells row (All-head (IsRowBelow (length cells)) row rows room).vertex)

-- the value and the parent of a vertex that no row names
pub with_rows-other : (F : Forest) (rows : List DeltaRow) (x : ℕ) → ((row : DeltaRow) → Contains rows row → row.vertex ≢ x)
    → ((with_rows F rows).value x ≡ F.value x) × ((with_rows F rows).parent x ≡ F.parent x)
unfolding with_rows
with_rows-other F [] x apart = (refl, refl)
with_rows-other F (row ∷ rows) x apart =
    let rest = with_rows-other (with_row F row) rows x (λ r k. apart r (Contains-rest row rows r k)) in
    let u = ne_eqb row.vertex x (apart row (Contains-first row rows)) in
    (rw u at rest.0, rw u at rest.1)

-- and of one that a row names
pub with_rows-row : (F : Forest) (rows : List DeltaRow) (row : DeltaRow) → AreAscendingRows rows → Contains rows row
    → ((with_rows F rows).value row.vertex ≡ row.value) × ((with_rows F rows).parent row.vertex ≡ row.parent)
unfolding with_rows
with_rows-row F [] row ascending h = absurd (Contains-none row h)
with_rows-row F (first ∷ rows) row ascending h = elim (Contains-cases first rows row h) [
  | inl same ↦ subst (λ (r : DeltaRow). ((with_rows F (first ∷ rows)).value r.vertex ≡ r.value) × ((with_rows F (first ∷ rows)).parent r.vertex ≡ r.parent)) same
      (let rest = with_rows-other (with_row F first) rows first.vertex (λ r k. let later = ascending-first first rows r ascending k in λ e. absurd (omega arith)) in
      let t = eq-eqb first.vertex first.vertex refl in
      (rw t at rest.0, rw t at rest.1))
  | inr later ↦ with_rows-row (with_row F first) rows row (ascending-rest first rows ascending) later
]

-- What the rows keep

-- values stay small
small-with_rows : (F : Forest) (rows : List DeltaRow) → ((x : ℕ) → IsSmall (F.value x)) → All (λ row. IsSmall row.value) rows → (x : ℕ) → IsSmall ((with_rows F rows).value x)
unfolding with_rows
small-with_rows F [] small each x = small x
small-with_rows F (row ∷ rows) small each x =
    small-with_rows (with_row F row) rows
    (λ y. cond_both (row.vertex == y) row.value (F.value y) IsSmall (λ _. All-head (λ (r : DeltaRow). IsSmall r.value) row rows each) (λ _. small y))
    (All-tail (λ (r : DeltaRow). IsSmall r.value) row rows each) x

-- parents stay inside
inside-with_rows : (n : ℕ) (F : Forest) (rows : List DeltaRow) → ((x : ℕ) → IsParentBelow n (F.parent x)) → All (IsRowBelow n) rows → (x : ℕ) → IsParentBelow n ((with_rows F rows).parent x)
unfolding with_rows
inside-with_rows n F [] inside each x = inside x
inside-with_rows n F (row ∷ rows) inside each x =
    inside-with_rows n (with_row F row) rows
    (λ y. cond_both (row.vertex == y) row.parent (F.parent y) (IsParentBelow n) (λ _. (All-head (IsRowBelow n) row rows each).parent) (λ _. inside y))
    (All-tail (IsRowBelow n) row rows each) x

-- Sound cells

-- no cells
pub IsSound-none : IsSound []
IsSound-none = record { rooted = λ x. (0, refl); small = λ x. tt; inside = λ x. tt; few = omega arith }

-- cells of absent vertices at the end
pub IsSound-more : (cells : List Cell) (n : ℕ) → IsSound cells → length (cells ++ replicate n absent_cell) < 2 ^ 32 → IsSound (cells ++ replicate n absent_cell)
IsSound-more cells n sound few =
    let same = sym (forest_of-more cells n) in
    let size = length-append cells (replicate n absent_cell) in
    record {
      rooted = subst IsRooted same sound.rooted;
      small = subst (λ (F : Forest). (x : ℕ) → IsSmall (F.value x)) same sound.small;
      inside = subst (λ (F : Forest). (x : ℕ) → IsParentBelow (length (cells ++ replicate n absent_cell)) (F.parent x)) same
          (λ x. further ((forest_of cells).parent x) (omega arith) (sound.inside x));
      few = few;
    }
  where
    further : (p : Parent) → length cells ≤ length (cells ++ replicate n absent_cell) → IsParentBelow (length cells) p
        → IsParentBelow (length (cells ++ replicate n absent_cell)) p
    further parent.None le h = tt
    further (parent.From vertex source target weight) le h = omega arith

-- cells overwritten by rows
pub IsSound-committed : (cells : List Cell) (rows : List DeltaRow) → IsSound cells → All (IsRowBelow (length cells)) rows → All (λ row. IsSmall row.value) rows
    → IsRooted (with_rows (forest_of cells) rows) → IsSound (committed cells rows)
IsSound-committed cells rows sound room small rooted =
    let same = sym (forest_of-committed cells rows room) in
    let size = length-committed cells rows in
    let few = sound.few in
    record {
      rooted = subst IsRooted same rooted;
      small = subst (λ (F : Forest). (x : ℕ) → IsSmall (F.value x)) same (small-with_rows (forest_of cells) rows sound.small small);
      inside = subst (λ (F : Forest). (x : ℕ) → IsParentBelow (length (committed cells rows)) (F.parent x)) same
          (subst (λ n. (x : ℕ) → IsParentBelow n ((with_rows (forest_of cells) rows).parent x)) (sym size)
          (inside-with_rows (length cells) (forest_of cells) rows sound.inside room));
      few = omega arith;
    }
