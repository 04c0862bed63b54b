-- What a delta makes of a forest.
use Rattle.std.specs.Prelude.{ℕ, ◌<◌, ◌==◌, if◌then◌else◌, List, [], ◌∷◌, slice_set}
use Rattle.std.specs.List.{AllPairs}
use Rattle.ris_base.specs.Forest.{Forest}
use Rattle.ris_forest.specs.Cells.{Cell, IsParentBelow}
use Rattle.ris_forest.specs.declared.deltas.DeltaRow.{DeltaRow}

-- each row's vertex is less than those of all later rows
abbrev pub AreAscendingRows : List DeltaRow → Type 0
AreAscendingRows rows = AllPairs (λ row later. row.vertex < later.vertex) rows

-- the value and the parent that a row gives its vertex
abbrev pub cell_of : DeltaRow → Cell
cell_of row = record { value = row.value; parent = row.parent }

-- cells overwritten by rows, one after another
abbrev pub committed : List Cell → List DeltaRow → List Cell
committed cells [] = cells
committed cells (row ∷ rows) = committed (slice_set cells row.vertex (cell_of row)) rows

-- a forest overwritten by a row
abbrev pub with_row : Forest → DeltaRow → Forest
with_row F row = record {
  value = λ x. if row.vertex == x then row.value else F.value x;
  parent = λ x. if row.vertex == x then row.parent else F.parent x;
}

-- a forest overwritten by rows, one after another
unfoldable pub with_rows : Forest → List DeltaRow → Forest
with_rows F [] = F
with_rows F (row ∷ rows) = with_rows (with_row F row) rows

-- a row's vertex and the vertex of its parent are below n
pub record IsRowBelow (n : ℕ) (row : DeltaRow) : Type 0 where
  pub vertex : row.vertex < n
  pub parent : IsParentBelow n row.parent
