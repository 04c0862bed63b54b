-- What a contract sees of a row, and what each change makes of it.
use Rattle.std.specs.Prelude.{ℕ, ◌+◌, ◌-◌, List, length}
use Rattle.ris_rows.specs.Neighbours.{copies_of, counted}
use Rattle.ris_rows.specs.declared.neighbours.Neighbour.{Neighbour}

-- the neighbours in ascending order, and how many inserts take no memory
pub record RowView : Type 0 where
  pub items : List Neighbour
  pub spare : ℕ

-- the row with exactly k copies of (e, w), in the same memory
abbrev pub with_count : RowView → ℕ → ℕ → ℕ → RowView
with_count r e w k = record { items = counted r.items e w k; spare = (length r.items + r.spare) - length (counted r.items e w k) }

-- the row with one copy of (e, w) more, and with one fewer
abbrev pub inserted : RowView → ℕ → ℕ → RowView
inserted r e w = with_count r e w (copies_of r.items e w + 1)

abbrev pub removed : RowView → ℕ → ℕ → RowView
removed r e w = with_count r e w (copies_of r.items e w - 1)
