-- Rows in tables: by place, and by vertex in 64 stripes.
use Rattle.std.specs.Prelude.{◌≡◌, ℕ, ◌<◌, ◌≤◌, ◌/◌, ◌%◌, Bool, if◌then◌else◌, List, [], length, slice_set, slice_index_or}
use Rattle.ris_rows.specs.RowView.{RowView}
use Rattle.ris_graph.specs.GraphView.{row_at}
use Rattle.ris_graph.specs.declared.nets.NetTriple.{NetTriple}

-- the row of u among rows in stripes: it stands in the stripe u mod 64 at the place u div 64
unfoldable pub row_of : List (List RowView) → ℕ → RowView
row_of stripes u = row_at (slice_index_or stripes (u % 64) []) (u / 64)

-- the rows in stripes with another row for u
unfoldable pub with_row : List (List RowView) → ℕ → RowView → List (List RowView)
with_row stripes u r = slice_set stripes (u % 64) (slice_set (slice_index_or stripes (u % 64) []) (u / 64) r)

-- u has a row among rows in stripes
abbrev pub HasRow : List (List RowView) → ℕ → Type 0
HasRow stripes u = u / 64 < length (slice_index_or stripes (u % 64) [])

-- the same row, with at least the room that it had
pub record IsRoomier (old new : RowView) : Type 0 where
  pub items : new.items ≡ old.items
  pub spare : old.spare ≤ new.spare

-- the source or the target of a triple of a net
abbrev pub end_of : Bool → NetTriple → ℕ
end_of out t = if out then t.triple.source else t.triple.target
