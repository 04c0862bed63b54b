-- What a contract sees of a journal, and what each change makes of it.
use Rattle.std.specs.Prelude.{◌≡◌, ℕ, ◌+◌, ◌-◌, ◌≤◌, max, List, [], ◌∷◌, ◌++◌, Vec, vec_len, vec_capacity}
use Rattle.std.specs.declared.alloc.Global.{Global}
use Rattle.ris_base.specs.declared.lines.Line.{Line}
use Rattle.ris_base.specs.declared.lines.Line.TheVariants as line

-- the lines, and how many appends take no memory
pub record JournalView : Type 0 where
  pub lines : List Line
  pub spare : ℕ

-- the journal with room for n lines at least
abbrev pub with_room : JournalView → ℕ → JournalView
with_room j n = record j { spare = max j.spare n }

-- the journal with one line more, in the same memory
abbrev pub with_line : JournalView → Line → JournalView
with_line j l = record { lines = j.lines ++ l ∷ []; spare = j.spare - 1 }

-- the positions of the entries in a list of lines, the first of which has the position i
abbrev pub positions_from : ℕ → List Line → List ℕ
positions_from i [] = []
positions_from i (line.Entry e ∷ lines) = i ∷ positions_from (i + 1) lines
positions_from i (line.Mark session seq upto ∷ lines) = positions_from (i + 1) lines
positions_from i (line.Leave session seq ∷ lines) = positions_from (i + 1) lines

-- what a journal's fields keep: the positions of the entries, and room for so many lines that are all entries
pub record IsSound (lines : Vec Line Global) (positions : Vec ℕ Global) (spare : ℕ) : Type 0 where
  pub found : positions.items ≡ positions_from 0 lines.items
  pub lines_room : vec_len lines + spare ≤ vec_capacity lines
  pub positions_room : vec_len positions + spare ≤ vec_capacity positions
