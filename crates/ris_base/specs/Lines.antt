-- The serial list of lines: its entries, marks and leaves, its front, and the floor.
use Rattle.std.specs.Prelude.{ℕ, zero, suc, ◌+◌, Bool, false, ◌||◌, ◌==◌, if◌then◌else◌, min, max, List, [], ◌∷◌, Option, Some, None, unwrap_or}
use Rattle.std.specs.Option.{option_map_or}
use Rattle.ris_base.specs.declared.lines.Entry.{Entry}
use Rattle.ris_base.specs.declared.lines.Line.{Line}
use Rattle.ris_base.specs.declared.lines.Line.TheVariants as line

-- the number of entries
unfoldable pub front : List Line → ℕ
front [] = 0
front (line.Entry e ∷ lines) = front lines + 1
front (line.Mark session seq upto ∷ lines) = front lines
front (line.Leave session seq ∷ lines) = front lines

-- the number of marks
unfoldable pub mark_count : List Line → ℕ
mark_count [] = 0
mark_count (line.Entry e ∷ lines) = mark_count lines
mark_count (line.Mark session seq upto ∷ lines) = mark_count lines + 1
mark_count (line.Leave session seq ∷ lines) = mark_count lines

-- the entry at a place, which is its number among the entries, from 1
unfoldable pub entry_at : List Line → ℕ → Option Entry
entry_at lines zero = None
entry_at [] (suc v) = None
entry_at (line.Entry e ∷ lines) (suc zero) = Some e
entry_at (line.Entry e ∷ lines) (suc (suc v)) = entry_at lines (suc v)
entry_at (line.Mark session seq upto ∷ lines) (suc v) = entry_at lines (suc v)
entry_at (line.Leave session seq ∷ lines) (suc v) = entry_at lines (suc v)

-- the session whose command a line is, and the number of that command in the session
abbrev pub session_of : Line → ℕ
session_of (line.Entry e) = e.session
session_of (line.Mark session seq upto) = session
session_of (line.Leave session seq) = session

abbrev pub seq_of : Line → ℕ
seq_of (line.Entry e) = e.seq
seq_of (line.Mark session seq upto) = seq
seq_of (line.Leave session seq) = seq

-- the mark of a session: the greatest place below which it said that it needs no version, or 0
unfoldable pub mark : List Line → ℕ → ℕ
mark [] s = 0
mark (line.Entry e ∷ lines) s = mark lines s
mark (line.Mark session seq upto ∷ lines) s = if session == s then max upto (mark lines s) else mark lines s
mark (line.Leave session seq ∷ lines) s = mark lines s

-- whether a session has left
unfoldable pub has_left : List Line → ℕ → Bool
has_left [] s = false
has_left (line.Entry e ∷ lines) s = has_left lines s
has_left (line.Mark session seq upto ∷ lines) s = has_left lines s
has_left (line.Leave session seq ∷ lines) s = (session == s) || has_left lines s

-- the least mark over those of the first n sessions that haven't left, where there is one
unfoldable pub least_mark : ℕ → List Line → Option ℕ
least_mark zero lines = None
least_mark (suc n) lines =
    if has_left lines n then least_mark n lines
    else Some (option_map_or (min (mark lines n)) (least_mark n lines) (mark lines n))

-- the number of entries before the last leave of a list: n entries stand before these lines, and so many before the last
-- leave of what stands before them
unfoldable pub front_at_leave : ℕ → ℕ → List Line → ℕ
front_at_leave n at [] = at
front_at_leave n at (line.Entry e ∷ lines) = front_at_leave (n + 1) at lines
front_at_leave n at (line.Mark session seq upto ∷ lines) = front_at_leave n at lines
front_at_leave n at (line.Leave session seq ∷ lines) = front_at_leave n n lines

-- the floor, of n sessions: the least mark over those that haven't left; where all have left, the number of entries before
-- the last leave
abbrev pub floor : ℕ → List Line → ℕ
floor n lines = unwrap_or (least_mark n lines) (front_at_leave 0 0 lines)
