-- What a line says of a session's mark and leave.
use Rattle.std.specs.Prelude.{ℕ, Bool, false, ◌==◌, if◌then◌else◌}
use Rattle.ris_base.specs.declared.lines.Line.{Line}
use Rattle.ris_base.specs.declared.lines.Line.TheVariants as line

-- the place of a line where it is a mark of this session, else 0
abbrev pub mark_in : Line → ℕ → ℕ
mark_in (line.Entry e) s = 0
mark_in (line.Mark session seq upto) s = if session == s then upto else 0
mark_in (line.Leave session seq) s = 0

-- whether a line is a leave of this session
abbrev pub is_leave_of : ℕ → Line → Bool
is_leave_of s (line.Entry e) = false
is_leave_of s (line.Mark session seq upto) = false
is_leave_of s (line.Leave session seq) = session == s
