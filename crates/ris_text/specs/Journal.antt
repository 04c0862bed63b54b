-- The transcript that is printed of a run: the replies of each session, the journal of its serial list, and the counts.
use Rattle.std.specs.Prelude.{ℕ, ◌+◌, List, [], ◌∷◌}
use Rattle.ris_base.specs.Lines.{front, mark_count}
use Rattle.ris_base.specs.Transcript.{JournalLine, Summary, Transcript, refused_count}
use Rattle.ris_base.specs.Transcript.JournalLine.{EntryLine, MarkLine, LeaveLine}
use Rattle.ris_base.specs.declared.lines.Line.{Line}
use Rattle.ris_base.specs.declared.lines.Line.TheVariants as line
use Rattle.ris_base.specs.declared.replies.LogLine.{LogLine}

-- the journal of a serial list behind n entries: the places of its entries are counted on, and a mark or a leave has the number of
-- entries before it
unfoldable pub journal_from : ℕ → List Line → List JournalLine
journal_from n [] = []
journal_from n (line.Entry e ∷ lines) = EntryLine (n + 1) e.session e.seq ∷ journal_from (n + 1) lines
journal_from n (line.Mark session seq upto ∷ lines) = MarkLine n session seq ∷ journal_from n lines
journal_from n (line.Leave session seq ∷ lines) = LeaveLine n session seq ∷ journal_from n lines

-- the journal of a serial list
abbrev pub journal_of : List Line → List JournalLine
journal_of lines = journal_from 0 lines

-- the summary of these replies, this serial list and so many visits
abbrev pub summary_of : List (List LogLine) → List Line → ℕ → Summary
summary_of logs lines visits =
    record { entries = front lines; marks = mark_count lines; refused = refused_count logs; visits = visits }

-- the transcript of these replies, this serial list and so many visits
abbrev pub transcript_of : List (List LogLine) → List Line → ℕ → Transcript
transcript_of logs lines visits =
    record { replies = logs; journal = journal_of lines; summary = summary_of logs lines visits }
