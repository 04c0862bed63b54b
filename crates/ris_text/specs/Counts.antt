-- The counts of a run.
use Rattle.std.specs.Prelude.{◌≡◌, ℕ, List}
use Rattle.ris_base.specs.Lines.{front, mark_count}
use Rattle.ris_base.specs.Transcript.{Summary, refused_count}
use Rattle.ris_base.specs.declared.lines.Line.{Line}
use Rattle.ris_base.specs.declared.replies.LogLine.{LogLine}
use Rattle.ris_text.specs.declared.counts.Counts.{Counts}

-- they are the numbers of the entries and the marks of a serial list, and of the refused replies
pub record AreCounts (logs : List (List LogLine)) (lines : List Line) (counts : Counts) : Type 0 where
  pub entries : counts.entries ≡ front lines
  pub marks : counts.marks ≡ mark_count lines
  pub refused : counts.refused ≡ refused_count logs

-- the summary that they make with so many visits
abbrev pub summary_with : Counts → ℕ → Summary
summary_with counts visits =
    record { entries = counts.entries; marks = counts.marks; refused = counts.refused; visits = visits }
