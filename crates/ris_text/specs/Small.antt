-- Runs all of whose numbers are below 2^64.
use Rattle.std.specs.Prelude.{◌<◌, ◌^◌, List, length}
use Rattle.std.specs.List.{AllByRecursion}
use Rattle.ris_base.specs.Lines.{session_of, seq_of}
use Rattle.ris_base.specs.Transcript.{IsSmall, fields}
use Rattle.ris_base.specs.declared.lines.Line.{Line}
use Rattle.ris_base.specs.declared.replies.LogLine.{LogLine}

-- each number of a reply is below 2^64
abbrev pub IsSmallReply : LogLine → Type 0
IsSmallReply reply = AllByRecursion IsSmall (fields reply)

-- so are the numbers of all replies of a session, and how many there are
pub record IsSmallLog (log : List LogLine) : Type 0 where
  pub commands : length log < 2 ^ 64
  pub replies : AllByRecursion IsSmallReply log

-- so are the session of a line of the serial list and the number of its command
pub record IsSmallLine (l : Line) : Type 0 where
  pub session : session_of l < 2 ^ 64
  pub seq : seq_of l < 2 ^ 64

-- so are all numbers of a run: how many sessions and lines there are, and those of the replies and of the serial list
pub record AreSmall (logs : List (List LogLine)) (lines : List Line) : Type 0 where
  pub sessions : length logs < 2 ^ 64
  pub replies : AllByRecursion IsSmallLog logs
  pub places : length lines < 2 ^ 64
  pub made : AllByRecursion IsSmallLine lines
