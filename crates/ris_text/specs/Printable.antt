-- Which replies can be printed.
use Rattle.std.specs.Prelude.{Bool, true, false, IsTrue, List, All}
use Rattle.ris_base.specs.declared.replies.LogLine.{LogLine}
use Rattle.ris_base.specs.declared.replies.LogLine.TheVariants.{Reply, Denied}
use Rattle.ris_base.specs.declared.replies.Outcome.TheVariants as outcome
use Rattle.ris_base.specs.declared.replies.ReadRefusal.TheVariants as denial

-- whether a reply can be printed: `Closed` and `Shut` are the replies to no command
abbrev pub is_printable : LogLine → Bool
is_printable (Reply outcome.Closed) = false
is_printable (Denied denial.Shut) = false
is_printable reply = true

-- all replies of all sessions can be printed
abbrev pub ArePrintable : List (List LogLine) → Type 0
ArePrintable logs = All (λ log. All (λ reply. IsTrue (is_printable reply)) log) logs
