use Rattle.std.proofs.Common.{ℕ, List, drop}
use Rattle.ris_base.specs.Transcript.{reply_lines}
use Rattle.ris_text.specs.Spelled.{Adds}
use Rattle.ris_text.proofs.printers.Printer.put_replies.Given as goal

-- what adds the logs that are left has added all
abbrev pub invariant-loop-session : goal.invariant-loop-session
invariant-loop-session l =
    (final : List ℕ) → Adds (reply_lines l.session (drop l.session l.logs)) l.self final → Adds (reply_lines 0 l.logs) l.initial.self final
