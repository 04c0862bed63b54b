use Rattle.std.proofs.Common.{ℕ, List, drop}
use Rattle.ris_base.specs.Transcript.{log_lines}
use Rattle.ris_text.specs.Spelled.{Adds}
use Rattle.ris_text.proofs.printers.Printer.put_log.Given as goal

-- what adds the replies that are left has added all
abbrev pub invariant-loop-seq : goal.invariant-loop-seq
invariant-loop-seq l =
    (final : List ℕ) → Adds (log_lines l.session l.seq (drop l.seq l.log)) l.self final → Adds (log_lines l.session 0 l.log) l.initial.self final
