use Rattle.std.proofs.Common.{ℕ, ◌≤◌, List, drop, map}
use Rattle.ris_base.specs.Transcript.{journal_fields}
use Rattle.ris_text.specs.Journal.{journal_from, journal_of}
use Rattle.ris_text.specs.Spelled.{Adds}
use Rattle.ris_text.proofs.printers.Printer.put_journal.Given as goal

-- what adds the lines that are left has added all
abbrev pub invariant-loop-k : goal.invariant-loop-k
invariant-loop-k l = record {
  adds : (final : List ℕ) → Adds (map journal_fields (journal_from l.entries (drop l.k l.lines))) l.self-inside.text.items final
      → Adds (map journal_fields (journal_of l.lines)) l.initial.self-inside.text.items final;
  few : l.entries ≤ l.k;
}
