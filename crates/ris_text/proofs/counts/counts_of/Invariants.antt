use Rattle.std.proofs.Common.{◌≡◌, ◌≤◌, ◌+◌, drop}
use Rattle.ris_base.specs.Lines.{front, mark_count}
use Rattle.ris_text.proofs.counts.counts_of.Given as goal

abbrev pub invariant-loop-k : goal.invariant-loop-k
invariant-loop-k l = record {
  entries : l.entries + front (drop l.k l.lines) ≡ front l.lines;
  marks : l.marks + mark_count (drop l.k l.lines) ≡ mark_count l.lines;
  few_entries : l.entries ≤ l.k;
  few_marks : l.marks ≤ l.k;
}
