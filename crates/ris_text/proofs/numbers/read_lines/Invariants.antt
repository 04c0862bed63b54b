use Rattle.std.proofs.Common.{drop}
use Rattle.std.specs.List.{AllByRecursion}
use Rattle.ris_text.specs.Small.{IsSmallLine}
use Rattle.ris_text.proofs.numbers.read_lines.Given as goal

-- where those that are left are small, all are
abbrev pub invariant-loop-k : goal.invariant-loop-k
invariant-loop-k l = AllByRecursion IsSmallLine (drop l.k l.lines) → AllByRecursion IsSmallLine l.lines
