use Rattle.std.proofs.Common.{drop}
use Rattle.std.specs.List.{AllByRecursion}
use Rattle.ris_text.specs.Small.{IsSmallLog}
use Rattle.ris_text.proofs.numbers.read_logs.Given as goal

-- where those that are left are small, all are
abbrev pub invariant-loop-session : goal.invariant-loop-session
invariant-loop-session l = AllByRecursion IsSmallLog (drop l.session l.logs) → AllByRecursion IsSmallLog l.logs
