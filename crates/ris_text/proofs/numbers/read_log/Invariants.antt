use Rattle.std.proofs.Common.{drop}
use Rattle.std.specs.List.{AllByRecursion}
use Rattle.ris_text.specs.Small.{IsSmallReply}
use Rattle.ris_text.proofs.numbers.read_log.Given as goal

-- where those that are left are small, all are
abbrev pub invariant-loop-seq : goal.invariant-loop-seq
invariant-loop-seq l = AllByRecursion IsSmallReply (drop l.seq l.log) → AllByRecursion IsSmallReply l.log
