use Rattle.std.proofs.Common.{drop, map}
use Rattle.std.specs.List.{AllByRecursion}
use Rattle.ris_base.specs.Transcript.{IsSmall}
use Rattle.ris_base.specs.Transcript.Field.{Number}
use Rattle.ris_text.proofs.numbers.read_vertices.Given as goal

-- where those that are left are small, all are
abbrev pub invariant-loop-k : goal.invariant-loop-k
invariant-loop-k l = AllByRecursion IsSmall (map Number (drop l.k l.vertices)) → AllByRecursion IsSmall (map Number l.vertices)
