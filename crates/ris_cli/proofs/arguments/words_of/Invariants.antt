use Rattle.std.proofs.Common.{◌≡◌, ◌++◌, map, string_bytes}
use Rattle.std.specs.Vec.Iter.{into_iter_items}
use Rattle.ris_cli.proofs.arguments.words_of.Given as goal

abbrev pub invariant-loop-arg : goal.invariant-loop-arg
invariant-loop-arg l = map string_bytes (into_iter_items l.fn.args) ≡ l.words ++ map string_bytes (into_iter_items l.arg-iterator)
