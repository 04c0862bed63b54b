use Rattle.std.proofs.Common.{◌≡◌, ◌++◌, drop}
use Rattle.std.specs.Option.{option_map}
use Rattle.ris_core.specs.Moves.{merge_of}
use Rattle.ris_core.proofs.cells.merge_of.Given as goal

abbrev pub invariant-loop-k : goal.invariant-loop-k
invariant-loop-k l = option_map (λ more. l.merged.items ++ more) (merge_of (drop l.k l.order) l.rest.items) ≡ merge_of l.order l.decided
