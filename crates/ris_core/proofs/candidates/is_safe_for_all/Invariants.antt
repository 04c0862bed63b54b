use Rattle.std.proofs.Common.{◌≡◌, drop, map}
use Rattle.ris_base.specs.Forest.{forest_in}
use Rattle.ris_base.specs.Lists.{each_pair}
use Rattle.ris_base.specs.Safe.{is_safe_for}
use Rattle.ris_core.proofs.candidates.is_safe_for_all.Given as goal

abbrev pub invariant-loop-k : goal.invariant-loop-k
invariant-loop-k l = each_pair (λ spec F. is_safe_for l.graph spec F l.update) (drop l.k l.specs) (map forest_in (drop l.k l.tables))
    ≡ each_pair (λ spec F. is_safe_for l.graph spec F l.update) l.specs (map forest_in l.tables)
