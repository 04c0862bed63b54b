use Rattle.std.proofs.Common.{◌++◌}
use Rattle.std.specs.List.Sorted.{IsPermutation}
use Rattle.ris_repair.specs.Radix.{bucketed, IsRadix}
use Rattle.ris_repair.proofs.radix.settle.Given as goal

abbrev pub invariant-loop-item : goal.invariant-loop-item
invariant-loop-item l = record {
  radix : IsRadix l.last l.moving.items l.buckets;
  items : IsPermutation (l.initial.moving.items ++ bucketed l.initial.buckets) (l.moving.items ++ bucketed l.buckets);
}

abbrev pub decreases-loop-item : goal.decreases-loop-item
decreases-loop-item l = l.moving.len
