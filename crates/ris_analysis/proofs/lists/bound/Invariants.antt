use Rattle.std.proofs.Common.{◌<◌, ◌≤◌, ℕ, take}
use Rattle.std.specs.List.{All}
use Rattle.ris_analysis.proofs.lists.bound.Given as goal

abbrev pub invariant-loop-k : goal.invariant-loop-k
invariant-loop-k l = record {
  above : All (λ x. x < l.bound) (take l.k l.vertices);
  least : (n : ℕ) → All (λ x. x < n) l.vertices → l.bound ≤ n;
}
