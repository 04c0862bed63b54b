use Rattle.std.proofs.Common.{◌≡◌, ℕ, map, length}
use Rattle.std.specs.List.{All}
use Rattle.ris_history.specs.Chains.{trimmed}
use Rattle.ris_history.specs.Sound.{AreInOrder, IsDueBy}
use Rattle.ris_history.proofs.trims.trim.Given as goal

abbrev pub invariant-loop-due : goal.invariant-loop-due
invariant-loop-due l = record {
  order : AreInOrder l.dues.items l.chains.items l.kept;
  chains : map (trimmed l.floor) l.chains.items ≡ map (trimmed l.floor) l.fn.chains.items;
  ends : (n : ℕ) → All (IsDueBy n) l.fn.dues.items → All (IsDueBy n) l.dues.items;
}

abbrev pub decreases-loop-due : goal.decreases-loop-due
decreases-loop-due l = length l.dues.items
