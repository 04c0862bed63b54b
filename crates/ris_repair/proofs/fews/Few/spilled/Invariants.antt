use Rattle.std.proofs.Common.{◌≡◌, ℕ, None, nat_eq, take}
use Rattle.std.specs.HashMap.{get}
use Rattle.std.specs.Map.{update_all}
use Rattle.ris_repair.proofs.fews.Few.spilled.Given as goal

abbrev pub invariant-loop-number : goal.invariant-loop-number
invariant-loop-number l = (x : ℕ) → get nat_eq l.map x ≡ update_all nat_eq (λ _. None) (take l.number l.self) x
