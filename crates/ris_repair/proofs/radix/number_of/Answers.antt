use Rattle.std.proofs.Common.{◌≡◌, ℕ, ◌-◌, arith, subst}
use Rattle.std.specs.Int.Bits.{bit_xor}
use Rattle.std.specs.Int.Count.{count_leading_zeros}
use Rattle.std.proofs.lemmas.Nat.{leading_length, xor_lt}
use Rattle.ris_repair.specs.Radix.{IsPlaced}
use Rattle.ris_repair.proofs.RadixLemmas.{placed_by_xor}
use Rattle.ris_repair.proofs.radix.number_of.Goals as goal

pub returns-clause-placed : goal.returns-clause-placed
returns-clause-placed c =
    let differ = bit_xor c.args.priority c.args.last in
    let bits = leading_length 64 differ (xor_lt 64 c.args.priority c.args.last (omega arith) (omega arith)) in
    let e : bits.0 ≡ 64 - count_leading_zeros 64 differ = omega (arith, bits.1) in
    subst (λ (m : ℕ). IsPlaced c.args.last m c.args.priority) e (placed_by_xor c.args.last c.args.priority bits.0 (omega arith) bits.2 bits.3)
