use Rattle.std.proofs.Common.{arith}
use Rattle.ris_repair.proofs.RadixLemmas.{placed_le, up_to_bound}
use Rattle.ris_repair.proofs.radix.is_passed.Goals as goal

pub returns-then-last-bound-clause-passed : goal.returns-then-last-bound-clause-passed
returns-then-last-bound-clause-passed c =
    λ _ k p le h. up_to_bound c.args.bound c.in-Some.bound p c.in-Some.is (omega (arith, placed_le c.args.last k p h))
