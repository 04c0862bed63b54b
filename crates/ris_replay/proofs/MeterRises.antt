-- A count of 64 bits that doesn't fall.
use Rattle.std.proofs.Common.{◌≡◌, ℕ, ◌+◌, ◌-◌, ◌<◌, ◌≤◌, ◌^◌, ◌==◌, min, if◌then◌else◌, Bool, true, false, arith}
use Rattle.ris_graph.specs.Ticks.{IsRise, ticked}
use Rattle.ris_replay.specs.Visits.{Rises}

-- a count that stays doesn't fall
pub rises-none : (n : ℕ) → Rises n n
rises-none n small = (omega arith, small)

-- twice is once
pub rises-twice : (a b c : ℕ) → Rises a b → Rises b c → Rises a c
rises-twice a b c one two small = let x = one small in let y = two x.1 in (omega arith, y.1)

-- a count of a meter that ticked doesn't fall
pub rises-ticked : (old new most : ℕ) → IsRise old new most → Rises old new
unfolding ticked
rises-ticked old new most r small = by (r.ticks == 0) r.rose
  where
    by : (b : Bool) → new ≡ (if b then old else min (old + r.ticks) (2 ^ 64 - 1)) → (old ≤ new) × (new < 2 ^ 64)
    by true is = (omega arith, omega arith)
    by false is = (omega arith, omega arith)

-- and it rose by no more than it ticked
pub rise-most : (old new most : ℕ) → IsRise old new most → new ≤ old + most
unfolding ticked
rise-most old new most r = by (r.ticks == 0) r.rose
  where
    by : (b : Bool) → new ≡ (if b then old else min (old + r.ticks) (2 ^ 64 - 1)) → new ≤ old + most
    by true is = omega arith
    by false is = let few = r.few in omega arith
