-- Counts that rise, step by step.
use Rattle.std.proofs.Common.{◌≡◌, ℕ, ◌+◌, ◌-◌, ◌^◌, ◌≤◌, min, arith, sym, ap, ◌∙◌}
use Rattle.ris_graph.specs.Ticks.{ticked, IsRise}
use Rattle.ris_graph.proofs.ListingLemmas.{ticked-zero, ticked-one, ticked-ticked}

-- nothing was counted
pub rise_none : (a n : ℕ) → IsRise a a n
rise_none a n = record { ticks = 0; few = omega arith; rose = sym (ticked-zero a) }

-- some, and then some more
pub rise_more : (a b c m n most : ℕ) → IsRise a b m → IsRise b c n → m + n ≤ most → IsRise a c most
rise_more a b c m n most one two le = record {
  ticks = one.ticks + two.ticks;
  few = (let f = one.few in let g = two.few in omega arith);
  rose = two.rose ∙ ap (λ k. ticked k two.ticks) one.rose ∙ ticked-ticked a one.ticks two.ticks;
}

-- one tick more
pub rise_one : (a b c m most : ℕ) → IsRise a b m → c ≡ min (b + 1) (2 ^ 64 - 1) → m + 1 ≤ most → IsRise a c most
rise_one a b c m most one tick le =
    rise_more a b c m 1 most one (record { ticks = 1; few = omega arith; rose = tick ∙ sym (ticked-one b) }) le

-- a looser bound
pub rise_within : (a b m most : ℕ) → IsRise a b m → m ≤ most → IsRise a b most
rise_within a b m most one le = record { ticks = one.ticks; few = (let f = one.few in omega arith); rose = one.rose }

-- the count is ticked by some number
pub rise-ticked : (a b m : ℕ) → IsRise a b m → (k : ℕ) × (b ≡ ticked a k)
rise-ticked a b m one = (one.ticks, one.rose)
