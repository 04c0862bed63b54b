-- Counts of visits.
use Rattle.std.specs.Prelude.{◌≡◌, ℕ, ◌+◌, ◌-◌, ◌≤◌, ◌^◌, ◌==◌, min, if◌then◌else◌}

-- a count after n ticks: it stops at the greatest number of 64 bits
unfoldable pub ticked : ℕ → ℕ → ℕ
ticked count n = if n == 0 then count else min (count + n) (2 ^ 64 - 1)

-- a count rose by some ticks, by at most so many
pub record IsRise (old new most : ℕ) : Type 0 where
  pub ticks : ℕ
  pub few : ticks ≤ most
  pub rose : new ≡ ticked old ticks
