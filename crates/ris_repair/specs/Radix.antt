-- Buckets of a radix heap: lists of items, each a priority and a vertex.
use Rattle.std.specs.Prelude.{◌≡◌, ℕ, ◌+◌, ◌/◌, ◌^◌, ◌<◌, ◌≤◌, List, [], length, slice_index_or}
use Rattle.std.specs.List.{All, flat_map}

-- the bucket of this number
abbrev pub bucket_at : List (List (ℕ × ℕ)) → ℕ → List (ℕ × ℕ)
bucket_at buckets number = slice_index_or buckets number []

-- the items of all buckets, one bucket after the other
abbrev pub bucketed : List (List (ℕ × ℕ)) → List (ℕ × ℕ)
bucketed buckets = flat_map (λ bucket. bucket) buckets

-- so many low bits and no fewer have to go, until the priority agrees with the last one, which is at least as great
pub record IsPlaced (last number priority : ℕ) : Type 0 where
  pub same : priority / 2 ^ number ≡ last / 2 ^ number
  pub less : (k : ℕ) → k < number → priority / 2 ^ k < last / 2 ^ k

-- each item stands in the bucket of its priority
abbrev pub ArePlaced : ℕ → List (List (ℕ × ℕ)) → Type 0
ArePlaced last buckets = (number : ℕ) → All (λ item. IsPlaced last number item.0) (bucket_at buckets number)

-- each item stands in the bucket of its priority, or has to be moved there, and then there are all buckets
pub record IsRadix (last : ℕ) (moving : List (ℕ × ℕ)) (buckets : List (List (ℕ × ℕ))) : Type 0 where
  pub size : 0 < length moving + length buckets → length buckets ≡ 65
  pub placed : ArePlaced last buckets
  pub below : All (λ item. item.0 ≤ last) moving

-- the bucket of this number is the first that isn't empty
pub record IsLowest (buckets : List (List (ℕ × ℕ))) (number : ℕ) : Type 0 where
  pub within : number < length buckets
  pub some : 0 < length (bucket_at buckets number)
  pub none : (k : ℕ) → k < number → bucket_at buckets k ≡ []
