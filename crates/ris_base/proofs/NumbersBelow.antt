-- The list of the numbers below a number.
use Rattle.std.proofs.Common.{◌≡◌, ◌<◌, ◌≤◌, ◌⊎◌, inl, inr, ℕ, zero, suc, [], ◌∷◌, ◌++◌, length, get_or, Some, arith, refl, sym, ◌∙◌, length-append}
use Rattle.std.specs.List.{All, Contains, slice_get}
use Rattle.std.proofs.Math.Nat.{eq-or-lt_of_le}
use Rattle.std.proofs.Math.Seq.{get_or-append_seam}
use Rattle.std.proofs.lemmas.List.{get_or_append_left}
use Rattle.std.proofs.lemmas.Option.{slice_get-get_or}
use Rattle.ris_base.specs.Graph.{EachOnce}
use Rattle.ris_base.specs.Lists.{numbers_below}

pub length-numbers_below : (n : ℕ) → length (numbers_below n) ≡ n
unfolding numbers_below
length-numbers_below zero = refl
length-numbers_below (suc n) = let less = length-numbers_below n in omega (arith, length-append (numbers_below n) (n ∷ []))

-- the number k stands at place k
pub get_or-numbers_below : (n k d : ℕ) → k < n → get_or (numbers_below n) k d ≡ k
unfolding numbers_below
get_or-numbers_below zero k d h = absurd (omega arith)
get_or-numbers_below (suc n) k d h =
    let le : k ≤ n = omega arith in
    by (eq-or-lt_of_le le) (get_or-numbers_below n k d)
  where
    by : (k ≡ n) ⊎ (k < n) → (k < n → get_or (numbers_below n) k d ≡ k) → get_or (numbers_below n ++ n ∷ []) k d ≡ k
    by (inr less) more =
        let within : k < length (numbers_below n) = rw (length-numbers_below n) less in
        get_or_append_left (numbers_below n) (n ∷ []) d k within ∙ more less
    by (inl same) more =
        let place : k ≡ length (numbers_below n) = same ∙ sym (length-numbers_below n) in
        rw place (get_or-append_seam (numbers_below n) n [] d ∙ sym (length-numbers_below n))

pub slice_get-numbers_below : (n k : ℕ) → k < n → slice_get (numbers_below n) k ≡ Some k
slice_get-numbers_below n k h =
    let within : k < length (numbers_below n) = rw (length-numbers_below n) h in
    let read = slice_get-get_or (numbers_below n) k 0 within in
    rw (get_or-numbers_below n k 0 h) at read

-- the numbers below n are below n
pub All-numbers_below : (n : ℕ) → All (λ x. x < n) (numbers_below n)
All-numbers_below n k d h =
    let within : k < n = rw (length-numbers_below n) at h in
    rw (get_or-numbers_below n k d within) within

pub Contains-numbers_below : (n x : ℕ) → x < n → Contains (numbers_below n) x
Contains-numbers_below n x h = (x, rw (length-numbers_below n) h, get_or-numbers_below n x x h)

pub EachOnce-numbers_below : (n : ℕ) → EachOnce (numbers_below n)
EachOnce-numbers_below n i j hi hj e =
    let wi : i < n = rw (length-numbers_below n) at hi in
    let wj : j < n = rw (length-numbers_below n) at hj in
    sym (get_or-numbers_below n i 0 wi) ∙ e ∙ get_or-numbers_below n j 0 wj
