-- How many visits a count rose by, and counts that rise twice.
use Rattle.std.proofs.Common.{◌≡◌, ℕ, ◌+◌, ◌-◌, ◌^◌, ◌<◌, ◌≤◌, ◌==◌, inl, inr, if◌then◌else◌, nat_le, Bool, min, arith, refl, sym, ap, ◌∙◌, eq-eqb}
use Rattle.std.proofs.lemmas.Bool.{cases_eq, cases_lt, le-leb, lt-leb, ne_eqb}
use Rattle.ris_graph.specs.Ticks.{IsRise, ticked}

-- the greatest count
abbrev pub most : ℕ
most = 2 ^ 64 - 1

-- by no ticks a count stays
pub ticked-none : (a : ℕ) → ticked a 0 ≡ a
unfolding ticked
ticked-none a = refl

-- by some it stands at their sum, or at the greatest
pub ticked-some : (a n : ℕ) → 0 < n → ticked a n ≡ min (a + n) most
unfolding ticked
ticked-some a n some = rw (ne_eqb n 0 (λ e. absurd (omega arith))) refl

-- two rises are one
pub ticked-twice : (a m n : ℕ) → ticked (ticked a m) n ≡ ticked a (m + n)
ticked-twice a m n = elim (cases_eq m 0) [
  | inl none ↦ ap (λ (k : ℕ). ticked (ticked a k) n) none ∙ ap (λ (b : ℕ). ticked b n) (ticked-none a) ∙ ap (ticked a) (let e : n ≡ m + n = omega arith in e)
  | inr some ↦ elim (cases_eq n 0) [
    | inl none ↦ ap (ticked (ticked a m)) none ∙ ticked-none (ticked a m) ∙ ap (ticked a) (let e : m ≡ m + n = omega arith in e)
    | inr more ↦
        let first = ticked-some a m (omega arith) in
        let second = ticked-some (ticked a m) n (omega arith) in
        let both = ticked-some a (m + n) (omega arith) in
        second ∙ ap (λ (b : ℕ). min (b + n) most) first ∙ capped (a + m) n most ∙ ap (λ (k : ℕ). min k most) (let e : a + m + n ≡ a + (m + n) = omega arith in e) ∙ sym both
  ]
]
  where
    capped : (x n l : ℕ) → min (min x l + n) l ≡ min (x + n) l
    capped x n l = omega arith

-- the visits between two counts
unfoldable pub visits_between : ℕ → ℕ → ℕ
visits_between old new = if nat_le old most then new - old else (if new == old then 0 else 1)

-- where the first is within the range
between-within : (old new : ℕ) → old ≤ most → visits_between old new ≡ new - old
unfolding visits_between
between-within old new h = rw (le-leb old most h) refl

-- and where it isn't
between-past : (old new : ℕ) → most < old → visits_between old new ≡ (if new == old then 0 else 1)
unfolding visits_between
between-past old new h = rw (lt-leb old most h) refl

-- a count rose by these visits, which are at most the ticks
pub between-ticks : (old new n : ℕ) → new ≡ ticked old n → (new ≡ ticked old (visits_between old new)) × (visits_between old new ≤ n)
between-ticks old new n is = elim (cases_eq n 0) [
  | inl none ↦
      let same : new ≡ old = is ∙ ap (ticked old) none ∙ ticked-none old in
      let zero_visits : visits_between old new ≡ 0 = elim (cases_lt most old) [
        | inl past ↦ between-past old new past ∙ ap (λ (b : Bool). if b then 0 else 1) (eq-eqb new old same)
        | inr within ↦ (let e = between-within old new within in omega arith)
      ] in
      (same ∙ sym (ap (ticked old) zero_visits ∙ ticked-none old), omega arith)
  | inr some ↦
      let up : new ≡ min (old + n) most = is ∙ ticked-some old n (omega arith) in
      elim (cases_lt most old) [
        | inl past ↦
            let top : new ≡ most = omega arith in
            let one : visits_between old new ≡ 1 = between-past old new past ∙ ap (λ (b : Bool). if b then 0 else 1) (ne_eqb new old (λ e. absurd (omega arith))) in (
              let by_one : ticked old 1 ≡ min (old + 1) most = ticked-some old 1 (omega arith) in
                  let there : new ≡ min (old + 1) most = omega arith in there ∙ sym by_one ∙ ap (ticked old) (sym one),
              omega arith,
            )
        | inr within ↦
            let v : visits_between old new ≡ new - old = between-within old new within in (
              elim (cases_eq (visits_between old new) 0) [
                | inl stays ↦ (let same : new ≡ old = omega arith in same ∙ sym (ap (ticked old) stays ∙ ticked-none old))
                | inr rises ↦ (let there : new ≡ min (old + visits_between old new) most = omega arith in there ∙ sym (ticked-some old (visits_between old new) (omega arith)))
              ],
              omega arith,
            )
      ]
]

-- they are at most what the rise may be
pub between-rise : (old new n : ℕ) → IsRise old new n → (new ≡ ticked old (visits_between old new)) × (visits_between old new ≤ n)
between-rise old new n rise =
    let all = between-ticks old new rise.ticks rise.rose in
    let few = rise.few in
    let within = all.1 in
    (all.0, omega arith)
