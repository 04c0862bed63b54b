-- Sums over the vertices that pass a test, against sums over lists in which they stand.
use Rattle.std.proofs.Common.{◌≡◌, ℕ, zero, suc, ◌+◌, ◌<◌, ◌≤◌, ◌==◌, Bool, true, false, if◌then◌else◌, inl, inr, List, [], ◌∷◌, arith, refl, sym, subst, ap, ◌∙◌}
use Rattle.std.specs.List.{Contains, sum_by}
use Rattle.std.proofs.lemmas.Bool.{cases_Bool, cases_eq, eq-eqb, ne_eqb}
use Rattle.std.proofs.lemmas.List.Sums.{sum_by-cons}
use Rattle.ris_base.specs.Graph.{EachOnce}
use Rattle.ris_base.proofs.ListLemmas.{Contains-none, Contains-first, Contains-rest, Contains-cases, EachOnce-head, EachOnce-tail}

-- the sum of this over the vertices below n that pass a test
unfoldable pub sum_where : (ℕ → Bool) → (ℕ → ℕ) → ℕ → ℕ
sum_where test size zero = 0
sum_where test size (suc n) = (if test n then size n else 0) + sum_where test size n

-- how many vertices below n fail a test
unfoldable pub failing : (ℕ → Bool) → ℕ → ℕ
failing test zero = 0
failing test (suc n) = (if test n then 0 else 1) + failing test n

same_where : (size : ℕ → ℕ) (old new : ℕ → Bool) (v n : ℕ) → ((x : ℕ) → ¬ (x ≡ v) → new x ≡ old x) → n ≤ v
    → (sum_where new size n ≡ sum_where old size n) × (failing new n ≡ failing old n)
unfolding sum_where failing
same_where size old new v zero others le = (refl, refl)
same_where size old new v (suc n) others le =
    let here : new n ≡ old n = others n (λ e. absurd (omega arith)) in
    let rest = same_where size old new v n others (omega arith) in
    let a = rest.0 in
    let b = rest.1 in
    rw here (omega arith, omega arith)

-- one vertex more that passes adds what it counts, and one fewer fails
pub one_more : (size : ℕ → ℕ) (old new : ℕ → Bool) (v n : ℕ) → v < n → old v ≡ false → new v ≡ true → ((x : ℕ) → ¬ (x ≡ v) → new x ≡ old x)
    → (sum_where new size n ≡ size v + sum_where old size n) × (suc (failing new n) ≡ failing old n)
unfolding sum_where failing
one_more size old new v zero lt before now others = absurd (omega arith)
one_more size old new v (suc n) lt before now others = elim (cases_eq n v) [
  | inl e ↦ (let rest = same_where size old new v n others (omega arith) in
      let a = rest.0 in
      let b = rest.1 in
      let o : old n ≡ false = ap old e ∙ before in
      let w : new n ≡ true = ap new e ∙ now in
      let s : size n ≡ size v = ap size e in
      rw (o, w) (omega arith, omega arith))
  | inr ne ↦ (let rest = one_more size old new v n (omega arith) before now others in
      let a = rest.0 in
      let b = rest.1 in
      let here : new n ≡ old n = others n ne in
      rw here (omega arith, omega arith))
]

-- none passes
pub none_where : (size : ℕ → ℕ) (test : ℕ → Bool) (n : ℕ) → ((x : ℕ) → test x ≡ false) → sum_where test size n ≡ 0
unfolding sum_where
none_where size test zero none = refl
none_where size test (suc n) none = let rest = none_where size test n none in rw (none n) (omega arith)

-- a list without the first place at which x stands
without : ℕ → List ℕ → List ℕ
without x [] = []
without x (y ∷ ys) = if y == x then ys else y ∷ without x ys

sum_by-without : (size : ℕ → ℕ) (x : ℕ) (ys : List ℕ) → Contains ys x → sum_by size ys ≡ size x + sum_by size (without x ys)
unfolding without
sum_by-without size x [] has = absurd (Contains-none x has)
sum_by-without size x (y ∷ ys) has = elim (cases_eq y x) [
  | inl e ↦ rw (eq-eqb y x e) (sum_by-cons size y ys ∙ ap (λ n. size n + sum_by size ys) e)
  | inr ne ↦ elim (Contains-cases y ys x has) [
    | inl e ↦ absurd (ne e)
    | inr rest ↦ (let more = sum_by-without size x ys rest in
        let one = sum_by-cons size y ys in
        let two = sum_by-cons size y (without x ys) in
        rw (ne_eqb y x ne) (omega arith))
  ]
]

Contains-without : (x z : ℕ) (ys : List ℕ) → Contains ys z → ¬ (z ≡ x) → Contains (without x ys) z
unfolding without
Contains-without x z [] has ne = absurd (Contains-none z has)
Contains-without x z (y ∷ ys) has ne = elim (cases_eq y x) [
  | inl e ↦ rw (eq-eqb y x e) (elim (Contains-cases y ys z has) [
    | inl same ↦ absurd (ne (sym same ∙ e))
    | inr rest ↦ rest
  ])
  | inr other ↦ rw (ne_eqb y x other) (elim (Contains-cases y ys z has) [
    | inl same ↦ subst (λ (k : ℕ). Contains (y ∷ without x ys) k) same (Contains-first y (without x ys))
    | inr rest ↦ Contains-rest y (without x ys) z (Contains-without x z ys rest ne)
  ])
]

-- where those that pass stand in a list, their sum is at most the list's
pub sum_where-covered : (test : ℕ → Bool) (size : ℕ → ℕ) (n : ℕ) (ys : List ℕ) → ((x : ℕ) → x < n → test x ≡ true → Contains ys x)
    → sum_where test size n ≤ sum_by size ys
unfolding sum_where
sum_where-covered test size zero ys each = omega arith
sum_where-covered test size (suc n) ys each = elim (cases_Bool (test n)) [
  | inl on ↦ (let sum = sum_by-without size n ys (each n (omega arith) on) in
      let rest = sum_where-covered test size n (without n ys)
      (λ x lt h. Contains-without n x ys (each x (omega arith) h) (λ e. absurd (omega arith))) in
      rw on (omega arith))
  | inr off ↦ (let rest = sum_where-covered test size n ys (λ x lt h. each x (omega arith) h) in rw off (omega arith))
]

-- where each of a list without repeats stands in another, its sum is at most the other's
pub sum_by-covered : (size : ℕ → ℕ) (xs ys : List ℕ) → EachOnce xs → ((x : ℕ) → Contains xs x → Contains ys x) → sum_by size xs ≤ sum_by size ys
sum_by-covered size [] ys once each = omega arith
sum_by-covered size (x ∷ xs) ys once each =
    let one = sum_by-cons size x xs in
    let sum = sum_by-without size x ys (each x (Contains-first x xs)) in
    let rest = sum_by-covered size xs (without x ys) (EachOnce-tail x xs once)
    (λ z h. Contains-without x z ys (each z (Contains-rest x xs z h))
    (λ e. EachOnce-head x xs once (subst (λ (k : ℕ). Contains xs k) e h))) in
    omega arith
