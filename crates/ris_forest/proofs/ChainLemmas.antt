-- Links that lead through a list of children and back.
use Rattle.std.proofs.Common.{◌≡◌, ◌≢◌, ℕ, ◌<◌, ◌≤◌, ◌==◌, not, false, if◌then◌else◌, ◌⊎◌, inl, inr, List, [], ◌∷◌, length, arith, refl, sym, subst, ap, ◌∙◌}
use Rattle.std.specs.List.{Contains, filter}
use Rattle.std.proofs.lemmas.Bool.{cases_eq, eq-eqb, ne_eqb}
use Rattle.ris_base.specs.Graph.{EachOnce}
use Rattle.ris_base.proofs.ListLemmas.{Contains-none, Contains-first, Contains-rest, Contains-cases, EachOnce-head, EachOnce-tail}
use Rattle.ris_forest.specs.Linking.{no_vertex, next_of, previous_of, Chain}
use Rattle.ris_forest.specs.declared.nodes.Node.{Node}

-- a list without one number
abbrev pub without : ℕ → List ℕ → List ℕ
without c xs = filter (λ x. not (x == c)) xs

-- a number that a list lacks needn't be taken out
pub without-none : (c : ℕ) (xs : List ℕ) → ¬ (Contains xs c) → without c xs ≡ xs
without-none c [] h = refl
without-none c (x ∷ xs) h =
    let other = ne_eqb x c (λ e. h (subst (λ y. Contains (x ∷ xs) y) e (Contains-first x xs))) in
    rw other (ap (λ (l : List ℕ). x ∷ l) (without-none c xs (λ k. h (Contains-rest x xs c k))))

-- each child has a node
pub Chain-within : (nodes : List Node) (before head c : ℕ) (xs : List ℕ) → Chain nodes before head xs → Contains xs c → c < length nodes
Chain-within nodes before head c [] h k = absurd (Contains-none c k)
Chain-within nodes before head c (x ∷ xs) h k = elim (Contains-cases x xs c k) [
  | inl same ↦ (let within = h.1 in omega arith)
  | inr other ↦ Chain-within nodes x (next_of nodes x) c xs h.3 other
]

-- the first number of the links is none or a child
pub Chain-head : (nodes : List Node) (before head : ℕ) (xs : List ℕ) → Chain nodes before head xs → (head ≡ no_vertex) ⊎ Contains xs head
Chain-head nodes before head [] h = inl h
Chain-head nodes before head (x ∷ xs) h = inr (subst (λ y. Contains (x ∷ xs) y) (sym h.0) (Contains-first x xs))

-- links that lead on have a first child, and others behind it
pub Chain-more : (nodes : List Node) (before head : ℕ) (xs : List ℕ) → Chain nodes before head xs → head ≢ no_vertex
    → (more : List ℕ) × (xs ≡ head ∷ more) × Chain nodes head (next_of nodes head) more
Chain-more nodes before head [] h some = absurd (some h)
Chain-more nodes before head (x ∷ xs) h some =
    (xs, ap (λ y. y ∷ xs) (sym h.0), subst (λ y. Chain nodes y (next_of nodes y) xs) (sym h.0) h.3)

-- and those that end have none
pub Chain-none : (nodes : List Node) (before head : ℕ) (xs : List ℕ) → length nodes ≤ no_vertex → Chain nodes before head xs → head ≡ no_vertex → xs ≡ []
Chain-none nodes before head [] few h end = refl
Chain-none nodes before head (x ∷ xs) few h end = let same = h.0 in let within = h.1 in absurd (omega arith)

-- a child is the first one, or its previous one is a child
pub Chain-previous : (nodes : List Node) (before head c : ℕ) (xs : List ℕ) → Chain nodes before head xs → EachOnce xs → Contains xs c
    → ((head ≡ c) × (previous_of nodes c ≡ before)) ⊎ ((head ≢ c) × Contains xs (previous_of nodes c))
Chain-previous nodes before head c [] h once k = absurd (Contains-none c k)
Chain-previous nodes before head c (x ∷ xs) h once k = elim (Contains-cases x xs c k) [
  | inl same ↦ inl (h.0 ∙ same, ap (previous_of nodes) (sym same) ∙ h.2)
  | inr other ↦ inr (
    λ e. EachOnce-head x xs once (subst (λ y. Contains xs y) (sym e ∙ h.0) other),
    elim (Chain-previous nodes x (next_of nodes x) c xs h.3 (EachOnce-tail x xs once) other) [
      | inl first ↦ subst (λ y. Contains (x ∷ xs) y) (sym first.1) (Contains-first x xs)
      | inr later ↦ Contains-rest x xs (previous_of nodes c) later.1
    ],
  )
]

-- behind a child there is none or a child
pub Chain-next : (nodes : List Node) (before head c : ℕ) (xs : List ℕ) → Chain nodes before head xs → Contains xs c
    → (next_of nodes c ≡ no_vertex) ⊎ Contains xs (next_of nodes c)
Chain-next nodes before head c [] h k = absurd (Contains-none c k)
Chain-next nodes before head c (x ∷ xs) h k = elim (Contains-cases x xs c k) [
  | inl same ↦ subst (λ y. (next_of nodes y ≡ no_vertex) ⊎ Contains (x ∷ xs) (next_of nodes y)) same
      (elim (Chain-head nodes x (next_of nodes x) xs h.3) [ inl none ↦ inl none | inr later ↦ inr (Contains-rest x xs (next_of nodes x) later) ])
  | inr other ↦ elim (Chain-next nodes x (next_of nodes x) c xs h.3 other) [ inl none ↦ inl none | inr later ↦ inr (Contains-rest x xs (next_of nodes c) later) ]
]

-- where another table, no shorter, reads the same of each child, it has the same links
pub Chain-same : (nodes others : List Node) (before head : ℕ) (xs : List ℕ) → length nodes ≤ length others
    → ((x : ℕ) → Contains xs x → next_of others x ≡ next_of nodes x) → ((x : ℕ) → Contains xs x → previous_of others x ≡ previous_of nodes x)
    → Chain nodes before head xs → Chain others before head xs
Chain-same nodes others before head [] size nexts previouses h = h
Chain-same nodes others before head (x ∷ xs) size nexts previouses h =
    let within = h.1 in
    let here = Contains-first x xs in (
      h.0,
      omega arith,
      previouses x here ∙ h.2,
      subst (λ y. Chain others x y xs) (sym (nexts x here))
          (Chain-same nodes others x (next_of nodes x) xs size (λ y k. nexts y (Contains-rest x xs y k)) (λ y k. previouses y (Contains-rest x xs y k)) h.3),
    )

-- and where the first child alone reads another previous one, the links are those behind it
pub Chain-behind : (nodes others : List Node) (before behind head : ℕ) (xs : List ℕ) → length nodes ≤ length others
    → ((x : ℕ) → Contains xs x → next_of others x ≡ next_of nodes x)
    → ((x : ℕ) → Contains xs x → previous_of others x ≡ (if x == head then behind else previous_of nodes x))
    → EachOnce xs → Chain nodes before head xs → Chain others behind head xs
Chain-behind nodes others before behind head [] size nexts previouses once h = h
Chain-behind nodes others before behind head (x ∷ xs) size nexts previouses once h =
    let within = h.1 in
    let here = Contains-first x xs in
    let first = eq-eqb x head (sym h.0) in (
      h.0,
      omega arith,
      rw first at (previouses x here),
      subst (λ y. Chain others x y xs) (sym (nexts x here))
          (Chain-same nodes others x (next_of nodes x) xs size (λ y k. nexts y (Contains-rest x xs y k))
          (λ y k. let later = ne_eqb y head (λ e. EachOnce-head x xs once (subst (λ z. Contains xs z) (e ∙ h.0) k)) in
          rw later at (previouses y (Contains-rest x xs y k)))
          h.3),
    )

-- the links behind a child that is taken out
pub Chain-without : (nodes others : List Node) (before head c : ℕ) (xs : List ℕ) → length nodes ≤ length others → length nodes ≤ no_vertex
    → ((x : ℕ) → x < length nodes → next_of others x ≡ (if x == previous_of nodes c then next_of nodes c else next_of nodes x))
    → ((x : ℕ) → x < length nodes → previous_of others x ≡ (if x == next_of nodes c then previous_of nodes c else previous_of nodes x))
    → EachOnce xs → ¬ (Contains xs before) → Contains xs c → Chain nodes before head xs
    → Chain others before (if head == c then next_of nodes c else head) (without c xs)
Chain-without nodes others before head c [] size few nexts previouses once new k h = absurd (Contains-none c k)
Chain-without nodes others before head c (x ∷ xs) size few nexts previouses once new k h =
    let within = h.1 in
    elim (cases_eq x c) [
      | inl same ↦ (let first = eq-eqb head c (h.0 ∙ same) in
          let here = eq-eqb x c same in
          let gone : ¬ (Contains xs c) = λ more. EachOnce-head x xs once (subst (λ y. Contains xs y) (sym same) more) in
          let back : previous_of nodes c ≡ before = ap (previous_of nodes) (sym same) ∙ h.2 in
          rw (first, here, without-none c xs gone)
          (Chain-behind nodes others x before (next_of nodes c) xs size
          (λ y more. let inside = Chain-within nodes x (next_of nodes x) y xs h.3 more in
          let other = ne_eqb y (previous_of nodes c) (λ e. new (subst (λ z. Contains (x ∷ xs) z) (e ∙ back) (Contains-rest x xs y more))) in
          rw other at (nexts y inside))
          (λ y more. rw back at (previouses y (Chain-within nodes x (next_of nodes x) y xs h.3 more)))
          (EachOnce-tail x xs once)
          (subst (λ y. Chain nodes x (next_of nodes y) xs) same h.3)))
      | inr other ↦ (let k' : Contains xs c = elim (Contains-cases x xs c k) [ inl e ↦ absurd (other e) | inr more ↦ more ] in
          let alone = EachOnce-head x xs once in
          let rest = EachOnce-tail x xs once in
          let apart : x ≢ next_of nodes c = λ e. elim (Chain-next nodes x (next_of nodes x) c xs h.3 k') [
            | inl none ↦ absurd (omega arith)
            | inr later ↦ alone (subst (λ y. Contains xs y) (sym e) later)
          ] in
          let later : head == c ≡ false = ne_eqb head c (λ e. other (sym h.0 ∙ e)) in
          let stays = ne_eqb x c other in
          let back = ne_eqb x (next_of nodes c) apart in
          let on : next_of others x ≡ (if next_of nodes x == c then next_of nodes c else next_of nodes x) =
          nexts x within ∙ elim (Chain-previous nodes x (next_of nodes x) c xs h.3 rest k') [
            | inl first ↦ (let t = eq-eqb x (previous_of nodes c) (sym first.1) in let t' = eq-eqb (next_of nodes x) c first.0 in rw (t, t') refl)
            | inr deeper ↦ (let u = ne_eqb x (previous_of nodes c) (λ e. alone (subst (λ y. Contains xs y) (sym e) deeper.1)) in let u' = ne_eqb (next_of nodes x) c deeper.0 in rw (u, u') refl)
          ] in
          rw (later, stays) (
            h.0,
            omega arith,
            rw back at (previouses x within) ∙ h.2,
            subst (λ y. Chain others x y (without c xs)) (sym on)
                (Chain-without nodes others x (next_of nodes x) c xs size few nexts previouses rest alone k' h.3),
          ))
    ]
