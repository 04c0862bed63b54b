-- Lists of vertices that grow by whole subtrees.
use Rattle.std.proofs.Common.{◌≡◌, ℕ, zero, suc, ◌+◌, ◌^◌, ◌<◌, ◌≤◌, ◌==◌, Bool, true, false, cond, if◌then◌else◌, ◌↔◌, ◌⊎◌, inl, inr, List, [], ◌∷◌, ◌++◌, length, length-append, get_or, Option, Some, arith, refl, sym, subst, ap, ◌∙◌, append_assoc, append-nil}
use Rattle.std.specs.List.{Contains, list_any}
use Rattle.std.proofs.lemmas.Bool.{cases_eq, cases_lt, cond_both, eqb-true, eq-eqb, ne_eqb}
use Rattle.std.proofs.lemmas.List.{get_or_append_left, get_or_default}
use Rattle.std.proofs.lemmas.List.Elements.{All-push, Contains-append_left, Contains-append_right, Contains-get_or, Contains-push_cases}
use Rattle.std.proofs.lemmas.Map.Views.{Contains-from_any}
use Rattle.ris_base.specs.Forest.{Forest, up, vertex_of}
use Rattle.ris_base.specs.Graph.{EachOnce}
use Rattle.ris_base.specs.declared.forests.Parent.{Parent}
use Rattle.ris_base.specs.declared.forests.Parent.TheVariants as parent
use Rattle.ris_base.proofs.ListLemmas.{Contains-first, EachOnce-push, list_any-from_passing}
use Rattle.ris_algo.proofs.Parents.{up-none, up-root, up-add}
use Rattle.ris_forest.specs.Cells.{IsBelow}
use Rattle.ris_forest.specs.declared.subtrees.TheConstants.{FEW}
use Rattle.ris_forest.specs.Growing.{AreMembers, IsWithin, with_vertex, GoesOn, IsClosed, GrowsBelow, GrowsByMissing}
use Rattle.ris_forest.specs.Linking.{no_vertex, next_of, Chain}
use Rattle.ris_forest.specs.declared.nodes.Node.{Node}
use Rattle.ris_forest.proofs.WalkLemmas.{up-above}

-- Lists that go on

-- what a list has
pub Contains-on : (old new : List ℕ) (y : ℕ) → GoesOn old new → Contains old y → Contains new y
Contains-on old new y on h = subst (λ (l : List ℕ). Contains l y) (sym on.1) (Contains-append_left old on.0 y h)

-- a place of the list
pub get_or-on : (old new : List ℕ) (i : ℕ) → GoesOn old new → i < length old → get_or new i 0 ≡ get_or old i 0
get_or-on old new i on less = ap (λ (l : List ℕ). get_or l i 0) on.1 ∙ get_or_append_left old on.0 0 i less

-- nothing more
pub GoesOn-refl : (xs : List ℕ) → GoesOn xs xs
GoesOn-refl xs = ([], sym (append-nil xs))

-- some more, and then more
pub GoesOn-trans : (a b c : List ℕ) → GoesOn a b → GoesOn b c → GoesOn a c
GoesOn-trans a b c p q = (p.0 ++ q.0, q.1 ∙ ap (λ (l : List ℕ). l ++ q.0) p.1 ∙ append_assoc a p.0 q.0)

-- one vertex more
pub GoesOn-with : (xs : List ℕ) (x : ℕ) → GoesOn xs (with_vertex xs x)
GoesOn-with xs x = cond_both (list_any (λ y. x == y) xs) xs (xs ++ x ∷ []) (GoesOn xs) (λ _. GoesOn-refl xs) (λ _. (x ∷ [], refl))

-- what a list with one vertex more has
pub Contains-with : (xs : List ℕ) (x y : ℕ) → Contains (with_vertex xs x) y ↔ (Contains xs y ⊎ (y ≡ x))
Contains-with xs x y = go (list_any (λ z. x == z) xs) refl
  where
    go : (b : Bool) → list_any (λ z. x == z) xs ≡ b → Contains (cond b xs (xs ++ x ∷ [])) y ↔ (Contains xs y ⊎ (y ≡ x))
    go true e = (λ h. inl h, λ h. elim h [ inl old ↦ old | inr same ↦ subst (Contains xs) (sym same) (Contains-from_any eqb-true x xs e) ])
    go false e = (
      λ h. elim (Contains-push_cases xs x y h) [ inl old ↦ inl old | inr last ↦ inr (sym last) ],
      λ h. elim h [
        | inl old ↦ Contains-append_left xs (x ∷ []) y old
        | inr same ↦ subst (Contains (xs ++ x ∷ [])) (sym same) (Contains-append_right xs (x ∷ []) x (Contains-first x []))
      ],
    )

-- a vertex that the list lacks stands at its end
pub with_vertex-new : (xs : List ℕ) (x : ℕ) → ¬ (Contains xs x) → with_vertex xs x ≡ xs ++ x ∷ []
with_vertex-new xs x new = cond_both (list_any (λ y. x == y) xs) xs (xs ++ x ∷ []) (λ (l : List ℕ). l ≡ xs ++ x ∷ [])
    (λ e. absurd (new (Contains-from_any eqb-true x xs e))) (λ _. refl)

-- Sets of the vertices of a list

-- what a set has after one key more
pub Contains-updated : (keys more : List ℕ) (x : ℕ) → ((q : ℕ) → list_any (λ y. q == y) more ≡ cond (x == q) true (list_any (λ y. q == y) keys))
    → (y : ℕ) → Contains more y ↔ (Contains keys y ⊎ (y ≡ x))
Contains-updated keys more x updates y = elim (cases_eq x y) [
  | inl here ↦ (let t = eq-eqb x y here in (λ h. inr (sym here), λ h. Contains-from_any eqb-true y more (updates y ∙ rw t refl)))
  | inr apart ↦ (let t = ne_eqb x y apart in let same : list_any (λ z. y == z) more ≡ list_any (λ z. y == z) keys = updates y ∙ rw t refl in (
    λ h. inl (Contains-from_any eqb-true y keys (sym same ∙ list_any-from_passing (λ z. y == z) more y h (eq-eqb y y refl))),
    λ h. elim h [
      | inl old ↦ Contains-from_any eqb-true y more (same ∙ list_any-from_passing (λ z. y == z) keys y old (eq-eqb y y refl))
      | inr last ↦ absurd (apart (sym last))
    ],
  ))
]

-- one key more, which is a vertex
pub IsWithin-updated : (keys more vertices : List ℕ) (x : ℕ) → ((y : ℕ) → Contains more y ↔ (Contains keys y ⊎ (y ≡ x)))
    → IsWithin keys vertices → Contains vertices x → IsWithin more vertices
IsWithin-updated keys more vertices x has within here y h = elim ((has y).0 h) [ inl old ↦ within y old | inr same ↦ subst (Contains vertices) (sym same) here ]

-- the same keys in another order
pub IsWithin-reordered : (keys others vertices : List ℕ) → ((q : ℕ) → list_any (λ y. q == y) others ≡ list_any (λ y. q == y) keys)
    → IsWithin keys vertices → IsWithin others vertices
IsWithin-reordered keys others vertices same within x h =
    within x (Contains-from_any eqb-true x keys (sym (same x) ∙ list_any-from_passing (λ y. x == y) others x h (eq-eqb x x refl)))

-- one vertex more, which the list lacks, where they are a few still
pub AreMembers-few : (keys vertices : List ℕ) (x : ℕ) → AreMembers keys vertices → x < 2 ^ 32 → ¬ (Contains vertices x) → length (vertices ++ x ∷ []) ≤ FEW
    → AreMembers keys (vertices ++ x ∷ [])
AreMembers-few keys vertices x members lt new few = record {
  once = EachOnce-push vertices x members.once new;
  small = All-push (λ y. y < 2 ^ 32) vertices x members.small lt;
  known = λ y h. Contains-append_left vertices (x ∷ []) y (members.known y h);
  none = λ fewer. members.none (let size = length-append vertices (x ∷ []) in omega arith);
  all = λ many. absurd (omega arith);
}

-- and one key more, where all the others are keys
pub AreMembers-more : (keys more vertices : List ℕ) (x : ℕ) → AreMembers keys vertices → x < 2 ^ 32 → ¬ (Contains vertices x) → FEW < length (vertices ++ x ∷ [])
    → IsWithin vertices keys → ((q : ℕ) → list_any (λ y. q == y) more ≡ cond (x == q) true (list_any (λ y. q == y) keys)) → AreMembers more (vertices ++ x ∷ [])
AreMembers-more keys more vertices x members lt new many all updates =
    let has = Contains-updated keys more x updates in
    record {
      once = EachOnce-push vertices x members.once new;
      small = All-push (λ y. y < 2 ^ 32) vertices x members.small lt;
      known = IsWithin-updated keys more (vertices ++ x ∷ []) x has (λ y h. Contains-append_left vertices (x ∷ []) y (members.known y h))
          (Contains-append_right vertices (x ∷ []) x (Contains-first x []));
      none = λ fewer. absurd (omega arith);
      all = λ _ y h. (has y).1 (elim (Contains-push_cases vertices x y h) [ inl old ↦ inl (all y old) | inr last ↦ inr (sym last) ]);
    }

-- the same children
pub GrowsByMissing-same : (above others : ℕ → Option ℕ) → ((x : ℕ) → above x ≡ others x) → (p : ℕ) (old new : List ℕ)
    → GrowsByMissing above p old new → GrowsByMissing others p old new
GrowsByMissing-same above others same p old new grown = record {
  on = grown.on;
  each = λ y. (
    λ h. elim ((grown.each y).0 h) [ inl had ↦ inl had | inr child ↦ inr (sym (same y) ∙ child) ],
    λ h. (grown.each y).1 (elim h [ inl had ↦ inl had | inr child ↦ inr (same y ∙ child) ]),
  );
}

-- A list that grows by the children of its new vertices, one after another

-- the list with x, and behind it the missing children of the first so many vertices behind the old ones
pub record IsGrowing (F : Forest) (x at : ℕ) (old found : List ℕ) : Type 0 where
  pub on : GoesOn old found
  pub from : length old ≤ at
  pub start : Contains found x
  pub below : (y : ℕ) → Contains found y → Contains old y ⊎ IsBelow F x y
  pub children : (i y : ℕ) → length old ≤ i → i < at → vertex_of (F.parent y) ≡ Some (get_or found i 0) → Contains found y

-- x too
pub IsGrowing-start : (F : Forest) (x : ℕ) (old : List ℕ) → IsGrowing F x (length old) old (with_vertex old x)
IsGrowing-start F x old = record {
  on = GoesOn-with old x;
  from = omega arith;
  start = (Contains-with old x x).1 (inr refl);
  below = λ y h. elim ((Contains-with old x y).0 h) [ inl had ↦ inl had | inr same ↦ inr (0, up-none F y ∙ same) ];
  children = λ i y from less. absurd (omega arith);
}

-- the children of one vertex more
pub IsGrowing-more : (F : Forest) (x at : ℕ) (old found new : List ℕ) → at < length found → EachOnce found
    → GrowsByMissing (λ y. vertex_of (F.parent y)) (get_or found at 0) found new → IsGrowing F x at old found → IsGrowing F x (at + 1) old new
IsGrowing-more F x at old found new within once grown growing = record {
  on = GoesOn-trans old found new growing.on grown.on;
  from = (let from = growing.from in omega arith);
  start = Contains-on found new x grown.on growing.start;
  below = λ y h. elim ((grown.each y).0 h) [
    | inl had ↦ growing.below y had
    | inr child ↦ elim (growing.below (get_or found at 0) (Contains-get_or found at 0 within)) [
      | inl was ↦ absurd (apart was)
      | inr b ↦ inr (suc b.0, up-above F b.0 y (get_or found at 0) child ∙ b.1)
    ]
  ];
  children = λ i y from less above. (let here = above ∙ ap Some (get_or-on found new i grown.on (omega arith)) in
      elim (cases_eq i at) [
        | inl last ↦ (grown.each y).1 (inr (here ∙ ap (λ j. Some (get_or found j 0)) last))
        | inr other ↦ Contains-on found new y grown.on (growing.children i y from (omega arith) here)
      ]);
}
  where
    apart : Contains old (get_or found at 0) → ⊥
    apart was =
        let less = was.1 in
        let from = growing.from in
        let longer : length old ≤ length found = omega arith in
        let same : was.0 ≡ at = once was.0 at (omega arith) within
        (get_or-on old found was.0 growing.on less ∙ sym (get_or_default old was.0 (get_or found at 0) 0 less) ∙ was.2) in
        absurd (omega arith)

-- the children of all
pub GrowsBelow-growing : (F : Forest) (x at : ℕ) (old found : List ℕ) → length found ≤ at → EachOnce found → IsClosed F old → IsGrowing F x at old found
    → GrowsBelow F x old found
GrowsBelow-growing F x at old found all once closed growing = record {
  once = once;
  each = λ y. (growing.below y, λ h. elim h [ inl had ↦ Contains-on old found y growing.on had | inr b ↦ reach b.0 y b.1 ]);
  closed = λ a y has b. elim (growing.below a has) [
    | inl had ↦ Contains-on old found y growing.on (closed a y had b)
    | inr above ↦ reach (b.0 + above.0) y (up-add F b.0 above.0 y ∙ ap (up F above.0) b.1 ∙ above.1)
  ];
}
  where
    reach : (k y : ℕ) → up F k y ≡ x → Contains found y
    reach zero y e = subst (Contains found) (sym e ∙ up-none F y) growing.start
    reach (suc k) y e = go (F.parent y) refl (reach k)
      where
        child : (p : ℕ) → vertex_of (F.parent y) ≡ Some p → Contains found p → Contains found y
        child p above h =
            let within = h.1 in
            elim (cases_lt h.0 (length old)) [
              | inl early ↦ Contains-on old found y growing.on
                  (closed p y (h.0, early, get_or_default old h.0 p 0 early ∙ sym (get_or-on old found h.0 growing.on early) ∙ sym (get_or_default found h.0 p 0 within) ∙ h.2)
                  (1, up-above F 0 y p above ∙ up-none F p))
              | inr late ↦ growing.children h.0 y (omega arith) (omega arith) (above ∙ ap Some (sym h.2 ∙ get_or_default found h.0 p 0 within))
            ]

        go : (p : Parent) → F.parent y ≡ p → ((z : ℕ) → up F k z ≡ x → Contains found z) → Contains found y
        go parent.None is more = subst (Contains found) (sym e ∙ up-root F (suc k) y is) growing.start
        go (parent.From vertex source target weight) is more =
            let above : vertex_of (F.parent y) ≡ Some vertex = ap vertex_of is in
            child vertex above (more vertex (sym (up-above F k y vertex above) ∙ e))

-- Links

-- how many links lead from a number to the end, if they are at most n
pub links_to_end : List Node → ℕ → ℕ → ℕ
links_to_end nodes zero x = 0
links_to_end nodes (suc n) x = if x == no_vertex then 0 else suc (links_to_end nodes n (next_of nodes x))

-- as many as there are children
pub links_to_end-chain : (nodes : List Node) (n before head : ℕ) (xs : List ℕ) → length nodes ≤ no_vertex → Chain nodes before head xs → length xs ≤ n
    → links_to_end nodes n head ≡ length xs
unfolding links_to_end
links_to_end-chain nodes zero before head [] few chain le = refl
links_to_end-chain nodes zero before head (c ∷ xs) few chain le = absurd (omega arith)
links_to_end-chain nodes (suc n) before head [] few chain le = let t = eq-eqb head no_vertex chain in rw t refl
links_to_end-chain nodes (suc n) before head (c ∷ xs) few chain le =
    let within = chain.1 in
    let same = chain.0 in
    let apart : head ≡ no_vertex → ⊥ = λ e. absurd (omega arith) in
    let u = ne_eqb head no_vertex apart in
    rw u (ap (λ k. suc k) (ap (λ y. links_to_end nodes n (next_of nodes y)) same ∙ links_to_end-chain nodes n c (next_of nodes c) xs few chain.3 (omega arith)))
