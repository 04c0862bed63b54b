-- Listing what hangs below a vertex, by the children of one vertex after another.
use Rattle.std.proofs.Common.{◌≡◌, ℕ, zero, suc, ◌+◌, ◌*◌, ◌<◌, ◌≤◌, ◌⊎◌, inl, inr, List, [], ◌∷◌, ◌++◌, length, get_or, Some, arith, refl, sym, subst, ap, ◌∙◌}
use Rattle.std.specs.List.{Contains}
use Rattle.std.proofs.lemmas.Bool.{cases_eq, eqb-true}
use Rattle.std.proofs.lemmas.List.{get_or_append_left, get_or_default}
use Rattle.std.proofs.lemmas.List.Elements.{Contains-append_left, Contains-append_right, Contains-append_cases, Contains-get_or}
use Rattle.std.proofs.lemmas.Map.Steps.{length-le_from_distinct_below}
use Rattle.std.proofs.lemmas.Map.Views.{Contains-from_any}
use Rattle.std.proofs.lemmas.Option.{none-some, same_Some}
use Rattle.ris_base.specs.Forest.{Forest, up, vertex_of, vertex_or}
use Rattle.ris_base.specs.Graph.{EachOnce}
use Rattle.ris_base.specs.declared.forests.Parent.{Parent}
use Rattle.ris_base.specs.declared.forests.Parent.TheVariants as parent
use Rattle.ris_base.proofs.ListLemmas.{Contains-none, Contains-first, Contains-one, EachOnce-nil, EachOnce-cons, EachOnce-head, EachOnce-tail}
use Rattle.ris_algo.proofs.Parents.{up-none, up-suc, up-root, up-add, up-ended}
use Rattle.ris_algo.proofs.Vertices.{IsDistinct-from_once}
use Rattle.ris_forest.specs.Cells.{IsRooted, IsBelow, AreBelow}
use Rattle.ris_forest.specs.Linking.{AreChildren}

-- Lists

-- two lists without a common number, in each of which each number stands once
EachOnce-append : (xs ys : List ℕ) → EachOnce xs → EachOnce ys → ((x : ℕ) → Contains xs x → Contains ys x → ⊥) → EachOnce (xs ++ ys)
EachOnce-append [] ys once more apart = more
EachOnce-append (x ∷ xs) ys once more apart =
    EachOnce-cons x (xs ++ ys)
    (λ h. elim (Contains-append_cases xs ys x h) [ inl own ↦ EachOnce-head x xs once own | inr other ↦ apart x (Contains-first x xs) other ])
    (EachOnce-append xs ys (EachOnce-tail x xs once) more (λ y k m. apart y (Contains-append_right (x ∷ []) xs y k) m))

-- numbers below n of which each stands once are at most n
pub once_below : (xs : List ℕ) (n : ℕ) → EachOnce xs → ((x : ℕ) → Contains xs x → x < n) → length xs ≤ n
once_below xs n once below = length-le_from_distinct_below xs n (IsDistinct-from_once xs once) (λ q h. below q (Contains-from_any eqb-true q xs h))

-- Up and down

-- one step up
vertex_or-some : (x p : ℕ) (q : Parent) → vertex_of q ≡ Some p → vertex_or x q ≡ p
vertex_or-some x p parent.None h = absurd (none-some p h)
vertex_or-some x p (parent.From vertex source target weight) h = same_Some vertex p h

pub up-above : (F : Forest) (k x p : ℕ) → vertex_of (F.parent x) ≡ Some p → up F (suc k) x ≡ up F k p
up-above F k x p h = up-suc F k x ∙ ap (up F k) (vertex_or-some x p (F.parent x) h)

-- a vertex that is so many parents above itself is so many times that above itself
up-again : (F : Forest) (k x : ℕ) → up F k x ≡ x → (m : ℕ) → up F (m * k) x ≡ x
up-again F k x h zero = let none : 0 * k ≡ 0 = omega arith in ap (λ n. up F n x) none ∙ up-none F x
up-again F k x h (suc m) =
    let more : suc m * k ≡ k + m * k = omega arith in
    ap (λ n. up F n x) more ∙ up-add F k (m * k) x ∙ ap (up F (m * k)) h ∙ up-again F k x h m

-- where parents lead to a start, no vertex is below its children
no_cycle : (F : Forest) (x p : ℕ) → IsRooted F → vertex_of (F.parent x) ≡ Some p → IsBelow F x p → ⊥
no_cycle F x p rooted above below =
    let round : up F (suc below.0) x ≡ x = up-above F below.0 x p above ∙ below.1 in
    let s = (rooted x).0 in
    let many : s ≤ s * suc below.0 = omega arith in
    let top : up F s x ≡ x = sym (up-ended F s (s * suc below.0) x (rooted x).1 many) ∙ up-again F (suc below.0) x round s in
    none-some p (sym (ap vertex_of (ap F.parent (sym top) ∙ (rooted x).1)) ∙ above)

-- A list that grows by the children of its vertices, one after another

-- the vertex x, and behind it the children of the first so many vertices of the list
pub record IsWalked (F : Forest) (x at : ℕ) (found : List ℕ) : Type 0 where
  pub once : EachOnce found
  pub start : Contains found x
  pub children : (i y : ℕ) → i < at → vertex_of (F.parent y) ≡ Some (get_or found i 0) → Contains found y
  pub parents : (y : ℕ) → Contains found y → (y ≡ x) ⊎ ((i : ℕ) × (i < at) × (vertex_of (F.parent y) ≡ Some (get_or found i 0)))
  pub below : (y : ℕ) → Contains found y → IsBelow F x y

-- x alone
pub IsWalked-start : (F : Forest) (x : ℕ) → IsWalked F x 0 (x ∷ [])
IsWalked-start F x = record {
  once = EachOnce-cons x [] (Contains-none x) EachOnce-nil;
  start = Contains-first x [];
  children = λ i y less. absurd (omega arith);
  parents = λ y h. inl (sym (Contains-one x y h));
  below = λ y h. (0, up-none F y ∙ sym (Contains-one x y h));
}

-- the children of one vertex more
pub IsWalked-more : (F : Forest) (x at : ℕ) (found children : List ℕ) → IsRooted F → at < length found → AreChildren (λ y. vertex_of (F.parent y)) (get_or found at 0) children
    → IsWalked F x at found → IsWalked F x (at + 1) (found ++ children)
IsWalked-more F x at found children rooted within all walked = record {
  once = EachOnce-append found children walked.once all.once
      (λ y h k. elim (walked.parents y h) [
        | inl same ↦ no_cycle F x (get_or found at 0) rooted (subst (λ z. vertex_of (F.parent z) ≡ Some (get_or found at 0)) same ((all.each y).0 k)) (walked.below (get_or found at 0) (Contains-get_or found at 0 within))
        | inr earlier ↦ (let less = earlier.1 in
            let e : earlier.0 ≡ at = walked.once earlier.0 at (omega arith) within (same_Some _ _ (sym earlier.2 ∙ (all.each y).0 k)) in
            absurd (omega arith))
      ]);
  start = Contains-append_left found children x walked.start;
  children = λ i y less above. elim (cases_eq i at) [
    | inl last ↦ Contains-append_right found children y ((all.each y).1 (above ∙ ap Some (get_or_append_left found children 0 i (omega arith) ∙ ap (λ j. get_or found j 0) last)))
    | inr other ↦ Contains-append_left found children y (walked.children i y (omega arith) (above ∙ ap Some (get_or_append_left found children 0 i (omega arith))))
  ];
  parents = λ y h. elim (Contains-append_cases found children y h) [
    | inl old ↦ elim (walked.parents y old) [
      | inl same ↦ inl same
      | inr earlier ↦ (let less = earlier.1 in
          inr (earlier.0, omega arith, earlier.2 ∙ ap Some (sym (get_or_append_left found children 0 earlier.0 (omega arith)))))
    ]
    | inr new ↦ inr (at, omega arith, (all.each y).0 new ∙ ap Some (sym (get_or_append_left found children 0 at within)))
  ];
  below = λ y h. elim (Contains-append_cases found children y h) [
    | inl old ↦ walked.below y old
    | inr new ↦ (let b = walked.below (get_or found at 0) (Contains-get_or found at 0 within) in
        (suc b.0, up-above F b.0 y (get_or found at 0) ((all.each y).0 new) ∙ b.1))
  ];
}

-- the children of all
pub AreBelow-walked : (F : Forest) (x : ℕ) (found : List ℕ) (at : ℕ) → length found ≤ at → IsWalked F x at found → AreBelow F x found
AreBelow-walked F x found at all walked = record { once = walked.once; each = λ y. (walked.below y, λ h. reach h.0 y h.1) }
  where
    reach : (k y : ℕ) → up F k y ≡ x → Contains found y
    reach zero y e = subst (λ z. Contains found z) (sym e ∙ up-none F y) walked.start
    reach (suc k) y e = go (F.parent y) refl (reach k)
      where
        go : (p : Parent) → F.parent y ≡ p → ((z : ℕ) → up F k z ≡ x → Contains found z) → Contains found y
        go parent.None is more = subst (λ z. Contains found z) (sym e ∙ up-root F (suc k) y is) walked.start
        go (parent.From vertex source target weight) is more =
            let above : vertex_of (F.parent y) ≡ Some vertex = ap vertex_of is in
            let h = more vertex (sym (up-above F k y vertex above) ∙ e) in
            let within = h.1 in
            walked.children h.0 y (omega arith) (above ∙ ap Some (sym h.2 ∙ get_or_default found h.0 vertex 0 h.1))
