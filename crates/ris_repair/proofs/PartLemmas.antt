-- Two lines and a pile, seen as one list of vertices that wait.
use Rattle.std.proofs.Common.{◌≡◌, ℕ, ◌+◌, ◌<◌, ◌≤◌, true, false, List, [], ◌∷◌, ◌++◌, Option, Some, None, arith, refl, sym, subst, append_assoc, drop, length, slice_get, length-append}
use Rattle.std.specs.List.{All}
use Rattle.std.specs.List.Sorted.{IsPermutation}
use Rattle.std.specs.Option.{IfSome, IfNone}
use Rattle.std.proofs.lemmas.Bool.Decides.{nat_tests}
use Rattle.std.proofs.lemmas.List.{get_or_append_left}
use Rattle.std.proofs.lemmas.List.Elements.{All-nil, All-cons, All-head, All-append, All-weaker}
use Rattle.std.proofs.lemmas.List.Sorted.{All-permutation, IsPermutation-sym, IsPermutation-trans, IsPermutation-append_left, IsPermutation-append_right, IsPermutation-append_comm, IsPermutation-middle, IsPermutation-to_front, length_permutation}
use Rattle.ris_repair.specs.Queues.{is_above, leads, front_priority}

-- One item more

module _ {X : Type 0} (x : X) (first second pile : List X) where
  -- at the end of the first line
  pub joined_first : IsPermutation (x ∷ ((first ++ second) ++ pile)) (((first ++ x ∷ []) ++ second) ++ pile)
  joined_first = IsPermutation-append_left pile (x ∷ (first ++ second)) ((first ++ x ∷ []) ++ second)
      (IsPermutation-append_left second (x ∷ first) (first ++ x ∷ []) (IsPermutation-sym (first ++ x ∷ []) (x ∷ first) (IsPermutation-to_front first x)))

  -- at the end of the second
  pub joined_second : IsPermutation (x ∷ ((first ++ second) ++ pile)) ((first ++ (second ++ x ∷ [])) ++ pile)
  joined_second = IsPermutation-append_left pile (x ∷ (first ++ second)) (first ++ (second ++ x ∷ []))
      (subst (λ (xs : List X). IsPermutation (x ∷ (first ++ second)) xs) (append_assoc first second (x ∷ []))
      (IsPermutation-sym ((first ++ second) ++ x ∷ []) (x ∷ (first ++ second)) (IsPermutation-to_front (first ++ second) x)))

  -- in the pile
  pub joined_pile : (pile2 : List X) → IsPermutation (x ∷ pile) pile2 → IsPermutation (x ∷ ((first ++ second) ++ pile)) ((first ++ second) ++ pile2)
  joined_pile pile2 more = IsPermutation-trans (x ∷ ((first ++ second) ++ pile)) ((first ++ second) ++ x ∷ pile) ((first ++ second) ++ pile2)
      (IsPermutation-sym ((first ++ second) ++ x ∷ pile) (x ∷ ((first ++ second) ++ pile)) (IsPermutation-middle (first ++ second) x pile))
      (IsPermutation-append_right (first ++ second) (x ∷ pile) pile2 more)

-- Items that are taken from a line and the pile

-- beside another line before them
pub taken_second : {X : Type 0} (taken first second pile second2 pile2 : List X) → IsPermutation (second ++ pile) (taken ++ (second2 ++ pile2))
    → IsPermutation ((first ++ second) ++ pile) (taken ++ ((first ++ second2) ++ pile2))
taken_second {X} taken first second pile second2 pile2 moved =
    let rest = second2 ++ pile2 in
    let out = IsPermutation-append_left rest (first ++ taken) (taken ++ first) (IsPermutation-append_comm first taken) in
    let all = IsPermutation-trans (first ++ (second ++ pile)) (first ++ (taken ++ rest)) ((taken ++ first) ++ rest)
    (IsPermutation-append_right first (second ++ pile) (taken ++ rest) moved)
    (subst (λ (xs : List X). IsPermutation xs ((taken ++ first) ++ rest)) (append_assoc first taken rest) out) in
    rw (append_assoc first second pile, append_assoc first second2 pile2, ← append_assoc taken first rest) all

-- and beside one between them
pub taken_first : {X : Type 0} (taken first second pile first2 pile2 : List X) → IsPermutation (first ++ pile) (taken ++ (first2 ++ pile2))
    → IsPermutation ((first ++ second) ++ pile) (taken ++ ((first2 ++ second) ++ pile2))
taken_first taken first second pile first2 pile2 moved =
    IsPermutation-trans ((first ++ second) ++ pile) ((second ++ first) ++ pile) (taken ++ ((first2 ++ second) ++ pile2))
    (IsPermutation-append_left pile (first ++ second) (second ++ first) (IsPermutation-append_comm first second))
    (IsPermutation-trans ((second ++ first) ++ pile) (taken ++ ((second ++ first2) ++ pile2)) (taken ++ ((first2 ++ second) ++ pile2))
    (taken_second taken second first pile first2 pile2 moved)
    (IsPermutation-append_right taken ((second ++ first2) ++ pile2) ((first2 ++ second) ++ pile2)
    (IsPermutation-append_left pile2 (second ++ first2) (first2 ++ second) (IsPermutation-append_comm second first2))))

-- one less is left
pub taken_length : {X : Type 0} (top : X) (old new : List X) → IsPermutation old (top ∷ new) → length new + 1 ≡ length old
taken_length top old new moved = let same = length_permutation old (top ∷ new) moved in omega arith

-- The best of a line and a pile

-- a better one of the pile is taken
pub taken_pile : {X : Type 0} (top : X) (line pile pile2 : List X) → IsPermutation pile (top ∷ pile2) → IsPermutation (line ++ pile) (top ∷ (line ++ pile2))
taken_pile top line pile pile2 moved =
    IsPermutation-trans (line ++ pile) (line ++ top ∷ pile2) (top ∷ (line ++ pile2)) (IsPermutation-append_right line pile (top ∷ pile2) moved) (IsPermutation-middle line top pile2)

-- the line's first is taken
pub taken_line : {X : Type 0} (line pile pile2 : List X) → IsPermutation pile pile2 → IfSome (slice_get line 0) (λ top. IsPermutation (line ++ pile) (top ∷ (drop 1 line ++ pile2)))
taken_line [] pile pile2 kept = tt
taken_line (top ∷ rest) pile pile2 kept = IsPermutation-append_right (top ∷ rest) pile pile2 kept

-- where no item is above an absent bound, there is none
none_left : (items : List (ℕ × ℕ)) → All (λ item. is_above None item.0 ≡ false) items → items ≡ []
none_left [] none = refl
none_left (item ∷ rest) none = absurd (let first = All-head (λ (y : ℕ × ℕ). is_above None y.0 ≡ false) item rest none in cc)

-- where the line has no first and none of the pile is left, nothing waited in either
pub none_waits : (line pile pile2 : List (ℕ × ℕ)) (bound : Option ℕ) → bound ≡ front_priority line → IsPermutation pile pile2
    → All (λ item. is_above bound item.0 ≡ false) pile2 → IfNone (slice_get line 0) ((line ≡ []) × (pile ≡ []))
none_waits [] pile pile2 bound front kept none =
    let left = none_left pile2 (subst (λ (b : Option ℕ). All (λ item. is_above b item.0 ≡ false) pile2) front none) in
    (refl, none_moved pile (subst (λ (xs : List (ℕ × ℕ)). IsPermutation pile xs) left kept))
  where
    none_moved : (xs : List (ℕ × ℕ)) → IsPermutation xs [] → xs ≡ []
    none_moved [] same = refl
    none_moved (x ∷ rest) same = absurd (let sizes = length_permutation (x ∷ rest) [] same in omega arith)
none_waits (top ∷ rest) pile pile2 bound front kept none = tt

-- The line that has the best front

-- with no front there is no item
no_front : (items : List (ℕ × ℕ)) → None ≡ front_priority items → items ≡ []
no_front [] front = refl
no_front (item ∷ rest) front = absurd (cc)

-- where a line's front doesn't lead another's, none of it is above what none of the other's is above
behind : (items others : List (ℕ × ℕ)) (p q : Option ℕ) (bound : ℕ) → p ≡ front_priority items → IfSome p (λ best. All (λ item. item.0 ≤ best) items)
    → q ≡ front_priority others → leads p q ≡ false → All (λ item. item.0 ≤ bound) others → All (λ item. item.0 ≤ bound) items
behind items others None q bound front below front2 after most =
    subst (λ (xs : List (ℕ × ℕ)). All (λ item. item.0 ≤ bound) xs) (sym (no_front items front)) (All-nil (λ item. item.0 ≤ bound))
behind items others (Some best) None bound front below front2 after most = absurd (cc)
behind items [] (Some best) (Some best2) bound front below front2 after most = absurd (cc)
behind items (first ∷ rest) (Some best) (Some best2) bound front below front2 after most =
    let same : best2 ≡ first.0 = cc in
    let least = All-head (λ (item : ℕ × ℕ). item.0 ≤ bound) first rest most in
    let less : best ≤ best2 = grind (arith, nat_tests) in
    All-weaker (λ (item : ℕ × ℕ). item.0 ≤ best) (λ item. item.0 ≤ bound) (λ item h. omega arith) items below

-- of two fronts one at most leads
pub leads_back : (p q : Option ℕ) → leads p q ≡ true → leads q p ≡ false
leads_back None q ahead = absurd (cc)
leads_back (Some best) None ahead = refl
leads_back (Some best) (Some best2) ahead = grind (arith, nat_tests)

-- none that waited in a line is above the one that was taken from there or the pile
line_below : (line pile line2 pile2 : List (ℕ × ℕ)) (top : ℕ × ℕ) → IsPermutation (line ++ pile) (top ∷ (line2 ++ pile2)) → All (λ item. item.0 ≤ top.0) (line2 ++ pile2)
    → All (λ item. item.0 ≤ top.0) line
line_below line pile line2 pile2 top items best k d within =
    let P : ℕ × ℕ → Type 0 = λ item. item.0 ≤ top.0 in
    let all = All-permutation P (top ∷ (line2 ++ pile2)) (line ++ pile) (IsPermutation-sym (line ++ pile) (top ∷ (line2 ++ pile2)) items)
    (All-cons P top (line2 ++ pile2) (omega arith) best) in
    let longer : k < length (line ++ pile) = omega (arith, length-append {A = ℕ × ℕ}) in
    subst P (get_or_append_left line pile d k within) (all k d longer)

module _ (first second pile line2 pile2 : List (ℕ × ℕ)) (p q : Option ℕ) (top : ℕ × ℕ) where
  -- none is above the best of the second line and the pile, where the first line's front doesn't lead
  pub best_second : p ≡ front_priority first → IfSome p (λ best. All (λ item. item.0 ≤ best) first) → q ≡ front_priority second → leads p q ≡ false
      → IsPermutation (second ++ pile) (top ∷ (line2 ++ pile2)) → All (λ item. item.0 ≤ top.0) (line2 ++ pile2) → All (λ item. item.0 ≤ top.0) ((first ++ line2) ++ pile2)
  best_second front below front2 after items best =
      let P : ℕ × ℕ → Type 0 = λ item. item.0 ≤ top.0 in
      subst (All P) (sym (append_assoc first line2 pile2))
      (All-append P first (line2 ++ pile2) (behind first second p q top.0 front below front2 after (line_below second pile line2 pile2 top items best)) best)

  -- none is above the best of the first line and the pile, where the second line's front doesn't lead
  pub best_first : p ≡ front_priority first → q ≡ front_priority second → IfSome q (λ best. All (λ item. item.0 ≤ best) second) → leads q p ≡ false
      → IsPermutation (first ++ pile) (top ∷ (line2 ++ pile2)) → All (λ item. item.0 ≤ top.0) (line2 ++ pile2) → All (λ item. item.0 ≤ top.0) ((line2 ++ second) ++ pile2)
  best_first front front2 below after items best =
      let P : ℕ × ℕ → Type 0 = λ item. item.0 ≤ top.0 in
      All-permutation P ((second ++ line2) ++ pile2) ((line2 ++ second) ++ pile2) (IsPermutation-append_left pile2 (second ++ line2) (line2 ++ second) (IsPermutation-append_comm second line2))
      (subst (All P) (sym (append_assoc second line2 pile2))
      (All-append P second (line2 ++ pile2) (behind second first q p top.0 front2 below front after (line_below first pile line2 pile2 top items best)) best))

-- where the first line is empty and the second one's front doesn't lead, both are empty
pub second_empty : (second : List (ℕ × ℕ)) (p q : Option ℕ) → p ≡ front_priority [] → q ≡ front_priority second → leads q p ≡ false → second ≡ []
second_empty [] p q front front2 after = refl
second_empty (item ∷ rest) p q front front2 after = absurd (let ahead = rw (front, front2) at after in cc)

-- the lists of a queue in which nothing waits
pub all_empty : (first second pile : List (ℕ × ℕ)) → first ≡ [] → second ≡ [] → pile ≡ [] → (first ++ second) ++ pile ≡ []
all_empty first second pile none none2 none3 = rw (none, none2, none3) refl
