-- Facts on piles: a radix heap's items beside a binary heap's.
use Rattle.std.proofs.Common.{◌≡◌, ◌≤◌, ℕ, Bool, true, false, if◌then◌else◌, List, ◌++◌, ◌∷◌, Option, Some, None, Result, Ok, Err, get_or, ap, sym, ◌∙◌, subst, IfSome, IfNone, IfOk, IsPermutation}
use Rattle.std.specs.List.{All}
use Rattle.std.proofs.lemmas.Bool.{ltb-false}
use Rattle.std.proofs.lemmas.List.Elements.{All-append, All-weaker, All-tail}
use Rattle.ris_repair.specs.Queues.{is_above}
use Rattle.std.proofs.lemmas.List.Sorted.{All-permutation, IsPermutation-append, IsPermutation-append_left, IsPermutation-middle, IsPermutation-trans}

module _ (radix new heap : List (ℕ × ℕ)) (item : ℕ × ℕ) (taken : Bool) where
  -- the radix heap doesn't take an item in
  pub not_taken : taken ≡ false → IsPermutation (if taken then item ∷ radix else radix) new → IsPermutation (radix ++ heap) (new ++ heap)
  not_taken is put =
      IsPermutation-append_left heap radix new (subst (λ (b : Bool). IsPermutation (if b then item ∷ radix else radix) new) is put)

  -- the radix heap takes an item in
  pub was_taken : taken ≡ true → IsPermutation (if taken then item ∷ radix else radix) new → IsPermutation (item ∷ (radix ++ heap)) (new ++ heap)
  was_taken is put =
      IsPermutation-append_left heap (item ∷ radix) new (subst (λ (b : Bool). IsPermutation (if b then item ∷ radix else radix) new) is put)

-- an item is taken from the binary heap
pub popped : (radix new heap left : List (ℕ × ℕ)) (top : ℕ × ℕ) → IsPermutation radix new → IsPermutation heap (top ∷ left)
    → IsPermutation (radix ++ heap) (top ∷ (new ++ left))
popped radix new heap left top kept less =
    IsPermutation-trans (radix ++ heap) (new ++ top ∷ left) (top ∷ (new ++ left))
    (IsPermutation-append radix new heap (top ∷ left) kept less) (IsPermutation-middle new top left)

-- what follows where an item was found
pub some_then : {E : Type 0} (result : Result (Option (ℕ × ℕ)) E) (P Q : ℕ × ℕ → Type 0) → IfOk result (λ found. IfSome found P) → ((top : ℕ × ℕ) → P top → Q top)
    → IfOk result (λ found. IfSome found Q)
some_then (Err e) P Q h next = _
some_then (Ok None) P Q h next = _
some_then (Ok (Some top)) P Q h next = next top h

-- what follows where none was
pub none_then : {E : Type 0} (result : Result (Option (ℕ × ℕ)) E) (P Q : Type 0) → IfOk result (λ found. IfNone found P) → (P → Q)
    → IfOk result (λ found. IfNone found Q)
none_then (Err e) P Q h next = _
none_then (Ok None) P Q h next = next h
none_then (Ok (Some top)) P Q h next = _

-- Priorities

-- what isn't above a bound is at most the bound
pub all_up_to : (items : List (ℕ × ℕ)) (bound : ℕ) → All (λ item. is_above (Some bound) item.0 ≡ false) items → All (λ item. item.0 ≤ bound) items
all_up_to items bound =
    All-weaker (λ (item : ℕ × ℕ). is_above (Some bound) item.0 ≡ false) (λ (item : ℕ × ℕ). item.0 ≤ bound) (λ item h. ltb-false bound item.0 h) items

-- the first item of a binary heap is taken, and no item of the radix heap is above it
pub popped_best : (radix heap left : List (ℕ × ℕ)) (most : ℕ) (found : Option (ℕ × ℕ)) → All (λ item. item.0 ≤ most) radix → All (λ item. item.0 ≤ most) heap
    → ((d : ℕ × ℕ) → (get_or heap 0 d).0 ≡ most) → IfSome found (λ top. top ≡ get_or heap 0 top) → IfSome found (λ top. IsPermutation heap (top ∷ left))
    → IfSome found (λ top. All (λ item. item.0 ≤ top.0) (radix ++ left))
popped_best radix heap left most None below within first is items = _
popped_best radix heap left most (Some top) below within first is items =
    let Most = λ (item : ℕ × ℕ). item.0 ≤ most in
    subst (λ (n : ℕ). All (λ (item : ℕ × ℕ). item.0 ≤ n) (radix ++ left)) (sym (ap (λ (item : ℕ × ℕ). item.0) is ∙ first top))
    (All-append Most radix left below (All-tail Most top left (All-permutation Most heap (top ∷ left) items within)))
