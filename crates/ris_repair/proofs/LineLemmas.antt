-- Lists whose priorities don't rise.
use Rattle.std.proofs.Common.{◌≡◌, ℕ, suc, ◌-◌, ◌<◌, ◌≤◌, true, inl, inr, List, [], ◌∷◌, ◌++◌, length, get_or, drop, arith, subst, sym}
use Rattle.std.specs.List.{All}
use Rattle.std.proofs.lemmas.Bool.{cases_lt}
use Rattle.std.proofs.lemmas.Bool.Decides.{nat_tests}
use Rattle.std.proofs.lemmas.List.Elements.{All-nil, All-cons}
use Rattle.std.proofs.lemmas.List.Quantifiers.{all_pairs_push}
use Rattle.std.proofs.lemmas.Option.{slice_get-get_or}
use Rattle.ris_repair.specs.Queues.{IsNonRising, may_follow}

-- none of the others is above the first
pub rest_below : (items : List (ℕ × ℕ)) (top : ℕ × ℕ) → IsNonRising items → top ≡ get_or items 0 top → All (λ item. item.0 ≤ top.0) (drop 1 items)
rest_below [] top falls is = All-nil (λ item. item.0 ≤ top.0)
rest_below (item ∷ rest) top falls is =
    subst (λ (first : ℕ × ℕ). All (λ y. y.0 ≤ first.0) rest) (sym is) (λ k d within. falls 0 (suc k) d (omega arith) (omega arith))

-- none is above the first
pub all_below : (items : List (ℕ × ℕ)) (top : ℕ × ℕ) → IsNonRising items → top ≡ get_or items 0 top → All (λ item. item.0 ≤ top.0) items
all_below [] top falls is = All-nil (λ item. item.0 ≤ top.0)
all_below (item ∷ rest) top falls is =
    All-cons (λ y. y.0 ≤ top.0) item rest (subst (λ (first : ℕ × ℕ). item.0 ≤ first.0) (sym is) (omega arith)) (rest_below (item ∷ rest) top falls is)

-- the last item is not below one that may follow
last_above : (items : List (ℕ × ℕ)) (priority : ℕ) (d : ℕ × ℕ) → 0 < length items → may_follow items priority ≡ true → priority ≤ (get_or items (length items - 1) d).0
last_above items priority d some follows =
    let within : length items - 1 < length items = omega arith in
    let test = rw (slice_get-get_or items (length items - 1) d within) at follows in
    grind (arith, nat_tests)

-- and so is none of them
each_above : (items : List (ℕ × ℕ)) (priority k : ℕ) (d : ℕ × ℕ) → IsNonRising items → may_follow items priority ≡ true → k < length items → priority ≤ (get_or items k d).0
each_above items priority k d falls follows within =
    let last = last_above items priority d (omega arith) follows in
    elim (cases_lt k (length items - 1)) [
      | inl before ↦ (let above = falls k (length items - 1) d before (omega arith) in omega arith)
      | inr end ↦ (let same : length items - 1 ≡ k = omega arith in subst (λ (n : ℕ). priority ≤ (get_or items n d).0) same last)
    ]

-- with an item that may follow they don't rise
pub pushed_falls : (items : List (ℕ × ℕ)) (priority vertex : ℕ) → IsNonRising items → may_follow items priority ≡ true → IsNonRising (items ++ (priority, vertex) ∷ [])
pushed_falls items priority vertex falls follows =
    all_pairs_push (λ x y. y.0 ≤ x.0) items (priority, vertex) falls (λ k d within. each_above items priority k d falls follows within)
