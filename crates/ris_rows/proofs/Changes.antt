-- What another number of copies makes of a list of neighbours.
use Rattle.std.proofs.Common.{◌≡◌, ℕ, ◌+◌, ◌-◌, ◌≤◌, true, false, IsTrue, ◌&&◌, ◌==◌, nat_lt, if◌then◌else◌, List, [], ◌∷◌, ◌++◌, length, set, arith, refl, inl, inr, sym, ap, subst, ◌∙◌, zero-add}
use Rattle.std.specs.List.{insert, remove}
use Rattle.std.proofs.lemmas.Bool.{cases_Bool, both_ways, eqb-true, eqb-false, ne_eqb}
use Rattle.std.proofs.lemmas.Bool.Decides.{nat_tests}
use Rattle.std.proofs.lemmas.List.{append-nil}
use Rattle.ris_rows.specs.declared.neighbours.Neighbour.{Neighbour}
use Rattle.ris_rows.specs.Neighbours.{is_before, is_of, IsBeforeAll, IsAscending, place_of, has, copies_of, listed, counted}
use Rattle.ris_rows.proofs.Orders.{below-trans, below-same, below-other, same-first, same-second}
use Rattle.ris_rows.proofs.Positions.{copies_of-past, copies_of-missing, has-past}

pub listed-some : (e w k : ℕ) → 1 ≤ k → listed e w k ≡ record { end = e; weight = w; copies = k } ∷ []
listed-some e w k h = let t = ne_eqb k 0 (λ q. omega arith) in rw t refl

-- what a write of the neighbour at the place makes, and what a removal there makes
pub counted-found : (ns : List Neighbour) (e w k : ℕ) → has ns e w ≡ true → 1 ≤ k
    → counted ns e w k ≡ set ns (place_of ns e w) (record { end = e; weight = w; copies = k })
counted-found [] e w k found some = absurd (both_ways false refl found)
counted-found (n ∷ ns) e w k found some =
    elim (cases_Bool (is_before n e w)) [
      | inl t ↦ (let found' : has ns e w ≡ true = rw t at found in rw t (ap (λ (l : List Neighbour). n ∷ l) (counted-found ns e w k found' some)))
      | inr u ↦ (let found' : is_of n e w ≡ true = rw u at found in rw (u, found', listed-some e w k some) refl)
    ]

pub counted-gone : (ns : List Neighbour) (e w : ℕ) → has ns e w ≡ true → counted ns e w 0 ≡ remove ns (place_of ns e w)
counted-gone [] e w found = absurd (both_ways false refl found)
counted-gone (n ∷ ns) e w found =
    elim (cases_Bool (is_before n e w)) [
      | inl t ↦ (let found' : has ns e w ≡ true = rw t at found in rw t (ap (λ (l : List Neighbour). n ∷ l) (counted-gone ns e w found')))
      | inr u ↦ (let found' : is_of n e w ≡ true = rw u at found in rw (u, found') refl)
    ]

-- what an insert at the place makes, and that a list without (e, w) has none to take out
pub counted-new : (ns : List Neighbour) (e w k : ℕ) → has ns e w ≡ false → 1 ≤ k
    → counted ns e w k ≡ insert ns (place_of ns e w) (record { end = e; weight = w; copies = k })
counted-new [] e w k missing some = listed-some e w k some
counted-new (n ∷ ns) e w k missing some =
    elim (cases_Bool (is_before n e w)) [
      | inl t ↦ (let missing' : has ns e w ≡ false = rw t at missing in rw t (ap (λ (l : List Neighbour). n ∷ l) (counted-new ns e w k missing' some)))
      | inr u ↦ (let missing' : is_of n e w ≡ false = rw u at missing in rw (u, missing', listed-some e w k some) refl)
    ]

-- what a push behind the last makes
counted-one_last : (ns : List Neighbour) (e w : ℕ) → place_of ns e w ≡ length ns → counted ns e w 1 ≡ ns ++ record { end = e; weight = w; copies = 1 } ∷ []
counted-one_last [] e w last = refl
counted-one_last (n ∷ ns) e w last =
    elim (cases_Bool (is_before n e w)) [
      | inl t ↦ (let rest : place_of ns e w ≡ length ns = (let l = rw t at last in omega arith) in rw t (ap (λ (l : List Neighbour). n ∷ l) (counted-one_last ns e w rest)))
      | inr u ↦ (let l = rw u at last in absurd (omega arith))
    ]

pub counted-last : (ns : List Neighbour) (e w : ℕ) → IsAscending ns → place_of ns e w ≡ length ns
    → counted ns e w (copies_of ns e w + 1) ≡ ns ++ record { end = e; weight = w; copies = 1 } ∷ []
counted-last ns e w h last =
    let missing = has-past ns e w (omega arith) in
    rw (copies_of-missing ns e w h missing) (counted-one_last ns e w last)

pub counted-none : (ns : List Neighbour) (e w : ℕ) → has ns e w ≡ false → counted ns e w 0 ≡ ns
counted-none [] e w missing = refl
counted-none (n ∷ ns) e w missing =
    elim (cases_Bool (is_before n e w)) [
      | inl t ↦ (let missing' : has ns e w ≡ false = rw t at missing in rw t (ap (λ (l : List Neighbour). n ∷ l) (counted-none ns e w missing')))
      | inr u ↦ (let missing' : is_of n e w ≡ false = rw u at missing in rw (u, missing') refl)
    ]

-- what k copies of (e, w) in front of a list of none of it count
before_rest : (a b e w f v n c k : ℕ) → (a == e && b == w) ≡ false
    → (if a == f && b == v then n else 0) + (if f == e && v == w then k else c) ≡ (if f == e && v == w then k else (if a == f && b == v then n else 0) + c)
before_rest a b e w f v n c k h = grind (arith, nat_tests)

none_of : (ns : List Neighbour) (e w f v : ℕ) → copies_of ns e w ≡ 0 → (f == e && v == w) ≡ true → copies_of ns f v ≡ 0
none_of ns e w f v none s = rw (same-first f v e w s, same-second f v e w s) none

some_in_front : (e w f v c k : ℕ) → ((f == e && v == w) ≡ true → c ≡ 0) → (if e == f && w == v then k else 0) + c ≡ (if f == e && v == w then k else c)
some_in_front e w f v c k h = grind (arith, nat_tests)

none_in_front : (e w f v c k : ℕ) → k ≡ 0 → ((f == e && v == w) ≡ true → c ≡ 0) → c ≡ (if f == e && v == w then k else c)
none_in_front e w f v c k z h = grind (arith, nat_tests)

copies_of-listed : (ns : List Neighbour) (e w k f v : ℕ) → copies_of ns e w ≡ 0 → copies_of (listed e w k ++ ns) f v ≡ (if f == e && v == w then k else copies_of ns f v)
copies_of-listed ns e w k f v none =
    elim (cases_Bool (k == 0)) [
      | inl z ↦ rw z (none_in_front e w f v (copies_of ns f v) k (eqb-true k 0 z) (none_of ns e w f v none))
      | inr p ↦ rw p (some_in_front e w f v (copies_of ns f v) k (none_of ns e w f v none))
    ]

in_place_of : (a b e w f v n c k : ℕ) → (a == e && b == w) ≡ true → (if f == e && v == w then k else c) ≡ (if f == e && v == w then k else (if a == f && b == v then n else 0) + c)
in_place_of a b e w f v n c k s = grind (arith, nat_tests)

pub copies_of-counted : (ns : List Neighbour) (e w k f v : ℕ) → IsAscending ns → copies_of (counted ns e w k) f v ≡ (if f == e && v == w then k else copies_of ns f v)
copies_of-counted [] e w k f v h = ap (λ (l : List Neighbour). copies_of l f v) (sym (append-nil (listed e w k))) ∙ copies_of-listed [] e w k f v refl
copies_of-counted (n ∷ ns) e w k f v h =
    elim (cases_Bool (is_before n e w)) [
      | inl t ↦ rw (t, copies_of-counted ns e w k f v h.2) (before_rest n.end n.weight e w f v n.copies (copies_of ns f v) k (below-same n.end n.weight e w t))
      | inr u ↦ (let rest = copies_of-past n ns e w u h.1 in
          elim (cases_Bool (is_of n e w)) [
            | inl s ↦ rw (u, s) (copies_of-listed ns e w k f v rest ∙ in_place_of n.end n.weight e w f v n.copies (copies_of ns f v) k s)
            | inr x ↦ (let none : copies_of (n ∷ ns) e w ≡ 0 = rw x (omega arith) in rw (u, x) (copies_of-listed (n ∷ ns) e w k f v none))
          ])
    ]

-- what stands before the list and before (e, w) stands before the list with another number of it
IsBeforeAll-listed : (n : Neighbour) (ms : List Neighbour) (e w k : ℕ) → is_before n e w ≡ true → IsBeforeAll n ms → IsBeforeAll n (listed e w k ++ ms)
IsBeforeAll-listed n ms e w k t h = elim (cases_Bool (k == 0)) [ inl z ↦ rw z h | inr p ↦ rw p (t, h) ]

IsBeforeAll-counted : (n : Neighbour) (ms : List Neighbour) (e w k : ℕ) → is_before n e w ≡ true → IsBeforeAll n ms → IsBeforeAll n (counted ms e w k)
IsBeforeAll-counted n [] e w k t h = subst (λ (l : List Neighbour). IsBeforeAll n l) (append-nil (listed e w k)) (IsBeforeAll-listed n [] e w k t tt)
IsBeforeAll-counted n (m ∷ ms) e w k t h =
    elim (cases_Bool (is_before m e w)) [
      | inl t' ↦ rw t' (h.0, IsBeforeAll-counted n ms e w k t h.1)
      | inr u ↦ elim (cases_Bool (is_of m e w)) [
        | inl s ↦ rw (u, s) (IsBeforeAll-listed n ms e w k t h.1)
        | inr x ↦ rw (u, x) (IsBeforeAll-listed n (m ∷ ms) e w k t (h.0, h.1))
      ]
    ]

-- an earlier neighbour stands before all that a later one stands before, whatever its number of copies
IsBeforeAll-earlier : (a b k : ℕ) (n : Neighbour) (ms : List Neighbour) → is_before (record { end = a; weight = b; copies = k }) n.end n.weight ≡ true → IsBeforeAll n ms
    → IsBeforeAll (record { end = a; weight = b; copies = k }) ms
IsBeforeAll-earlier a b k n [] t h = tt
IsBeforeAll-earlier a b k n (m ∷ ms) t h = (below-trans a b n.end n.weight m.end m.weight t h.0, IsBeforeAll-earlier a b k n ms t h.1)

IsBeforeAll-same : (a b k : ℕ) (n : Neighbour) (ms : List Neighbour) → is_of n a b ≡ true → IsBeforeAll n ms → IsBeforeAll (record { end = a; weight = b; copies = k }) ms
IsBeforeAll-same a b k n [] s h = tt
IsBeforeAll-same a b k n (m ∷ ms) s h =
    (let first : IsTrue (is_before (record { end = a; weight = b; copies = k }) m.end m.weight) = rw (← same-first n.end n.weight a b s, ← same-second n.end n.weight a b s) h.0 in first, IsBeforeAll-same a b k n ms s h.1)

IsAscending-listed : (ns : List Neighbour) (e w k : ℕ) → IsBeforeAll (record { end = e; weight = w; copies = k }) ns → IsAscending ns → IsAscending (listed e w k ++ ns)
IsAscending-listed ns e w k b h = elim (cases_Bool (k == 0)) [ inl z ↦ rw z h | inr p ↦ (let some = eqb-false k 0 p in rw p (omega arith, b, h)) ]

pub IsAscending-counted : (ns : List Neighbour) (e w k : ℕ) → IsAscending ns → IsAscending (counted ns e w k)
IsAscending-counted [] e w k h = subst (λ (l : List Neighbour). IsAscending l) (append-nil (listed e w k)) (IsAscending-listed [] e w k tt tt)
IsAscending-counted (n ∷ ns) e w k h =
    elim (cases_Bool (is_before n e w)) [
      | inl t ↦ rw t (h.0, IsBeforeAll-counted n ns e w k t h.1, IsAscending-counted ns e w k h.2)
      | inr u ↦ elim (cases_Bool (is_of n e w)) [
        | inl s ↦ rw (u, s) (IsAscending-listed ns e w k (IsBeforeAll-same e w k n ns s h.1) h.2)
        | inr x ↦ (let first = below-other n.end n.weight e w u x in rw (u, x) (IsAscending-listed (n ∷ ns) e w k (first, IsBeforeAll-earlier e w k n ns first h.1) (h.0, h.1, h.2)))
      ]
    ]

-- a neighbour more where there was none, and one fewer where there is none left
length-listed : (ns : List Neighbour) (e w k : ℕ) → length (listed e w k ++ ns) ≡ length ns + (if nat_lt 0 k then 1 else 0)
length-listed ns e w k = elim (cases_Bool (k == 0)) [ inl z ↦ (let none = eqb-true k 0 z in rw z (grind (arith, nat_tests))) | inr p ↦ (let some = eqb-false k 0 p in rw p (grind (arith, nat_tests))) ]

pub length-counted : (ns : List Neighbour) (e w k : ℕ) → IsAscending ns
    → length (counted ns e w k) + (if nat_lt 0 (copies_of ns e w) then 1 else 0) ≡ length ns + (if nat_lt 0 k then 1 else 0)
length-counted [] e w k h = grind (arith, nat_tests, ap length (sym (append-nil (listed e w k))) ∙ length-listed [] e w k)
length-counted (n ∷ ns) e w k h =
    elim (cases_Bool (is_before n e w)) [
      | inl t ↦ (let other = below-same n.end n.weight e w t in let rest = length-counted ns e w k h.2 in rw (t, other, zero-add) (omega (arith, rest)))
      | inr u ↦ (let none = copies_of-past n ns e w u h.1 in
          elim (cases_Bool (is_of n e w)) [
            | inl s ↦ (let more = length-listed ns e w k in let some = h.0 in rw (u, s, none) (grind (arith, nat_tests, more, some)))
            | inr x ↦ (let more = length-listed (n ∷ ns) e w k in rw (u, x, none) (grind (arith, nat_tests, more)))
          ])
    ]

-- one copy more, and one fewer
one_more : (e w f v k c : ℕ) → ((f == e && v == w) ≡ true → c ≡ k) → (if f == e && v == w then k + 1 else c) ≡ c + (if f == e && v == w then 1 else 0)
one_more e w f v k c h = grind (arith, nat_tests)

one_fewer : (e w f v k c : ℕ) → ((f == e && v == w) ≡ true → c ≡ k) → (if f == e && v == w then k - 1 else c) ≡ c - (if f == e && v == w then 1 else 0)
one_fewer e w f v k c h = grind (arith, nat_tests)

same_count : (ns : List Neighbour) (e w f v : ℕ) → (f == e && v == w) ≡ true → copies_of ns f v ≡ copies_of ns e w
same_count ns e w f v s = rw (same-first f v e w s, same-second f v e w s) refl

pub copies_of-more : (ns : List Neighbour) (e w f v : ℕ) → IsAscending ns
    → copies_of (counted ns e w (copies_of ns e w + 1)) f v ≡ copies_of ns f v + (if f == e && v == w then 1 else 0)
copies_of-more ns e w f v h =
    copies_of-counted ns e w (copies_of ns e w + 1) f v h ∙ one_more e w f v (copies_of ns e w) (copies_of ns f v) (same_count ns e w f v)

pub copies_of-fewer : (ns : List Neighbour) (e w f v : ℕ) → IsAscending ns
    → copies_of (counted ns e w (copies_of ns e w - 1)) f v ≡ copies_of ns f v - (if f == e && v == w then 1 else 0)
copies_of-fewer ns e w f v h =
    copies_of-counted ns e w (copies_of ns e w - 1) f v h ∙ one_fewer e w f v (copies_of ns e w) (copies_of ns f v) (same_count ns e w f v)
