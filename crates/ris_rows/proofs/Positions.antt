-- Where the neighbour of an end and a weight stands in an ascending list.
use Rattle.std.proofs.Common.{◌≡◌, ℕ, zero, suc, ◌-◌, ◌<◌, ◌≤◌, true, false, List, [], ◌∷◌, length, get_or, arith, refl, inl, inr, sym, ap, ◌∙◌}
use Rattle.std.specs.List.Sorted.{IsPartitionPoint, IsPartitionedBy}
use Rattle.std.proofs.lemmas.Bool.{cases_Bool, cases_lt, both_ways}
use Rattle.ris_rows.specs.declared.neighbours.Neighbour.{Neighbour}
use Rattle.ris_rows.specs.Neighbours.{is_before, is_of, IsBeforeAll, IsAscending, place_of, has, copies_of}
use Rattle.ris_rows.proofs.Orders.{below-trans, below-same, below-not_same, same-past, same-first, same-second}

-- n stands before each later one
pub IsBeforeAll-at : (n : Neighbour) (ns : List Neighbour) (k : ℕ) (d : Neighbour) → IsBeforeAll n ns → k < length ns → is_before n (get_or ns k d).end (get_or ns k d).weight ≡ true
IsBeforeAll-at n [] k d h l = absurd (omega arith)
IsBeforeAll-at n (m ∷ ms) zero d h l = h.0
IsBeforeAll-at n (m ∷ ms) (suc k) d h l = IsBeforeAll-at n ms k d h.1 (omega arith)

-- what binary search asks of the list
pub IsPartitionedBy-is_before : (ns : List Neighbour) (e w : ℕ) → IsAscending ns → IsPartitionedBy (λ n. is_before n e w) ns
IsPartitionedBy-is_before [] e w h i j d le lt up = absurd (omega arith)
IsPartitionedBy-is_before (n ∷ ns) e w h zero zero d le lt up = up
IsPartitionedBy-is_before (n ∷ ns) e w h zero (suc j) d le lt up =
    below-trans n.end n.weight (get_or ns j d).end (get_or ns j d).weight e w (IsBeforeAll-at n ns j d h.1 (omega arith)) up
IsPartitionedBy-is_before (n ∷ ns) e w h (suc i) zero d le lt up = absurd (omega arith)
IsPartitionedBy-is_before (n ∷ ns) e w h (suc i) (suc j) d le lt up = IsPartitionedBy-is_before ns e w h.2 i j d (omega arith) (omega arith) up

-- what binary search answers
pub place_of-from_point : (ns : List Neighbour) (e w i : ℕ) → IsPartitionPoint (λ n. is_before n e w ≡ true) (λ n. is_before n e w ≡ false) ns i → i ≤ length ns → i ≡ place_of ns e w
place_of-from_point [] e w i h l = omega arith
place_of-from_point (n ∷ ns) e w zero h l = let past = h.1 0 n (omega arith) (omega arith) in rw past refl
place_of-from_point (n ∷ ns) e w (suc i) h l =
    let front = h.0 0 n (omega arith) (omega arith) in
    let same = place_of-from_point ns e w i (λ k d a b. h.0 (suc k) d (omega arith) (omega arith), λ k d a b. h.1 (suc k) d (omega arith) (omega arith)) (omega arith) in
    rw front (omega (arith, same))

pub place_of-le : (ns : List Neighbour) (e w : ℕ) → place_of ns e w ≤ length ns
place_of-le [] e w = omega arith
place_of-le (n ∷ ns) e w =
    elim (cases_Bool (is_before n e w)) [ inl t ↦ rw t (omega (arith, place_of-le ns e w)) | inr u ↦ rw u (omega arith) ]

-- whether the neighbour is there shows at its place
pub has-at : (ns : List Neighbour) (e w : ℕ) (d : Neighbour) → place_of ns e w < length ns → has ns e w ≡ is_of (get_or ns (place_of ns e w) d) e w
has-at [] e w d l = absurd (omega arith)
has-at (n ∷ ns) e w d l =
    elim (cases_Bool (is_before n e w)) [
      | inl t ↦ (let shorter : place_of ns e w < length ns = (let l' = rw t at l in omega arith) in rw t (has-at ns e w d shorter))
      | inr u ↦ rw u refl
    ]

pub has-past : (ns : List Neighbour) (e w : ℕ) → length ns ≤ place_of ns e w → has ns e w ≡ false
has-past [] e w l = refl
has-past (n ∷ ns) e w l =
    elim (cases_Bool (is_before n e w)) [
      | inl t ↦ (let shorter : length ns ≤ place_of ns e w = (let l' = rw t at l in omega arith) in rw t (has-past ns e w shorter))
      | inr u ↦ (let l' = rw u at l in absurd (omega arith))
    ]

-- the same of an item that was read at the place
pub has-item : (ns : List Neighbour) (e w : ℕ) (x : Neighbour) (k : ℕ) → k ≡ place_of ns e w → k < length ns → x ≡ get_or ns k x → has ns e w ≡ is_of x e w
has-item ns e w x k p l r =
    let l' : place_of ns e w < length ns = omega arith in
    let same : x ≡ get_or ns (place_of ns e w) x = rw (← p) r in
    has-at ns e w x l' ∙ ap (λ (y : Neighbour). is_of y e w) (sym same)

-- behind a neighbour that stands past (e, w), there is none of it
pub copies_of-past : (n : Neighbour) (ms : List Neighbour) (e w : ℕ) → is_before n e w ≡ false → IsBeforeAll n ms → copies_of ms e w ≡ 0
copies_of-past n [] e w u h = refl
copies_of-past n (m ∷ ms) e w u h =
    let other = same-past n.end n.weight m.end m.weight e w u h.0 in
    let rest = copies_of-past n ms e w u h.1 in
    rw other (omega (arith, rest))

pub copies_of-missing : (ns : List Neighbour) (e w : ℕ) → IsAscending ns → has ns e w ≡ false → copies_of ns e w ≡ 0
copies_of-missing [] e w h missing = refl
copies_of-missing (n ∷ ns) e w h missing =
    elim (cases_Bool (is_before n e w)) [
      | inl t ↦ (let missing' : has ns e w ≡ false = rw t at missing in
          let other = below-same n.end n.weight e w t in
          let rest = copies_of-missing ns e w h.2 missing' in
          rw other (omega (arith, rest)))
      | inr u ↦ (let missing' : is_of n e w ≡ false = rw u at missing in
          let rest = copies_of-past n ns e w u h.1 in
          rw missing' (omega (arith, rest)))
    ]

pub copies_of-found : (ns : List Neighbour) (e w : ℕ) (d : Neighbour) → IsAscending ns → has ns e w ≡ true → copies_of ns e w ≡ (get_or ns (place_of ns e w) d).copies
copies_of-found [] e w d h found = absurd (both_ways false refl found)
copies_of-found (n ∷ ns) e w d h found =
    elim (cases_Bool (is_before n e w)) [
      | inl t ↦ (let found' : has ns e w ≡ true = rw t at found in
          let other = below-same n.end n.weight e w t in
          let rest = copies_of-found ns e w d h.2 found' in
          rw (t, other) (omega (arith, rest)))
      | inr u ↦ (let found' : is_of n e w ≡ true = rw u at found in
          let rest = copies_of-past n ns e w u h.1 in
          rw (u, found') (omega (arith, rest)))
    ]

-- the same of an item that was read at the place
pub copies_of-item : (ns : List Neighbour) (e w : ℕ) (x : Neighbour) (k : ℕ) → IsAscending ns → k ≡ place_of ns e w → has ns e w ≡ true → x ≡ get_or ns k x
    → copies_of ns e w ≡ x.copies
copies_of-item ns e w x k h p found r =
    let same : x ≡ get_or ns (place_of ns e w) x = rw (← p) r in
    copies_of-found ns e w x h found ∙ ap (λ (y : Neighbour). y.copies) (sym same)

pub copies_of-some : (ns : List Neighbour) (e w : ℕ) → IsAscending ns → has ns e w ≡ true → 1 ≤ copies_of ns e w
copies_of-some [] e w h found = absurd (both_ways false refl found)
copies_of-some (n ∷ ns) e w h found =
    elim (cases_Bool (is_before n e w)) [
      | inl t ↦ (let found' : has ns e w ≡ true = rw t at found in let rest = copies_of-some ns e w h.2 found' in omega (arith, rest))
      | inr u ↦ (let found' : is_of n e w ≡ true = rw u at found in let some = h.0 in rw found' (omega arith))
    ]

pub has-none : (ns : List Neighbour) (e w : ℕ) → IsAscending ns → copies_of ns e w ≡ 0 → has ns e w ≡ false
has-none ns e w h none =
    elim (cases_Bool (has ns e w)) [ inl t ↦ (let some = copies_of-some ns e w h t in absurd (omega arith)) | inr u ↦ u ]

pub place_of-lt : (ns : List Neighbour) (e w : ℕ) → has ns e w ≡ true → place_of ns e w < length ns
place_of-lt ns e w found =
    elim (cases_lt (place_of ns e w) (length ns)) [ inl lt ↦ lt | inr past ↦ absurd (both_ways (has ns e w) (has-past ns e w past) found) ]

-- an item that stands before (e, w) is one of those at the front
pub before-place : (ns : List Neighbour) (e w k : ℕ) (d : Neighbour) → IsAscending ns → k < length ns → is_before (get_or ns k d) e w ≡ true → k < place_of ns e w
before-place [] e w k d h l t = absurd (omega arith)
before-place (n ∷ ns) e w zero d h l t = rw t (omega arith)
before-place (n ∷ ns) e w (suc k) d h l t =
    let first : is_before n e w ≡ true = below-trans n.end n.weight (get_or ns k d).end (get_or ns k d).weight e w (IsBeforeAll-at n ns k d h.1 (omega arith)) t in
    let rest = before-place ns e w k d h.2 (omega arith) t in
    rw first (omega (arith, rest))

-- an item that is that of (e, w) stands at its place
pub of-place : (ns : List Neighbour) (e w k : ℕ) (d : Neighbour) → IsAscending ns → k < length ns → is_of (get_or ns k d) e w ≡ true → (k ≡ place_of ns e w) × (has ns e w ≡ true)
of-place [] e w k d h l s = absurd (omega arith)
of-place (n ∷ ns) e w zero d h l s = let past = below-not_same n.end n.weight e w s in rw past (refl, s)
of-place (n ∷ ns) e w (suc k) d h l s =
    let first : is_before n e w ≡ true = rw (← same-first (get_or ns k d).end (get_or ns k d).weight e w s, ← same-second (get_or ns k d).end (get_or ns k d).weight e w s)
    (IsBeforeAll-at n ns k d h.1 (omega arith)) in
    let rest = of-place ns e w k d h.2 (omega arith) s in
    rw first (ap suc rest.0, rest.1)

-- where the last item stands before (e, w), all do
pub last-place : (ns : List Neighbour) (e w : ℕ) (d : Neighbour) → IsAscending ns → 0 < length ns → is_before (get_or ns (length ns - 1) d) e w ≡ true
    → (length ns ≡ place_of ns e w) × (has ns e w ≡ false)
last-place ns e w d h some t =
    let past = before-place ns e w (length ns - 1) d h (omega arith) t in
    let le = place_of-le ns e w in
    (omega arith, has-past ns e w (omega arith))
