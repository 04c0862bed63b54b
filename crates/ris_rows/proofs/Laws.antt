-- What the items of an ascending list and its counts say of each other.
use Rattle.std.proofs.Common.{◌≡◌, ℕ, zero, suc, ◌<◌, true, false, if◌then◌else◌, List, [], ◌∷◌, length, get_or, arith, refl, inl, inr, ap, sym, ◌∙◌}
use Rattle.std.proofs.lemmas.Bool.{cases_Bool, both_ways}
use Rattle.ris_rows.specs.declared.neighbours.Neighbour.{Neighbour}
use Rattle.ris_rows.specs.Neighbours.{is_before, is_of, IsAscending, copies_of}
use Rattle.ris_rows.proofs.Orders.{below-same, below-self, same-self, below-back, same-back, below-other, same-first, same-second}
use Rattle.ris_rows.proofs.Positions.{IsBeforeAll-at, copies_of-past}

-- the count of the first item's end and weight
copies_of-first : (n : Neighbour) (ns : List Neighbour) → IsAscending (n ∷ ns) → copies_of (n ∷ ns) n.end n.weight ≡ n.copies
copies_of-first n ns h =
    let rest = copies_of-past n ns n.end n.weight (below-self n.end n.weight) h.1 in
    rw (same-self n.end n.weight) (omega (arith, rest))

-- an item that a cursor hands out has as many copies as `count` says
pub copies_of-at : (ns : List Neighbour) (k : ℕ) (d : Neighbour) → IsAscending ns → k < length ns
    → copies_of ns (get_or ns k d).end (get_or ns k d).weight ≡ (get_or ns k d).copies
copies_of-at [] k d h l = absurd (omega arith)
copies_of-at (n ∷ ns) zero d h l = copies_of-first n ns h
copies_of-at (n ∷ ns) (suc k) d h l =
    let before = IsBeforeAll-at n ns k d h.1 (omega arith) in
    let other = below-same n.end n.weight (get_or ns k d).end (get_or ns k d).weight before in
    let rest = copies_of-at ns k d h.2 (omega arith) in
    rw other (omega (arith, rest))

-- a list whose first item stands past n has no copy of n
copies_of-earlier : (n m : Neighbour) (ms : List Neighbour) → is_before n m.end m.weight ≡ true → IsAscending (m ∷ ms) → copies_of (m ∷ ms) n.end n.weight ≡ 0
copies_of-earlier n m ms t h =
    let other = same-back n.end n.weight m.end m.weight t in
    let rest = copies_of-past m ms n.end n.weight (below-back n.end n.weight m.end m.weight t) h.1 in
    rw other (omega (arith, rest))

abbrev SameCounts : List Neighbour → List Neighbour → Type 0
SameCounts ns ms = (e w : ℕ) → copies_of ns e w ≡ copies_of ms e w

not_earlier : (n m : Neighbour) (ns ms : List Neighbour) → IsAscending (n ∷ ns) → IsAscending (m ∷ ms) → SameCounts (n ∷ ns) (m ∷ ms) → is_before n m.end m.weight ≡ false
not_earlier n m ns ms h k same =
    elim (cases_Bool (is_before n m.end m.weight)) [
      | inl t ↦ (let one = copies_of-first n ns h in
          let none = copies_of-earlier n m ms t k in
          let both = same n.end n.weight in
          let some = h.0 in
          absurd (omega (arith, one, none, both)))
      | inr u ↦ u
    ]

neighbour_from_parts : (a b c d e f : ℕ) → a ≡ d → b ≡ e → c ≡ f
    → (let x : Neighbour = record { end = a; weight = b; copies = c } in x) ≡ record { end = d; weight = e; copies = f }
neighbour_from_parts a b c d e f p q r = cc

same_rest : (n m : Neighbour) (ns ms : List Neighbour) (e w : ℕ) → n ≡ m → copies_of (n ∷ ns) e w ≡ copies_of (m ∷ ms) e w → copies_of ns e w ≡ copies_of ms e w
same_rest n m ns ms e w p q =
    let alike : (if is_of n e w then n.copies else 0) ≡ (if is_of m e w then m.copies else 0) = ap (λ (x : Neighbour). if is_of x e w then x.copies else 0) p in
    omega (arith, alike, q)

-- two ascending lists with the same counts are one
pub same_items : (ns ms : List Neighbour) → IsAscending ns → IsAscending ms → ((e w : ℕ) → copies_of ns e w ≡ copies_of ms e w) → ns ≡ ms
same_items [] [] h k same = refl
same_items [] (m ∷ ms) h k same =
    let one = copies_of-first m ms k in
    let none = same m.end m.weight in
    let some = k.0 in
    absurd (omega (arith, one, none))
same_items (n ∷ ns) [] h k same =
    let one = copies_of-first n ns h in
    let none = same n.end n.weight in
    let some = h.0 in
    absurd (omega (arith, one, none))
same_items (n ∷ ns) (m ∷ ms) h k same =
    elim (cases_Bool (is_of n m.end m.weight)) [
      | inl s ↦ (let ends = same-first n.end n.weight m.end m.weight s in
          let weights = same-second n.end n.weight m.end m.weight s in
          let second : copies_of (m ∷ ms) n.end n.weight ≡ m.copies = rw (ends, weights) (copies_of-first m ms k) in
          let counts : n.copies ≡ m.copies = sym (copies_of-first n ns h) ∙ same n.end n.weight ∙ second in
          let first : n ≡ m = neighbour_from_parts n.end n.weight n.copies m.end m.weight m.copies ends weights counts in
          let rest = same_items ns ms h.2 k.2 (λ e w. same_rest n m ns ms e w first (same e w)) in
          cc (first, rest))
      | inr x ↦ (let past = not_earlier n m ns ms h k same in
          let back = not_earlier m n ms ns k h (λ e w. sym (same e w)) in
          absurd (both_ways (is_before m n.end n.weight) back (below-other n.end n.weight m.end m.weight past x)))
    ]
