-- Facts on the buckets of a radix heap.
use Rattle.std.proofs.Common.{◌≡◌, ℕ, zero, suc, ◌+◌, ◌*◌, ◌/◌, ◌^◌, ◌-◌, ◌<◌, ◌≤◌, Bool, true, false, inl, inr, List, [], ◌∷◌, ◌++◌, length, get_or, set, Option, Some, None, arith, refl, sym, subst, ap, ◌∙◌, append_assoc, get_or-set_same, get_or-set_other, Vec, Global, map, not, ◌==◌}
use Rattle.std.specs.List.{All, position, position_or_len}
use Rattle.std.specs.Option.{IfSome, IfNone}
use Rattle.std.proofs.lemmas.List.Sums.{fails_before_first, passes_at_first}
use Rattle.std.specs.List.Sorted.{IsPermutation}
use Rattle.std.specs.Int.Bits.{bit_xor, xor_assoc, xor_self, xor_zero_r, xor_zero_l}
use Rattle.std.proofs.Math.Nat.{div-mul-le_self, div-eq_of_lt}
use Rattle.std.proofs.Math.Pow.{pow_mono}
use Rattle.std.proofs.lemmas.Bool.{cases_lt, cases_eq, lt-ltb, le-ltb}
use Rattle.std.proofs.lemmas.Bool.Decides.{nat_tests}
use Rattle.std.proofs.lemmas.Grind.{pow_more}
use Rattle.std.proofs.lemmas.List.{nil_from_length, set-get_or, get_or_past, length-set, map-set, get_or-map, length-map}
use Rattle.std.proofs.lemmas.List.Elements.{All-append, All-nil, All-weaker, All-get_or, All-tail, All-same, All-pop}
use Rattle.std.proofs.lemmas.List.Sorted.{IsPermutation-trans, IsPermutation-sym, IsPermutation-middle, IsPermutation-append_left, IsPermutation-append_comm, IsPermutation-append_right, All-permutation}
use Rattle.std.proofs.lemmas.Nat.{le-div, pow_pos, shr-shr, xor_shr}
use Rattle.ris_repair.specs.Queues.{is_above}
use Rattle.ris_repair.specs.Radix.{bucket_at, bucketed, IsPlaced, ArePlaced, IsRadix, IsLowest}

-- Priorities without their low bits

-- their order stays
without_mono : (a b k : ℕ) → a ≤ b → a / 2 ^ k ≤ b / 2 ^ k
without_mono a b k h = le-div (a / 2 ^ k) b (2 ^ k) (pow_pos k) (omega (arith, div-mul-le_self a (2 ^ k)))

-- what is equal without fewer bits is equal without more
same_later : (x y j k : ℕ) → x / 2 ^ j ≡ y / 2 ^ j → j ≤ k → x / 2 ^ k ≡ y / 2 ^ k
same_later x y j k h le =
    let e : j + (k - j) ≡ k = omega arith in
    subst (λ (n : ℕ). x / 2 ^ n ≡ y / 2 ^ n) e (sym (shr-shr x j (k - j)) ∙ ap (λ (z : ℕ). z / 2 ^ (k - j)) h ∙ shr-shr y j (k - j))

-- what is less without more bits is less without fewer
less_earlier : (x y j k : ℕ) → x / 2 ^ k < y / 2 ^ k → j ≤ k → x / 2 ^ j < y / 2 ^ j
less_earlier x y j k h le = elim (cases_lt (x / 2 ^ j) (y / 2 ^ j)) [
  | inl less ↦ less
  | inr most ↦
      let e : j + (k - j) ≡ k = omega arith in
      let below = without_mono (y / 2 ^ j) (x / 2 ^ j) (k - j) most in
      let shown : y / 2 ^ k ≤ x / 2 ^ k = subst (λ (n : ℕ). y / 2 ^ n ≤ x / 2 ^ n) e (rw (← shr-shr y j (k - j), ← shr-shr x j (k - j)) below) in
      absurd (omega arith)
]

-- two numbers that differ in no bit are equal
same_from_xor : (a b : ℕ) → bit_xor a b ≡ 0 → a ≡ b
same_from_xor a b h = sym (xor_zero_r a) ∙ ap (bit_xor a) (sym (xor_self b)) ∙ sym (xor_assoc a b b) ∙ ap (λ (z : ℕ). bit_xor z b) h ∙ xor_zero_l b

-- the highest bit in which they differ tells where a priority stands
pub placed_by_xor : (last priority m : ℕ) → priority ≤ last → bit_xor priority last < 2 ^ m → 2 ^ m ≤ 2 * bit_xor priority last + 1 → IsPlaced last m priority
placed_by_xor last priority m le lt most = record {
  same = same_from_xor (priority / 2 ^ m) (last / 2 ^ m) (sym (xor_shr priority last m) ∙ div-eq_of_lt lt);
  less = λ k small. elim (cases_lt (priority / 2 ^ k) (last / 2 ^ k)) [
    | inl less ↦ less
    | inr least ↦
        let below = without_mono priority last k le in
        let e : priority / 2 ^ k ≡ last / 2 ^ k = omega arith in
        let none : bit_xor priority last / 2 ^ k ≡ 0 = xor_shr priority last k ∙ ap (λ (z : ℕ). bit_xor z (last / 2 ^ k)) e ∙ xor_self (last / 2 ^ k) in
        elim (cases_lt (bit_xor priority last) (2 ^ k)) [
          | inl short ↦
              let power : 2 ^ (k + 1) ≤ 2 ^ m = pow_mono (omega arith) in
              let double : 2 ^ (k + 1) ≡ 2 ^ k * 2 = pow_more 2 k in
              absurd (omega arith)
          | inr long ↦
              let one : 1 ≤ bit_xor priority last / 2 ^ k = le-div 1 (bit_xor priority last) (2 ^ k) (pow_pos k) (omega arith) in
              absurd (omega arith)
        ]
  ];
}

-- Where priorities stand

whole : (x : ℕ) → x / 2 ^ 0 ≡ x
whole x = grind arith

-- what stands in the first bucket is the last priority
pub placed_first : (last priority : ℕ) → IsPlaced last 0 priority → priority ≡ last
placed_first last priority h = sym (whole priority) ∙ h.same ∙ whole last

-- no priority is above the last one
pub placed_le : (last number priority : ℕ) → IsPlaced last number priority → priority ≤ last
placed_le last zero priority h = let e = placed_first last priority h in omega arith
placed_le last (suc n) priority h = let less = h.less 0 (omega arith) in omega (arith, whole priority, whole last)

-- what stands in a bucket is above what stands in later ones
pub placed_above : (last i j p q : ℕ) → i < j → IsPlaced last i p → IsPlaced last j q → q < p
placed_above last i j p q lt h k = elim (cases_lt q p) [
  | inl less ↦ less
  | inr most ↦ let below = without_mono p q i most in let less = k.less i lt in absurd (omega (arith, h.same))
]

-- a later bucket keeps what stands there, where a priority of an earlier bucket, or one between it and the last, becomes the last one
pub placed_on : (last new number k p q : ℕ) → IsPlaced last number q → q ≤ new → new ≤ last → number < k → IsPlaced last k p → IsPlaced new k p
placed_on last new number k p q first le most lt h = record {
  same = h.same ∙ sym (same k (omega arith));
  less = λ i small. elim (cases_lt i number) [
    | inl before ↦ less_earlier p new i number (subst (λ (z : ℕ). p / 2 ^ number < z) (sym (same number (omega arith))) (h.less number lt)) (omega arith)
    | inr after ↦ subst (λ (z : ℕ). p / 2 ^ i < z) (sym (same i after)) (h.less i small)
  ];
}
  where
    same : (i : ℕ) → number ≤ i → new / 2 ^ i ≡ last / 2 ^ i
    same i le2 =
        let low = without_mono q new i le in
        let high = without_mono new last i most in
        let e = same_later q last number i first.same le2 in
        omega arith

-- Bounds

-- a priority that isn't above another that isn't above the bound isn't above it
pub not_above : (bound : Option ℕ) (p q : ℕ) → p ≤ q → is_above bound q ≡ false → is_above bound p ≡ false
not_above None p q le h = absurd (cc)
not_above (Some b) p q le h = grind (arith, nat_tests)

-- Buckets

-- the items before a bucket and those after it
record Parts (buckets : List (List (ℕ × ℕ))) (number : ℕ) : Type 0 where
  before : List (ℕ × ℕ)
  after : List (ℕ × ℕ)
  now : bucketed buckets ≡ before ++ (bucket_at buckets number ++ after)
  then : (items : List (ℕ × ℕ)) → bucketed (set buckets number items) ≡ before ++ (items ++ after)

parts : (buckets : List (List (ℕ × ℕ))) (number : ℕ) → number < length buckets → Parts buckets number
parts [] number h = absurd (omega arith)
parts (bucket ∷ rest) zero h = record { before = []; after = bucketed rest; now = refl; then = λ items. refl }
parts (bucket ∷ rest) (suc n) h =
    let p = parts rest n (omega arith) in
    record {
      before = bucket ++ p.before;
      after = p.after;
      now = ap (λ (z : List (ℕ × ℕ)). bucket ++ z) p.now ∙ sym (append_assoc bucket p.before (bucket_at rest n ++ p.after));
      then = λ items. ap (λ (z : List (ℕ × ℕ)). bucket ++ z) (p.then items) ∙ sym (append_assoc bucket p.before (items ++ p.after));
    }

-- an item leaves the end of a bucket
pub bucketed_less : (buckets : List (List (ℕ × ℕ))) (number : ℕ) (items : List (ℕ × ℕ)) (item : ℕ × ℕ) → number < length buckets
    → IsPermutation (bucketed (set buckets number (items ++ item ∷ []))) (item ∷ bucketed (set buckets number items))
bucketed_less buckets number items item lt =
    let p = parts buckets number lt in
    rw (p.then (items ++ item ∷ []), p.then items, append_assoc items (item ∷ []) p.after, ← append_assoc p.before items (item ∷ p.after), ← append_assoc p.before items p.after)
    (IsPermutation-middle (p.before ++ items) item p.after)

-- an item comes to the end of a bucket
pub bucketed_more : (buckets : List (List (ℕ × ℕ))) (number : ℕ) (item : ℕ × ℕ) → number < length buckets
    → IsPermutation (item ∷ bucketed buckets) (bucketed (set buckets number (bucket_at buckets number ++ item ∷ [])))
bucketed_more buckets number item lt =
    let items = bucket_at buckets number in
    IsPermutation-sym (bucketed (set buckets number (items ++ item ∷ []))) (item ∷ bucketed buckets)
    (subst (λ (bs : List (List (ℕ × ℕ))). IsPermutation (bucketed (set buckets number (items ++ item ∷ []))) (item ∷ bucketed bs)) (set-get_or buckets number [])
    (bucketed_less buckets number items item lt))

-- a bucket is emptied
pub bucketed_emptied : (buckets : List (List (ℕ × ℕ))) (number : ℕ) → number < length buckets
    → IsPermutation (bucketed buckets) (bucket_at buckets number ++ bucketed (set buckets number []))
bucketed_emptied buckets number lt =
    let p = parts buckets number lt in
    let bucket = bucket_at buckets number in
    rw (p.now, p.then [], ← append_assoc p.before bucket p.after, ← append_assoc bucket p.before p.after)
    (IsPermutation-append_left p.after (p.before ++ bucket) (bucket ++ p.before) (IsPermutation-append_comm p.before bucket))

-- what holds in each bucket holds of all items
pub bucketed_all : (P : ℕ × ℕ → Type 0) (buckets : List (List (ℕ × ℕ))) → ((number : ℕ) → All P (bucket_at buckets number)) → All P (bucketed buckets)
bucketed_all P [] h = All-nil P
bucketed_all P (bucket ∷ rest) h = All-append P bucket (bucketed rest) (h 0) (bucketed_all P rest (λ n. h (suc n)))

-- where each bucket is empty, there are no items
pub bucketed_none : (buckets : List (List (ℕ × ℕ))) → ((number : ℕ) → bucket_at buckets number ≡ []) → bucketed buckets ≡ []
bucketed_none [] h = refl
bucketed_none (bucket ∷ rest) h = rw (h 0) (bucketed_none rest (λ n. h (suc n)))

-- a bucket gets other items, each of which belongs there
pub placed_set : (last : ℕ) (buckets : List (List (ℕ × ℕ))) (number : ℕ) (items : List (ℕ × ℕ)) → number < length buckets
    → All (λ item. IsPlaced last number item.0) items → ArePlaced last buckets → ArePlaced last (set buckets number items)
placed_set last buckets number items lt here all k = elim (cases_eq k number) [
  | inl same ↦ subst (λ (i : ℕ). All (λ item. IsPlaced last i item.0) (bucket_at (set buckets number items) i)) (sym same) (rw get_or-set_same here)
  | inr other ↦ rw (get_or-set_other buckets number k items [] other) (all k)
]

-- no priority up to the bound is above it
pub up_to_bound : (bound : Option ℕ) (b p : ℕ) → bound ≡ Some b → p ≤ b → is_above bound p ≡ false
up_to_bound None b p is le = absurd (cc)
up_to_bound (Some c) b p is le = let e : c ≡ b = cc in grind (arith, nat_tests)

-- Lists as buckets

-- the items of a list
abbrev pub listed : Vec (ℕ × ℕ) Global → List (ℕ × ℕ)
listed list = list.items

-- a list stands at a place
module _ (lists : List (Vec (ℕ × ℕ) Global)) (number : ℕ) (buckets : List (List (ℕ × ℕ))) (old : Vec (ℕ × ℕ) Global) (are : map listed lists ≡ buckets)
    (lt : number < length buckets) (is : old ≡ get_or lists number old) where
  -- and is the bucket of this number
  pub listed_at : old.items ≡ bucket_at buckets number
  listed_at =
      let within : number < length lists = omega (arith, length-map lists listed, ap length are) in
      ap listed is ∙ sym (get_or-map listed lists number old [] within) ∙ ap (λ (bs : List (List (ℕ × ℕ))). bucket_at bs number) are

  -- another one takes the place
  pub listed_set : (new : Vec (ℕ × ℕ) Global) (items : List (ℕ × ℕ)) → new.items ≡ items → map listed (set lists number new) ≡ set buckets number items
  listed_set new items e = map-set listed lists number new ∙ ap (set (map listed lists) number) e ∙ ap (λ (bs : List (List (ℕ × ℕ))). set bs number items) are

  -- one with the same items takes it
  pub listed_same : (new : Vec (ℕ × ℕ) Global) → new.items ≡ old.items → map listed (set lists number new) ≡ buckets
  listed_same new e = listed_set new (bucket_at buckets number) (e ∙ listed_at) ∙ set-get_or buckets number []

  -- the bucket of this number is then the other one
  pub listed_now : (new : Vec (ℕ × ℕ) Global) → bucket_at (map listed (set lists number new)) number ≡ new.items
  listed_now new = ap (λ (bs : List (List (ℕ × ℕ))). bucket_at bs number) (listed_set new new.items refl) ∙ get_or-set_same buckets number new.items [] lt

-- one empty bucket more
pub emptied_more : (buckets : List (List (ℕ × ℕ))) → ((k : ℕ) → bucket_at buckets k ≡ []) → (k : ℕ) → bucket_at (buckets ++ [] ∷ []) k ≡ []
emptied_more [] h zero = refl
emptied_more [] h (suc k) = refl
emptied_more (bucket ∷ rest) h zero = h 0
emptied_more (bucket ∷ rest) h (suc k) = emptied_more rest (λ i. h (suc i)) k

-- The first bucket that isn't empty

-- whether a list isn't empty
abbrev pub filled : Vec (ℕ × ℕ) Global → Bool
filled list = not (list.len == 0)

-- one that isn't has no items
unfilled_none : (list : Vec (ℕ × ℕ) Global) → filled list ≡ false → list.items ≡ []
unfilled_none list h = let none : list.len ≡ 0 = grind (arith, nat_tests) in nil_from_length list.items (sym list.ok.0 ∙ none)

-- one that is has some
filled_some : (list : Vec (ℕ × ℕ) Global) → filled list ≡ true → 0 < length list.items
filled_some list h = let some : 0 < list.len = grind (arith, nat_tests) in omega (arith, list.ok.0)

-- what stands before the first list that isn't empty is empty
before_filled : (lists : List (Vec (ℕ × ℕ) Global)) (k : ℕ) → k < position_or_len filled lists → bucket_at (map listed lists) k ≡ []
before_filled [] k h = refl
before_filled (list ∷ rest) k h = elim (cases_lt k (length (list ∷ rest))) [
  | inl within ↦
      get_or-map listed (list ∷ rest) k list [] within
      ∙ unfilled_none (get_or (list ∷ rest) k list) (fails_before_first filled (list ∷ rest) k list h)
  | inr past ↦ get_or_past (map listed (list ∷ rest)) k [] (omega (arith, length-map (list ∷ rest) listed))
]

-- and it is not
at_filled : (lists : List (Vec (ℕ × ℕ) Global)) → position_or_len filled lists < length lists → 0 < length (bucket_at (map listed lists) (position_or_len filled lists))
at_filled [] h = absurd (omega arith)
at_filled (list ∷ rest) h =
    let lists = list ∷ rest in
    let at = position_or_len filled lists in
    rw (get_or-map listed lists at list [] h) (filled_some (get_or lists at list) (passes_at_first filled lists list h))

module _ (lists : List (Vec (ℕ × ℕ) Global)) (buckets : List (List (ℕ × ℕ))) (are : map listed lists ≡ buckets) where
  -- where there is one
  pub lowest_some : (found : Option ℕ) → found ≡ position filled lists → IfSome found (IsLowest buckets)
  lowest_some None is = _
  lowest_some (Some number) is = elim (cases_lt (position_or_len filled lists) (length lists)) [
    | inl within ↦
        let here : position filled lists ≡ Some (position_or_len filled lists) = rw (lt-ltb (position_or_len filled lists) (length lists) within) refl in
        let both = is ∙ here in
        let e : position_or_len filled lists ≡ number = cc in
        subst (IsLowest buckets) e
        (subst (λ (bs : List (List (ℕ × ℕ))). IsLowest bs (position_or_len filled lists)) are
        (record { within = omega (arith, length-map lists listed); some = at_filled lists within; none = before_filled lists }))
    | inr past ↦
        let gone : position filled lists ≡ None = rw (le-ltb (position_or_len filled lists) (length lists) past) refl in
        let both = is ∙ gone in
        absurd (cc)
  ]

  -- where there is none
  pub lowest_none : (found : Option ℕ) → found ≡ position filled lists → IfNone found ((k : ℕ) → bucket_at buckets k ≡ [])
  lowest_none (Some number) is = _
  lowest_none None is = elim (cases_lt (position_or_len filled lists) (length lists)) [
    | inl within ↦
        let here : position filled lists ≡ Some (position_or_len filled lists) = rw (lt-ltb (position_or_len filled lists) (length lists) within) refl in
        let both = is ∙ here in
        absurd (cc)
    | inr past ↦ subst (λ (bs : List (List (ℕ × ℕ))). (k : ℕ) → bucket_at bs k ≡ []) are
        (λ k. elim (cases_lt k (length lists)) [
          | inl before ↦ before_filled lists k (omega arith)
          | inr after ↦ get_or_past (map listed lists) k [] (omega (arith, length-map lists listed))
        ])
  ]

-- The greatest priority

-- what was the greatest so far, and one more
pub greatest_more : (items : List (ℕ × ℕ)) (i best next : ℕ) → ((k : ℕ) (d : ℕ × ℕ) → k < i → (get_or items k d).0 ≤ best) → best ≤ next
    → ((d : ℕ × ℕ) → (get_or items i d).0 ≤ next) → (k : ℕ) (d : ℕ × ℕ) → k < i + 1 → (get_or items k d).0 ≤ next
greatest_more items i best next all le last k d lt = elim (cases_lt k i) [
  | inl before ↦ let here = all k d before in omega arith
  | inr here ↦ let e : i ≡ k = omega arith in subst (λ (j : ℕ). (get_or items j d).0 ≤ next) e (last d)
]

-- An item is moved to its bucket

pub settled : (start moving rest old new : List (ℕ × ℕ)) (item : ℕ × ℕ) → moving ≡ rest ++ item ∷ [] → IsPermutation (item ∷ old) new
    → IsPermutation start (moving ++ old) → IsPermutation start (rest ++ new)
settled start moving rest old new item is put before =
    IsPermutation-trans start (rest ++ item ∷ old) (rest ++ new)
    (subst (λ (xs : List (ℕ × ℕ)). IsPermutation start xs) (ap (λ (xs : List (ℕ × ℕ)). xs ++ old) is ∙ append_assoc rest (item ∷ []) old) before)
    (IsPermutation-append_right rest (item ∷ old) new put)

-- an item comes to the latter of two lists
pub one_more : (former old new : List (ℕ × ℕ)) (item : ℕ × ℕ) → IsPermutation (item ∷ old) new → IsPermutation (item ∷ (former ++ old)) (former ++ new)
one_more former old new item put =
    IsPermutation-trans (item ∷ (former ++ old)) (former ++ item ∷ old) (former ++ new)
    (IsPermutation-sym (former ++ item ∷ old) (item ∷ (former ++ old)) (IsPermutation-middle former item old))
    (IsPermutation-append_right former (item ∷ old) new put)

-- All items

-- no item is above the last priority
pub all_below : (last : ℕ) (moving : List (ℕ × ℕ)) (buckets : List (List (ℕ × ℕ))) → IsRadix last moving buckets → All (λ item. item.0 ≤ last) (moving ++ bucketed buckets)
all_below last moving buckets radix =
    All-append (λ (item : ℕ × ℕ). item.0 ≤ last) moving (bucketed buckets) radix.below
    (bucketed_all (λ (item : ℕ × ℕ). item.0 ≤ last) buckets
    (λ number. All-weaker (λ (item : ℕ × ℕ). IsPlaced last number item.0) (λ (item : ℕ × ℕ). item.0 ≤ last) (λ item h. placed_le last number item.0 h)
    (bucket_at buckets number) (radix.placed number)))

-- nothing waits
pub none_waits : (moving : List (ℕ × ℕ)) (buckets : List (List (ℕ × ℕ))) → moving ≡ [] → ((k : ℕ) → bucket_at buckets k ≡ []) → moving ++ bucketed buckets ≡ []
none_waits moving buckets moved each = rw (moved, bucketed_none buckets each)

-- where all that may stand in the lowest bucket and later ones isn't above the bound, nothing is
pub passed_all : (last number : ℕ) (bound : Option ℕ) (moving : List (ℕ × ℕ)) (buckets : List (List (ℕ × ℕ))) → moving ≡ [] → ArePlaced last buckets → IsLowest buckets number
    → ((k p : ℕ) → number ≤ k → IsPlaced last k p → is_above bound p ≡ false) → All (λ item. is_above bound item.0 ≡ false) (moving ++ bucketed buckets)
passed_all last number bound moving buckets moved placed lowest passed =
    let Passed = λ (item : ℕ × ℕ). is_above bound item.0 ≡ false in
    All-append Passed moving (bucketed buckets) (All-same Passed moving [] moved (All-nil Passed))
    (bucketed_all Passed buckets (λ k. elim (cases_lt k number) [
      | inl before ↦ All-same Passed (bucket_at buckets k) [] (lowest.none k before) (All-nil Passed)
      | inr after ↦
          All-weaker (λ (item : ℕ × ℕ). IsPlaced last k item.0) Passed (λ item h. passed k item.0 after h) (bucket_at buckets k) (placed k)
    ]))

-- An item is taken from the first bucket
module _ (last : ℕ) (moving : List (ℕ × ℕ)) (buckets new : List (List (ℕ × ℕ))) (number : ℕ) (radix : IsRadix last moving buckets)
    (lowest : IsLowest buckets number) (first : number ≡ 0) (rest : new ≡ set buckets 0 (bucket_at new 0)) where
  -- the priority of the item is the last one
  pub first_top : (found : Option (ℕ × ℕ)) → IfSome found (λ item. bucket_at buckets 0 ≡ bucket_at new 0 ++ item ∷ []) → IfSome found (λ item. item.0 ≡ last)
  first_top None is = _
  first_top (Some item) is =
      placed_first last item.0 (All-pop (λ (x : ℕ × ℕ). IsPlaced last 0 x.0) (bucket_at buckets 0) (bucket_at new 0) (Some item) is (radix.placed 0)).1

  -- the others stay in place
  pub first_radix : (found : Option (ℕ × ℕ)) → IfSome found (λ item. bucket_at buckets 0 ≡ bucket_at new 0 ++ item ∷ []) → IfNone found (bucket_at buckets 0 ≡ [])
      → IsRadix last moving new
  first_radix None some none =
      let gone : bucket_at buckets number ≡ [] = subst (λ (k : ℕ). bucket_at buckets k ≡ []) (sym first) none in
      absurd (omega (arith, ap (λ (xs : List (ℕ × ℕ)). length xs) gone, lowest.some))
  first_radix (Some item) some none =
      let within : 0 < length buckets = omega (arith, lowest.within) in
      record {
        size = λ _. let all = radix.size (omega arith) in omega (arith, ap (λ (bs : List (List (ℕ × ℕ))). length bs) rest, length-set buckets 0 (bucket_at new 0));
        placed =
            subst (ArePlaced last) (sym rest)
            (placed_set last buckets 0 (bucket_at new 0) within
            (All-pop (λ (x : ℕ × ℕ). IsPlaced last 0 x.0) (bucket_at buckets 0) (bucket_at new 0) (Some item) some (radix.placed 0)).0 radix.placed);
        below = radix.below;
      }

  -- the item is one of those that waited
  pub first_items : (old : List (ℕ × ℕ)) (found : Option (ℕ × ℕ)) → IfSome found (λ item. bucket_at buckets 0 ≡ bucket_at new 0 ++ item ∷ [])
      → IsPermutation old (moving ++ bucketed buckets) → IfSome found (λ item. IsPermutation old (item ∷ (moving ++ bucketed new)))
  first_items old None is items = _
  first_items old (Some item) is items =
      let within : 0 < length buckets = omega (arith, lowest.within) in
      let same : set buckets 0 (bucket_at new 0 ++ item ∷ []) ≡ buckets = ap (set buckets 0) (sym is) ∙ set-get_or buckets 0 [] in
      let less : IsPermutation (bucketed buckets) (item ∷ bucketed new) =
      subst (λ (bs : List (List (ℕ × ℕ))). IsPermutation (bucketed bs) (item ∷ bucketed new)) same
      (subst (λ (bs : List (List (ℕ × ℕ))). IsPermutation (bucketed (set buckets 0 (bucket_at new 0 ++ item ∷ []))) (item ∷ bucketed bs)) (sym rest)
      (bucketed_less buckets 0 (bucket_at new 0) item within)) in
      IsPermutation-trans old (moving ++ bucketed buckets) (item ∷ (moving ++ bucketed new)) items
      (IsPermutation-sym (item ∷ (moving ++ bucketed new)) (moving ++ bucketed buckets)
      (one_more moving (bucketed new) (bucketed buckets) item (IsPermutation-sym (bucketed buckets) (item ∷ bucketed new) less)))

-- The lowest bucket is emptied
module _ (last : ℕ) (moving : List (ℕ × ℕ)) (buckets new : List (List (ℕ × ℕ))) (number : ℕ) (taken : List (ℕ × ℕ)) (moved : moving ≡ [])
    (radix : IsRadix last moving buckets) (lowest : IsLowest buckets number) (rest : new ≡ set buckets number moving) (is : taken ≡ bucket_at buckets number) where
  -- its items aren't above the last priority
  pub taken_below : All (λ item. item.0 ≤ last) taken
  taken_below =
      All-same (λ (item : ℕ × ℕ). item.0 ≤ last) taken (bucket_at buckets number) is
      (All-weaker (λ (item : ℕ × ℕ). IsPlaced last number item.0) (λ (item : ℕ × ℕ). item.0 ≤ last) (λ item h. placed_le last number item.0 h)
      (bucket_at buckets number) (radix.placed number))

  -- there is one
  pub taken_some : 0 < length taken
  taken_some = omega (arith, ap (λ (xs : List (ℕ × ℕ)). length xs) is, lowest.some)

  -- they wait beside those of the other buckets
  pub taken_items : (old : List (ℕ × ℕ)) → IsPermutation old (moving ++ bucketed buckets) → IsPermutation old (taken ++ bucketed new)
  taken_items old items =
      let less = bucketed_emptied buckets number lowest.within in
      let start = subst (λ (xs : List (ℕ × ℕ)). IsPermutation old (xs ++ bucketed buckets)) moved items in
      rw (is, rest, moved) (IsPermutation-trans old (bucketed buckets) (bucket_at buckets number ++ bucketed (set buckets number [])) start less)

  -- the others stay in place, where the last priority becomes one that no item of the bucket is above
  pub taken_radix : (next : ℕ) (left : List (ℕ × ℕ)) → All (λ item. item.0 ≤ next) taken → next ≤ last → All (λ item. item.0 ≤ next) left → IsRadix next left new
  taken_radix next left below falls among =
      let bucket = bucket_at buckets number in
      let one = get_or bucket 0 (0, 0) in
      let placed_one : IsPlaced last number one.0 = All-get_or (λ (item : ℕ × ℕ). IsPlaced last number item.0) bucket 0 (0, 0) lowest.some (radix.placed number) in
      let below_one : one.0 ≤ next =
      All-get_or (λ (item : ℕ × ℕ). item.0 ≤ next) bucket 0 (0, 0) lowest.some (All-same (λ (item : ℕ × ℕ). item.0 ≤ next) bucket taken (sym is) below) in
      let all = radix.size (omega (arith, lowest.within)) in
      let emptied : ArePlaced next (set buckets number []) =
      λ k. let Placed = λ (item : ℕ × ℕ). IsPlaced next k item.0 in
      elim (cases_eq k number) [
        | inl same ↦
            All-same Placed (bucket_at (set buckets number []) k) []
            (subst (λ (i : ℕ). bucket_at (set buckets number []) i ≡ []) (sym same) (get_or-set_same buckets number [] [] lowest.within)) (All-nil Placed)
        | inr other ↦
            All-same Placed (bucket_at (set buckets number []) k) (bucket_at buckets k) (get_or-set_other buckets number k [] [] other)
            (elim (cases_lt k number) [
              | inl before ↦ All-same Placed (bucket_at buckets k) [] (lowest.none k before) (All-nil Placed)
              | inr after ↦
                  All-weaker (λ (item : ℕ × ℕ). IsPlaced last k item.0) Placed
                  (λ item h. placed_on last next number k item.0 one.0 placed_one below_one falls (omega arith) h) (bucket_at buckets k) (radix.placed k)
            ])
      ] in
      record {
        size = λ _. omega (arith, ap (λ (bs : List (List (ℕ × ℕ))). length bs) rest, length-set buckets number moving);
        placed = subst (ArePlaced next) (sym (rest ∙ ap (set buckets number) moved)) emptied;
        below = among;
      }

-- what holds of all items holds of those that are left, whether one was taken
pub left_all : (P : ℕ × ℕ → Type 0) (all left : List (ℕ × ℕ)) (found : Option (ℕ × ℕ)) → IfSome found (λ top. IsPermutation all (top ∷ left))
    → IfNone found (left ≡ all) → All P all → All P left
left_all P all left None some none h = All-same P left all none h
left_all P all left (Some top) some none h = All-tail P top left (All-permutation P all (top ∷ left) some h)
