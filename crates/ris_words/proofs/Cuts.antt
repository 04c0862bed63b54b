-- A word, cut at a byte.
use Rattle.std.proofs.Common.{◌≡◌, ℕ, suc, ◌+◌, Bool, true, false, ◌==◌, cond, [], ◌∷◌, ◌++◌, length, take, drop, Option, Some, None, option_map, refl, ap, arith, nat_lt, add-one, one-add, unwrap_or}
use Rattle.std.specs.List.{position, position_or_len}
use Rattle.std.proofs.lemmas.Bool.Decides.{nat_tests}
use Prim.Native.Nat.compare.{suc-suc}
use Rattle.ris_base.specs.Script.{Bytes}
use Rattle.ris_words.specs.Items.{cut_at}

-- the two parts of a word, cut at a place
abbrev pub parts_at : Bytes → ℕ → Bytes × Bytes
parts_at bytes i = (take i bytes, drop (i + 1) bytes)

-- the same two parts with one byte more in front
abbrev behind_byte : ℕ → Bytes × Bytes → Bytes × Bytes
behind_byte x p = (x ∷ p.0, p.1)

-- one more on both sides of a test
same_test : (n m : ℕ) → nat_lt (1 + n) (suc m) ≡ nat_lt n m
same_test n m = rw (one-add n, suc-suc (suc n) m) refl

-- the place in a word with one byte more in front
one_more : (x : ℕ) (xs : Bytes) (t : Bool) (n : ℕ)
    → option_map (behind_byte x) (option_map (parts_at xs) (cond t (Some n) None)) ≡ option_map (parts_at (x ∷ xs)) (cond t (Some (1 + n)) None)
one_more x xs true n = rw (one-add n, add-one n, add-one (suc n)) refl
one_more x xs false n = refl

-- where the byte first stands, the word is cut
pub cut_at-place : (c : ℕ) (bytes : Bytes) → cut_at c bytes ≡ option_map (parts_at bytes) (position (λ b. b == c) bytes)
unfolding cut_at
cut_at-place c [] = refl
cut_at-place c (x ∷ xs) = go (x == c) refl (cut_at-place c xs)
  where
    go : (t : Bool) → (x == c) ≡ t → cut_at c xs ≡ option_map (parts_at xs) (position (λ b. b == c) xs)
        → cut_at c (x ∷ xs) ≡ option_map (parts_at (x ∷ xs)) (position (λ b. b == c) (x ∷ xs))
    go true e rest =
        let some : nat_lt 0 (suc (length xs)) ≡ true = grind (arith, nat_tests) in
        rw (e, some) refl
    go false e rest =
        let n = position_or_len (λ b. b == c) xs in
        rw (e, rest, same_test n (length xs)) (one_more x xs (nat_lt n (length xs)) n)

-- no byte of a word is c
abbrev pub Lacks : ℕ → Bytes → Type 0
Lacks c [] = Unit {0}
Lacks c (x ∷ xs) = ((x == c) ≡ false) × Lacks c xs

-- a word without the byte isn't cut
pub cut_at-without : (c : ℕ) (bytes : Bytes) → Lacks c bytes → cut_at c bytes ≡ None
unfolding cut_at
cut_at-without c [] lacks = refl
cut_at-without c (x ∷ xs) lacks = rw (lacks.0, cut_at-without c xs lacks.1) refl

-- a word is cut at its first such byte
pub cut_at-first : (c : ℕ) (before behind : Bytes) → Lacks c before → cut_at c (before ++ c ∷ behind) ≡ Some (before, behind)
unfolding cut_at
cut_at-first c [] behind lacks = let same : (c == c) ≡ true = grind (arith, nat_tests) in rw same refl
cut_at-first c (x ∷ xs) behind lacks = rw (lacks.0, cut_at-first c xs behind lacks.1) refl

-- what stands before the cut
abbrev first : Option (Bytes × Bytes) → Bytes
first cut = (unwrap_or cut ([], [])).0

-- what stands behind the cut
abbrev second : Option (Bytes × Bytes) → Bytes
second cut = (unwrap_or cut ([], [])).1

-- and what it is cut into gives it back
pub cut_at-gives : (c : ℕ) (bytes before behind : Bytes) → cut_at c bytes ≡ Some (before, behind) → (bytes ≡ before ++ c ∷ behind) × Lacks c before
unfolding cut_at
cut_at-gives c [] before behind is = cc
cut_at-gives c (x ∷ xs) before behind is = go (x == c) refl (cut_at c xs) refl (λ q r. cut_at-gives c xs q r)
  where
    go : (t : Bool) → (x == c) ≡ t → (o : Option (Bytes × Bytes)) → cut_at c xs ≡ o
        → ((q r : Bytes) → cut_at c xs ≡ Some (q, r) → (xs ≡ q ++ c ∷ r) × Lacks c q)
        → (x ∷ xs ≡ before ++ c ∷ behind) × Lacks c before
    go true e o found rest =
        let same = rw e at is in
        let one : ◌≡◌ {A = Bytes} [] before = ap first same in
        let two : xs ≡ behind = ap second same in
        let byte : x ≡ c = grind (arith, nat_tests) in
        rw (← one, ← two, byte) (refl, tt)
    go false e None found rest = let none = rw (e, found) at is in cc
    go false e (Some p) found rest =
        let same = rw (e, found) at is in
        let one : x ∷ p.0 ≡ before = ap first same in
        let two : p.1 ≡ behind = ap second same in
        let all = rest p.0 p.1 found in
        rw (← one, ← two) (ap (λ (t : Bytes). x ∷ t) all.0, (e, all.1))
