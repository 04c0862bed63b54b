-- The floor never falls along a list in which each mark is at most the number of entries before it.
use Rattle.std.proofs.Common.{◌≡◌, ℕ, zero, suc, ◌+◌, ◌≤◌, ◌==◌, ◌||◌, if◌then◌else◌, Bool, true, false, min, max, List, [], ◌∷◌, ◌++◌, Option, Some, None, refl, sym, ◌∙◌, ap, arith, unwrap_or}
use Rattle.std.specs.Option.{option_map_or}
use Rattle.ris_base.specs.Lines.{front, mark, has_left, least_mark, front_at_leave, floor}
use Rattle.ris_base.specs.declared.lines.Line.{Line}
use Rattle.ris_base.specs.declared.lines.Line.TheVariants as line

-- every mark of the list is at most its front
abbrev pub AreMarksWithin : List Line → Type 0
AreMarksWithin xs = (s : ℕ) → mark xs s ≤ front xs

-- Marks and leaves of joined lists

pub mark-append : (xs ys : List Line) (s : ℕ) → mark (xs ++ ys) s ≡ max (mark xs s) (mark ys s)
unfolding mark
mark-append [] ys s = omega arith
mark-append (line.Entry e ∷ xs) ys s = mark-append xs ys s
mark-append (line.Leave n q ∷ xs) ys s = mark-append xs ys s
mark-append (line.Mark n q u ∷ xs) ys s = go (n == s) (mark-append xs ys s)
  where
    go : (b : Bool) → mark (xs ++ ys) s ≡ max (mark xs s) (mark ys s)
        → (if b then max u (mark (xs ++ ys) s) else mark (xs ++ ys) s) ≡ max (if b then max u (mark xs s) else mark xs s) (mark ys s)
    go true h = omega arith
    go false h = h

pub has_left-append : (xs ys : List Line) (s : ℕ) → has_left (xs ++ ys) s ≡ (has_left xs s || has_left ys s)
unfolding has_left
has_left-append [] ys s = refl
has_left-append (line.Entry e ∷ xs) ys s = has_left-append xs ys s
has_left-append (line.Mark n q u ∷ xs) ys s = has_left-append xs ys s
has_left-append (line.Leave n q ∷ xs) ys s = go (n == s) (has_left-append xs ys s)
  where
    go : (b : Bool) → has_left (xs ++ ys) s ≡ (has_left xs s || has_left ys s) → (b || has_left (xs ++ ys) s) ≡ ((b || has_left xs s) || has_left ys s)
    go true h = refl
    go false h = h

or-true : (a b : Bool) → a ≡ true → (a || b) ≡ true
or-true a b h = rw h refl

-- the number of entries before the last leave is at most the front
pub front_at_leave-within : (n at : ℕ) (xs : List Line) → at ≤ n → front_at_leave n at xs ≤ n + front xs
unfolding front_at_leave front
front_at_leave-within n at [] h = omega arith
front_at_leave-within n at (line.Entry e ∷ xs) h = let more = front_at_leave-within (n + 1) at xs (omega arith) in omega arith
front_at_leave-within n at (line.Mark s q u ∷ xs) h = front_at_leave-within n at xs h
front_at_leave-within n at (line.Leave s q ∷ xs) h = front_at_leave-within n n xs (omega arith)

pub front_at_leave-append : (n at : ℕ) (xs ys : List Line) → front_at_leave n at (xs ++ ys) ≡ front_at_leave (n + front xs) (front_at_leave n at xs) ys
unfolding front_at_leave front
front_at_leave-append n at [] ys = ap (λ (k : ℕ). front_at_leave k at ys) (omega arith)
front_at_leave-append n at (line.Entry e ∷ xs) ys =
    front_at_leave-append (n + 1) at xs ys ∙ ap (λ (k : ℕ). front_at_leave k (front_at_leave (n + 1) at xs) ys) (omega arith)
front_at_leave-append n at (line.Mark s q u ∷ xs) ys = front_at_leave-append n at xs ys
front_at_leave-append n at (line.Leave s q ∷ xs) ys = front_at_leave-append n n xs ys

-- it never falls
front_at_leave-rises : (n at : ℕ) (xs : List Line) → at ≤ n → at ≤ front_at_leave n at xs
unfolding front_at_leave
front_at_leave-rises n at [] h = omega arith
front_at_leave-rises n at (line.Entry e ∷ xs) h = front_at_leave-rises (n + 1) at xs (omega arith)
front_at_leave-rises n at (line.Mark s q u ∷ xs) h = front_at_leave-rises n at xs h
front_at_leave-rises n at (line.Leave s q ∷ xs) h = let more = front_at_leave-rises n n xs (omega arith) in omega arith

-- where a session leaves among some lines, so many entries stand before the last leave as stand before these lines at least
front_at_leave-left : (n at : ℕ) (xs : List Line) (s : ℕ) → at ≤ n → has_left xs s ≡ true → n ≤ front_at_leave n at xs
unfolding front_at_leave has_left
front_at_leave-left n at [] s h e = absurd (cc)
front_at_leave-left n at (line.Entry d ∷ xs) s h e = let more = front_at_leave-left (n + 1) at xs s (omega arith) e in omega arith
front_at_leave-left n at (line.Mark m q u ∷ xs) s h e = front_at_leave-left n at xs s h e
front_at_leave-left n at (line.Leave m q ∷ xs) s h e = front_at_leave-rises n n xs (omega arith)

-- The least mark

-- what a least mark may become: it rises or, where the last session leaves, goes
abbrev MayBecome : Option ℕ → Option ℕ → Type 0
MayBecome None None = Unit {0}
MayBecome None (Some b) = ⊥
MayBecome (Some a) None = Unit {0}
MayBecome (Some a) (Some b) = a ≤ b

-- with one session more, which hasn't left in the first list
least_mark-step : (m k : ℕ) (a b : Option ℕ) → m ≤ k → MayBecome a b → MayBecome (Some (option_map_or (min m) a m)) (Some (option_map_or (min k) b k))
least_mark-step m k None None le h = le
least_mark-step m k None (Some y) le h = absurd h
least_mark-step m k (Some x) None le h = omega arith
least_mark-step m k (Some x) (Some y) le h = omega arith

least_mark-gone : (m : ℕ) (a b : Option ℕ) → MayBecome a b → MayBecome (Some (option_map_or (min m) a m)) b
least_mark-gone m None None h = tt
least_mark-gone m None (Some y) h = absurd h
least_mark-gone m (Some x) None h = tt
least_mark-gone m (Some x) (Some y) h = omega arith

least_mark-rises : (n : ℕ) (xs ys : List Line) → ((s : ℕ) → mark xs s ≤ mark ys s) → ((s : ℕ) → has_left xs s ≡ true → has_left ys s ≡ true)
    → MayBecome (least_mark n xs) (least_mark n ys)
unfolding least_mark
least_mark-rises zero xs ys marks leaves = tt
least_mark-rises (suc n) xs ys marks leaves = go (has_left xs n) (has_left ys n) (leaves n) (least_mark-rises n xs ys marks leaves)
  where
    go : (a b : Bool) → (a ≡ true → b ≡ true) → MayBecome (least_mark n xs) (least_mark n ys)
        → MayBecome (if a then least_mark n xs else Some (option_map_or (min (mark xs n)) (least_mark n xs) (mark xs n)))
        (if b then least_mark n ys else Some (option_map_or (min (mark ys n)) (least_mark n ys) (mark ys n)))
    go true true l h = h
    go true false l h = absurd (let e = l refl in cc)
    go false true l h = least_mark-gone (mark xs n) (least_mark n xs) (least_mark n ys) h
    go false false l h = least_mark-step (mark xs n) (mark ys n) (least_mark n xs) (least_mark n ys) (marks n) h

-- a least mark is at most the front
pub least_mark-within : (n : ℕ) (xs : List Line) (a : ℕ) → AreMarksWithin xs → least_mark n xs ≡ Some a → a ≤ front xs
unfolding least_mark
least_mark-within zero xs a marks e = absurd (cc)
least_mark-within (suc n) xs a marks e = go (least_mark-within n xs a marks) (has_left xs n) (least_mark n xs) refl e
  where
    go : (least_mark n xs ≡ Some a → a ≤ front xs) → (b : Bool) (o : Option ℕ) → least_mark n xs ≡ o → (if b then o else Some (option_map_or (min (mark xs n)) o (mark xs n))) ≡ Some a → a ≤ front xs
    go less true o same h = less (same ∙ h)
    go less false None same h = let m = marks n in let x : mark xs n ≡ a = cc in omega arith
    go less false (Some y) same h = let m = marks n in let x : min (mark xs n) y ≡ a = cc in omega arith

-- where the least mark goes, some session left
least_mark-left : (n : ℕ) (xs ys : List Line) (a : ℕ) → least_mark n xs ≡ Some a → least_mark n ys ≡ None → (s : ℕ) × (has_left xs s ≡ false) × (has_left ys s ≡ true)
unfolding least_mark
least_mark-left zero xs ys a h none = absurd (cc)
least_mark-left (suc n) xs ys a h none = go (least_mark-left n xs ys a) (has_left xs n) (has_left ys n) refl refl h none
  where
    go : (least_mark n xs ≡ Some a → least_mark n ys ≡ None → (s : ℕ) × (has_left xs s ≡ false) × (has_left ys s ≡ true)) → (b c : Bool) → has_left xs n ≡ b → has_left ys n ≡ c
        → (if b then least_mark n xs else Some (option_map_or (min (mark xs n)) (least_mark n xs) (mark xs n))) ≡ Some a
        → (if c then least_mark n ys else Some (option_map_or (min (mark ys n)) (least_mark n ys) (mark ys n))) ≡ None
        → (s : ℕ) × (has_left xs s ≡ false) × (has_left ys s ≡ true)
    go less b false eb ec h none = absurd (cc)
    go less false true eb ec h none = (n, eb, ec)
    go less true true eb ec h none = less h none

-- The floor

or-cases : (a b : Bool) → (a || b) ≡ true → a ≡ false → b ≡ true
or-cases a b h e = rw e at h

-- the floor never falls when lines are added
pub floor-rises : (n : ℕ) (xs ys : List Line) → AreMarksWithin xs → floor n xs ≤ floor n (xs ++ ys)
floor-rises n xs ys marks = go (least_mark n xs) (least_mark n (xs ++ ys)) refl refl
    (least_mark-rises n xs (xs ++ ys)
    (λ s. let e = mark-append xs ys s in omega arith)
    (λ s h. has_left-append xs ys s ∙ or-true (has_left xs s) (has_left ys s) h))
  where
    before : front_at_leave 0 0 xs ≤ front xs
    before = let h = front_at_leave-within 0 0 xs (omega arith) in omega arith

    joined : front_at_leave 0 0 (xs ++ ys) ≡ front_at_leave (front xs) (front_at_leave 0 0 xs) ys
    joined = front_at_leave-append 0 0 xs ys ∙ ap (λ (k : ℕ). front_at_leave k (front_at_leave 0 0 xs) ys) (omega arith)

    go : (a b : Option ℕ) → least_mark n xs ≡ a → least_mark n (xs ++ ys) ≡ b → MayBecome a b
        → unwrap_or a (front_at_leave 0 0 xs) ≤ unwrap_or b (front_at_leave 0 0 (xs ++ ys))
    go None None ea eb h = let r = front_at_leave-rises (front xs) (front_at_leave 0 0 xs) ys before in let j = joined in omega arith
    go None (Some y) ea eb h = absurd h
    go (Some x) (Some y) ea eb h = h
    go (Some x) None ea eb h =
        let l = least_mark-left n xs (xs ++ ys) x ea eb in
        let in_rest = or-cases (has_left xs l.0) (has_left ys l.0) (sym (has_left-append xs ys l.0) ∙ l.2) l.1 in
        let m = front_at_leave-left (front xs) (front_at_leave 0 0 xs) ys l.0 before in_rest in
        let w = least_mark-within n xs x marks ea in
        let j = joined in omega arith
