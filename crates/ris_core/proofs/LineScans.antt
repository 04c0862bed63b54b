-- The numbers of a list of lines, as a loop reckons them line by line.
use Rattle.std.proofs.Common.{◌≡◌, ◌≢◌, ℕ, suc, ◌+◌, ◌≤◌, ◌==◌, ◌||◌, Bool, true, false, if◌then◌else◌, cond, min, max, List, [], ◌∷◌, length, drop, Some, None, arith, add-one, refl, sym, ap, ◌∙◌}
use Rattle.std.specs.List.{list_any, slice_get}
use Rattle.std.specs.Option.{option_map_or}
use Rattle.ris_base.specs.Lines.{front, front_at_leave, has_left, least_mark, mark}
use Rattle.ris_base.specs.declared.lines.Entry.{Entry}
use Rattle.ris_base.specs.declared.lines.Line.{Line}
use Rattle.ris_base.specs.declared.lines.Line.TheVariants as line
use Rattle.ris_core.specs.Marks.{is_leave_of, mark_in}
use Rattle.ris_core.proofs.Scans.{drop-end, drop-next}

-- The front

pub front-none : front [] ≡ 0
unfolding front
front-none = refl

front-first : (e : Entry) (xs : List Line) → front (line.Entry e ∷ xs) ≡ front xs + 1
unfolding front
front-first e xs = refl

pub front-next : (xs : List Line) (k : ℕ) (e : Entry) → slice_get xs k ≡ Some (line.Entry e) → front (drop k xs) ≡ front (drop (k + 1) xs) + 1
front-next xs k e at = ap front (drop-next xs k (line.Entry e) at) ∙ front-first e (drop (k + 1) xs)

front-other : (l : Line) (xs : List Line) → ((e : Entry) → l ≢ line.Entry e) → front (l ∷ xs) ≡ front xs
unfolding front
front-other (line.Entry e) xs never = absurd (never e refl)
front-other (line.Mark s q u) xs never = refl
front-other (line.Leave s q) xs never = refl

pub front-skip : (xs : List Line) (k : ℕ) (l : Line) → slice_get xs k ≡ Some l → ((e : Entry) → l ≢ line.Entry e) → front (drop k xs) ≡ front (drop (k + 1) xs)
front-skip xs k l at never = ap front (drop-next xs k l at) ∙ front-other l (drop (k + 1) xs) never

pub front-end : (xs : List Line) (k : ℕ) → length xs ≤ k → front (drop k xs) ≡ 0
front-end xs k past = ap front (drop-end xs k past) ∙ front-none

-- Marks

mark-first : (l : Line) (xs : List Line) (s m : ℕ) → max (max m (mark_in l s)) (mark xs s) ≡ max m (mark (l ∷ xs) s)
unfolding mark
mark-first (line.Entry e) xs s m = omega arith
mark-first (line.Leave session seq) xs s m = omega arith
mark-first (line.Mark session seq upto) xs s m = go (session == s)
  where
    go : (b : Bool) → max (max m (if b then upto else 0)) (mark xs s) ≡ max m (if b then max upto (mark xs s) else mark xs s)
    go true = omega arith
    go false = omega arith

pub mark-next : (xs : List Line) (k : ℕ) (l : Line) (s m : ℕ) → slice_get xs k ≡ Some l → max (max m (mark_in l s)) (mark (drop (k + 1) xs) s) ≡ max m (mark (drop k xs) s)
mark-next xs k l s m at = mark-first l (drop (k + 1) xs) s m ∙ sym (ap (λ (ls : List Line). max m (mark ls s)) (drop-next xs k l at))

pub mark-end : (xs : List Line) (k s m : ℕ) → length xs ≤ k → max m (mark (drop k xs) s) ≡ m
unfolding mark
mark-end xs k s m past = let none : mark (drop k xs) s ≡ 0 = ap (λ (ls : List Line). mark ls s) (drop-end xs k past) in omega arith

-- Leaves

pub has_left-any : (xs : List Line) (s : ℕ) → list_any (is_leave_of s) xs ≡ has_left xs s
unfolding has_left
has_left-any [] s = refl
has_left-any (line.Entry e ∷ xs) s = has_left-any xs s
has_left-any (line.Mark session seq upto ∷ xs) s = has_left-any xs s
has_left-any (line.Leave session seq ∷ xs) s = ap (λ b. (session == s) || b) (has_left-any xs s)

-- The least mark

pub least-none : (xs : List Line) → least_mark 0 xs ≡ None
unfolding least_mark
least-none xs = refl

least-suc : (n : ℕ) (xs : List Line) (b : Bool) → has_left xs n ≡ b → least_mark (suc n) xs ≡ cond b (least_mark n xs) (Some (option_map_or (min (mark xs n)) (least_mark n xs) (mark xs n)))
unfolding least_mark
least-suc n xs b e = ap (λ c. cond c (least_mark n xs) (Some (option_map_or (min (mark xs n)) (least_mark n xs) (mark xs n)))) e

pub least-left : (n : ℕ) (xs : List Line) → has_left xs n ≡ true → least_mark (n + 1) xs ≡ least_mark n xs
least-left n xs e = ap (λ k. least_mark k xs) (add-one n) ∙ least-suc n xs true e

pub least-more : (n : ℕ) (xs : List Line) → has_left xs n ≡ false → least_mark (n + 1) xs ≡ Some (option_map_or (min (mark xs n)) (least_mark n xs) (mark xs n))
least-more n xs e = ap (λ k. least_mark k xs) (add-one n) ∙ least-suc n xs false e

-- The front at the last leave

at-first-entry : (n at : ℕ) (e : Entry) (xs : List Line) → front_at_leave n at (line.Entry e ∷ xs) ≡ front_at_leave (n + 1) at xs
unfolding front_at_leave
at-first-entry n at e xs = refl

at-first-leave : (n at s q : ℕ) (xs : List Line) → front_at_leave n at (line.Leave s q ∷ xs) ≡ front_at_leave n n xs
unfolding front_at_leave
at-first-leave n at s q xs = refl

at-first-mark : (n at s q u : ℕ) (xs : List Line) → front_at_leave n at (line.Mark s q u ∷ xs) ≡ front_at_leave n at xs
unfolding front_at_leave
at-first-mark n at s q u xs = refl

pub at-entry : (n at : ℕ) (xs : List Line) (k : ℕ) (e : Entry) → slice_get xs k ≡ Some (line.Entry e) → front_at_leave (n + 1) at (drop (k + 1) xs) ≡ front_at_leave n at (drop k xs)
at-entry n at xs k e h = sym (ap (front_at_leave n at) (drop-next xs k (line.Entry e) h) ∙ at-first-entry n at e (drop (k + 1) xs))

pub at-leave : (n at : ℕ) (xs : List Line) (k s q : ℕ) → slice_get xs k ≡ Some (line.Leave s q) → front_at_leave n n (drop (k + 1) xs) ≡ front_at_leave n at (drop k xs)
at-leave n at xs k s q h = sym (ap (front_at_leave n at) (drop-next xs k (line.Leave s q) h) ∙ at-first-leave n at s q (drop (k + 1) xs))

pub at-mark : (n at : ℕ) (xs : List Line) (k s q u : ℕ) → slice_get xs k ≡ Some (line.Mark s q u) → front_at_leave n at (drop (k + 1) xs) ≡ front_at_leave n at (drop k xs)
at-mark n at xs k s q u h = sym (ap (front_at_leave n at) (drop-next xs k (line.Mark s q u) h) ∙ at-first-mark n at s q u (drop (k + 1) xs))

pub at-end : (n at : ℕ) (xs : List Line) (k : ℕ) → length xs ≤ k → front_at_leave n at (drop k xs) ≡ at
unfolding front_at_leave
at-end n at xs k past = ap (front_at_leave n at) (drop-end xs k past)
