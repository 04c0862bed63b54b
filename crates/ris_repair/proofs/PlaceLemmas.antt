-- What the places of tables side by side say.
use Rattle.std.proofs.Common.{◌≡◌, ◌≢◌, ℕ, ◌<◌, ◌≤◌, ◌-◌, ◌==◌, Bool, false, inl, inr, List, ◌++◌, length, take, replicate, get_or, set, Option, None, arith, refl, sym, ap, ◌∙◌}
use Rattle.std.proofs.lemmas.Bool.{cases_lt, eqb-false}
use Rattle.std.proofs.lemmas.List.{ext_get_or, get_or_default, get_or_past, get_or-set_same, get_or-set_other, get_or_append_left, get_or-append_right, get_or-replicate, get_or-take, length-replicate, length-take, take_all}
use Rattle.std.proofs.lemmas.List.FromFn.{length-map-range_with_len, get_or-map-range_with_len}
use Rattle.ris_base.specs.declared.forests.Parent.{Parent}
use Rattle.ris_base.specs.declared.forests.Parent.TheVariants as parent
use Rattle.ris_repair.specs.Tables.{change_by, change_of, unmarked, standing_at, changes_of}
use Rattle.ris_repair.specs.declared.stores.Change.{Change}
use Rattle.ris_repair.specs.declared.tables.Mark.{Mark}
use Rattle.ris_repair.specs.declared.tables.MarkKind.{MarkKind}

-- A list that was resized

-- more of what a place past the end reads as
padded : {A : Type 0} (xs : List A) (n k : ℕ) (a : A) → get_or (xs ++ replicate n a) k a ≡ get_or xs k a
padded xs n k a =
    elim (cases_lt k (length xs)) [
      | inl lt ↦ get_or_append_left xs (replicate n a) a k lt
      | inr past ↦ get_or-append_right xs (replicate n a) (length xs) k a refl past ∙ pad (k - length xs) ∙ sym (get_or_past xs k a past)
    ]
  where
    pad : (i : ℕ) → get_or (replicate n a) i a ≡ a
    pad i = elim (cases_lt i n) [
      | inl lt ↦ get_or-replicate n i a a lt
      | inr past ↦ get_or_past (replicate n a) i a (omega (arith, length-replicate n a))
    ]

-- an element that was there before and is there still
pub resized_below : {A : Type 0} (xs new : List A) (size left k : ℕ) (a d : A) → new ≡ take size xs ++ replicate left a → k < size → k < length xs
    → get_or new k d ≡ get_or xs k d
resized_below xs new size left k a d is lt within =
    ap (λ l. get_or l k d) is ∙ get_or_append_left (take size xs) (replicate left a) d k (omega (arith, length-take size xs)) ∙ get_or-take size xs k d lt

-- an element of a list that became no shorter, with what places past the end read as
pub resized_at : {A : Type 0} (xs new : List A) (size left k : ℕ) (a : A) → new ≡ take size xs ++ replicate left a → length xs ≤ size
    → get_or new k a ≡ get_or xs k a
resized_at xs new size left k a is longer =
    ap (λ l. get_or l k a) (is ∙ ap (λ l. l ++ replicate left a) (take_all size xs longer)) ∙ padded xs left k a

-- an element as it was read
pub read_as : {A : Type 0} (xs : List A) (k : ℕ) (x d : A) → k < length xs → x ≡ get_or xs k x → get_or xs k d ≡ x
read_as xs k x d lt is = get_or_default xs k d x lt ∙ sym is

-- Tables side by side

module _ (marks : List Mark) (numbers : List ℕ) (parents : List Parent) where
  -- there are as many places as marks
  pub length-changes : length (changes_of marks numbers parents) ≡ length marks
  unfolding changes_of
  length-changes = length-map-range_with_len (standing_at marks numbers parents) 0 (length marks)

  -- what is read of a place
  pub get_or-changes : (k : ℕ) → get_or (changes_of marks numbers parents) k None ≡ standing_at marks numbers parents k
  unfolding changes_of
  get_or-changes k = elim (cases_lt k (length marks)) [
    | inl lt ↦ get_or-map-range_with_len (standing_at marks numbers parents) 0 (length marks) k k None lt (omega arith)
    | inr past ↦ get_or_past (changes_of marks numbers parents) k None (omega (arith, length-changes))
        ∙ sym (ap (λ (m : Mark). change_of m (get_or numbers k 0) (get_or parents k parent.None)) (get_or_past marks k unmarked past))
  ]

  -- what a place with this mark says
  pub marked : (now : List (Option Change)) → changes_of marks numbers parents ≡ now → (k : ℕ) (m : Mark) → get_or marks k unmarked ≡ m
      → get_or now k None ≡ change_of m (get_or numbers k 0) (get_or parents k parent.None)
  marked now is k m e = ap (λ l. get_or l k None) (sym is) ∙ get_or-changes k ∙ ap (λ (m : Mark). change_of m (get_or numbers k 0) (get_or parents k parent.None)) e

  -- what a place says whose mark was read, and is of this kind, settled or not
  pub read_mark : (now : List (Option Change)) → changes_of marks numbers parents ≡ now → (k : ℕ) (m : Mark) → k < length marks → m ≡ get_or marks k m
      → (kind : MarkKind) (s : Bool) → m.kind ≡ kind → m.settled ≡ s → get_or now k None ≡ change_by kind s (get_or numbers k 0) (get_or parents k parent.None)
  read_mark now is k m lt read kind s of at =
      marked now is k m (read_as marks k m unmarked lt read)
      ∙ ap (λ (l : MarkKind). change_by l m.settled (get_or numbers k 0) (get_or parents k parent.None)) of
      ∙ ap (λ (b : Bool). change_by kind b (get_or numbers k 0) (get_or parents k parent.None)) at

  -- what a place past the end says
  pub past_end : (now : List (Option Change)) → changes_of marks numbers parents ≡ now → (k : ℕ) → length marks ≤ k → get_or now k None ≡ None
  past_end now is k past = marked now is k unmarked (get_or_past marks k unmarked past)

-- other tables with the same in a place
pub same_place : (marks marks2 : List Mark) (numbers numbers2 : List ℕ) (parents parents2 : List Parent) (k : ℕ)
    → get_or marks2 k unmarked ≡ get_or marks k unmarked
    → (k < length marks → get_or numbers2 k 0 ≡ get_or numbers k 0) → (k < length marks → get_or parents2 k parent.None ≡ get_or parents k parent.None)
    → get_or (changes_of marks2 numbers2 parents2) k None ≡ get_or (changes_of marks numbers parents) k None
same_place marks marks2 numbers numbers2 parents parents2 k mark number up =
    get_or-changes marks2 numbers2 parents2 k ∙ both ∙ sym (get_or-changes marks numbers parents k)
  where
    both : standing_at marks2 numbers2 parents2 k ≡ standing_at marks numbers parents k
    both = elim (cases_lt k (length marks)) [
      | inl lt ↦
          ap (λ (m : Mark). change_of m (get_or numbers2 k 0) (get_or parents2 k parent.None)) mark
          ∙ ap (λ (n : ℕ). change_of (get_or marks k unmarked) n (get_or parents2 k parent.None)) (number lt)
          ∙ ap (λ (p : Parent). change_of (get_or marks k unmarked) (get_or numbers k 0) p) (up lt)
      | inr past ↦
          let none = get_or_past marks k unmarked past in
          ap (λ (m : Mark). change_of m (get_or numbers2 k 0) (get_or parents2 k parent.None)) (mark ∙ none)
          ∙ sym (ap (λ (m : Mark). change_of m (get_or numbers k 0) (get_or parents k parent.None)) none)
    ]

-- the same marks, with what they need of longer tables
pub same_changes : (marks : List Mark) (numbers numbers2 : List ℕ) (parents parents2 : List Parent)
    → ((k : ℕ) → k < length marks → get_or numbers2 k 0 ≡ get_or numbers k 0)
    → ((k : ℕ) → k < length marks → get_or parents2 k parent.None ≡ get_or parents k parent.None)
    → changes_of marks numbers2 parents2 ≡ changes_of marks numbers parents
same_changes marks numbers numbers2 parents parents2 number up =
    ext_get_or None (changes_of marks numbers2 parents2) (changes_of marks numbers parents)
    (length-changes marks numbers2 parents2 ∙ sym (length-changes marks numbers parents))
    (λ k lt. same_place marks marks numbers numbers2 parents parents2 k refl (number k) (up k))

module _ (marks : List Mark) (numbers : List ℕ) (parents : List Parent) (i : ℕ) (m : Mark) (n : ℕ) (p : Parent) where
  -- a place that was written
  pub written : i < length marks → i < length numbers → i < length parents
      → get_or (changes_of (set marks i m) (set numbers i n) (set parents i p)) i None ≡ change_of m n p
  written one two three =
      get_or-changes (set marks i m) (set numbers i n) (set parents i p) i
      ∙ ap (λ (k : Mark). change_of k (get_or (set numbers i n) i 0) (get_or (set parents i p) i parent.None)) (get_or-set_same marks i m unmarked one)
      ∙ ap (λ (k : ℕ). change_of m k (get_or (set parents i p) i parent.None)) (get_or-set_same numbers i n 0 two)
      ∙ ap (λ (k : Parent). change_of m n k) (get_or-set_same parents i p parent.None three)

  -- and the others
  pub written_apart : (k : ℕ) → (i == k) ≡ false
      → get_or (changes_of (set marks i m) (set numbers i n) (set parents i p)) k None ≡ get_or (changes_of marks numbers parents) k None
  written_apart k off =
      let ne : k ≢ i = λ e. eqb-false i k off (sym e) in
      same_place marks (set marks i m) numbers (set numbers i n) parents (set parents i p) k (get_or-set_other marks i k m unmarked ne)
      (λ _. get_or-set_other numbers i k n 0 ne) (λ _. get_or-set_other parents i k p parent.None ne)
