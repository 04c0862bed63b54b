-- Taking a decision out by its place, and the steps of a merge.
use Rattle.std.proofs.Common.{◌≡◌, ◌≢◌, ℕ, zero, inl, inr, suc, ◌+◌, ◌<◌, ◌≤◌, ◌==◌, ◌||◌, not, if◌then◌else◌, cond, Bool, true, false, List, [], ◌∷◌, ◌++◌, length, take, drop, get_or, Option, Some, None, arith, refl, sym, subst, ap, ◌∙◌}
use Rattle.std.specs.List.{list_any, position, position_or_len, remove, slice_get}
use Rattle.std.specs.Option.{option_and_then, option_map}
use Rattle.std.proofs.lemmas.Bool.{lt-ltb, cases_lt, or_parts}
use Rattle.std.proofs.lemmas.List.Quantifiers.{position-Some}
use Rattle.std.proofs.lemmas.List.{append-nil, append_assoc}
use Rattle.std.proofs.lemmas.Option.{get_or_from_slice_get}
use Rattle.ris_base.specs.Machine.{Decided, stripe_of}
use Rattle.ris_core.specs.Moves.{Pulled, IsPull, behind_one, is_first, merge_of, pull_of, pulled}

-- where a test has no place nothing passes it
none-passes : {X : Type 0} (p : X → Bool) (xs : List X) → length xs ≤ position_or_len p xs → list_any p xs ≡ false
none-passes p [] past = refl
none-passes p (x ∷ xs) past = go (p x) refl past (λ more. none-passes p xs more)
  where
    go : (b : Bool) → p x ≡ b → length (x ∷ xs) ≤ cond (not b) (1 + position_or_len p xs) 0 → (length xs ≤ position_or_len p xs → list_any p xs ≡ false) → (b || list_any p xs) ≡ false
    go true e low rest = absurd (omega arith)
    go false e low rest = rest (omega arith)

pub position-none : {X : Type 0} (p : X → Bool) (xs : List X) → position p xs ≡ None → list_any p xs ≡ false
position-none p xs none = elim (cases_lt (position_or_len p xs) (length xs)) [
  | inl less ↦ absurd (let e : Some (position_or_len p xs) ≡ None = sym (ap (λ b. cond b (Some (position_or_len p xs)) None) (lt-ltb (position_or_len p xs) (length xs) less)) ∙ none in cc)
  | inr past ↦ none-passes p xs past
]

-- no decision of the session
pub pulled-none : (s : ℕ) (rest : List Decided) → list_any (λ d. d.entry.session == s) rest ≡ false → pulled s rest ≡ None
unfolding pulled
pulled-none s [] none = refl
pulled-none s (d ∷ rest) none =
    let parts = or_parts (d.entry.session == s) (list_any (λ x. x.entry.session == s) rest) none in
    ap (λ b. if b then Some (record { before = []; decision = d; behind = rest }) else option_map (behind_one d) (pulled s rest)) parts.0
    ∙ ap (option_map (behind_one d)) (pulled-none s rest parts.1)

-- the first decision of the session is at this place
abbrev pub pulled_at : List Decided → ℕ → Decided → Pulled
pulled_at rest i d = record { before = take i rest; decision = d; behind = drop (suc i) rest }

pub pulled-place : (s : ℕ) (rest : List Decided) (i : ℕ) (d : Decided) → slice_get rest i ≡ Some d → (d.entry.session == s) ≡ true
    → ((k : ℕ) (e : Decided) → k < i → slice_get rest k ≡ Some e → (e.entry.session == s) ≡ false) → pulled s rest ≡ Some (pulled_at rest i d)
unfolding pulled
pulled-place s [] i d at here before = absurd (cc)
pulled-place s (x ∷ rest) zero d at here before =
    let same : x ≡ d = cc in
    ap (λ b. if b then Some (record { before = []; decision = x; behind = rest }) else option_map (behind_one x) (pulled s rest)) (ap (λ (y : Decided). y.entry.session == s) same ∙ here)
    ∙ ap (λ (y : Decided). Some (record { before = []; decision = y; behind = rest })) same
pulled-place s (x ∷ rest) (suc i) d at here before =
    ap (λ b. if b then Some (record { before = []; decision = x; behind = rest }) else option_map (behind_one x) (pulled s rest)) (before 0 x (omega arith) refl)
    ∙ ap (option_map (behind_one x)) (pulled-place s rest i d at here (λ k e less there. before (suc k) e (omega arith) there))

pub pulled-position : (s : ℕ) (rest : List Decided) (i : ℕ) (d : Decided) → position (λ x. x.entry.session == s) rest ≡ Some i → slice_get rest i ≡ Some d
    → pulled s rest ≡ Some (pulled_at rest i d)
pulled-position s rest i d is at =
    let found = position-Some (λ (x : Decided). x.entry.session == s) rest i d is in
    let own : get_or rest i d ≡ d = get_or_from_slice_get rest i d d at in
    pulled-place s rest i d at (sym (ap (λ (x : Decided). x.entry.session == s) own) ∙ found.1)
    (λ k e less there. (let other = found.2 k less in
    sym (ap (λ (x : Decided). x.entry.session == s) (get_or_from_slice_get rest k e d there)) ∙ other))

-- what is found when one is taken out
pub pull-none : (s : ℕ) (rest : List Decided) (result : Option Decided) (new : List Decided) → pulled s rest ≡ None → result ≡ None → IsPull (pull_of s rest) result new
pull-none s rest result new none is = subst (λ (o : Option Pulled). IsPull (option_and_then (λ p. if is_first p then Some p else None) o) result new) (sym none) is

pull-some : (s : ℕ) (rest : List Decided) (p : Pulled) (b : Bool) (result : Option Decided) (new : List Decided) → pulled s rest ≡ Some p → is_first p ≡ b
    → IsPull (if b then Some p else None) result new → IsPull (pull_of s rest) result new
pull-some s rest p b result new is first h =
    subst (λ (o : Option Pulled). IsPull (option_and_then (λ q. if is_first q then Some q else None) o) result new) (sym is)
    (subst (λ c. IsPull (if c then Some p else None) result new) (sym first) h)

pub pull-late : (s : ℕ) (rest : List Decided) (i : ℕ) (d : Decided) (new : List Decided) → position (λ x. x.entry.session == s) rest ≡ Some i → slice_get rest i ≡ Some d
    → list_any (λ x. stripe_of x.entry.parts == stripe_of d.entry.parts) (take i rest) ≡ true → IsPull (pull_of s rest) None new
pull-late s rest i d new is at late =
    pull-some s rest (pulled_at rest i d) false None new (pulled-position s rest i d is at) (ap not late) refl

pub pull-first : (s : ℕ) (rest : List Decided) (i : ℕ) (d : Decided) (new : List Decided) → position (λ x. x.entry.session == s) rest ≡ Some i → slice_get rest i ≡ Some d
    → list_any (λ x. stripe_of x.entry.parts == stripe_of d.entry.parts) (take i rest) ≡ false → new ≡ remove rest i → IsPull (pull_of s rest) (Some d) new
pull-first s rest i d new is at first same =
    pull-some s rest (pulled_at rest i d) true (Some d) new (pulled-position s rest i d is at) (ap not first) (refl, same)

-- The steps of a merge

merge-first : (s : ℕ) (order : List ℕ) (rest : List Decided) → merge_of (s ∷ order) rest
    ≡ option_and_then (λ p. if is_first p then option_map (λ merged. p.decision ∷ merged) (merge_of order (p.before ++ p.behind)) else None) (pulled s rest)
unfolding merge_of
merge-first s order rest = refl

-- the same by what is taken out
merge-by : (order : List ℕ) (o : Option Pulled)
    → option_and_then (λ p. if is_first p then option_map (λ merged. p.decision ∷ merged) (merge_of order (p.before ++ p.behind)) else None) o
    ≡ option_and_then (λ p. option_map (λ merged. p.decision ∷ merged) (merge_of order (p.before ++ p.behind))) (option_and_then (λ p. if is_first p then Some p else None) o)
merge-by order None = refl
merge-by order (Some p) = go (is_first p)
  where
    go : (b : Bool) → (if b then option_map (λ merged. p.decision ∷ merged) (merge_of order (p.before ++ p.behind)) else None)
        ≡ option_and_then (λ q. option_map (λ merged. q.decision ∷ merged) (merge_of order (q.before ++ q.behind))) (if b then Some p else None)
    go true = refl
    go false = refl

merge-pull : (s : ℕ) (order : List ℕ) (rest : List Decided) → merge_of (s ∷ order) rest
    ≡ option_and_then (λ p. option_map (λ merged. p.decision ∷ merged) (merge_of order (p.before ++ p.behind))) (pull_of s rest)
merge-pull s order rest = merge-first s order rest ∙ merge-by order (pulled s rest)

map-map : {X Y Z : Type 0} (f : X → Y) (g : Y → Z) (o : Option X) → option_map g (option_map f o) ≡ option_map (λ x. g (f x)) o
map-map f g None = refl
map-map f g (Some x) = refl

-- nothing was taken out: there is no merge
pub merge-stops : (s : ℕ) (order : List ℕ) (rest new : List Decided) → IsPull (pull_of s rest) None new → merge_of (s ∷ order) rest ≡ None
merge-stops s order rest new pull = go (pull_of s rest) refl pull
  where
    go : (o : Option Pulled) → pull_of s rest ≡ o → IsPull o None new → merge_of (s ∷ order) rest ≡ None
    go None e h = merge-pull s order rest ∙ ap (option_and_then (λ p. option_map (λ merged. p.decision ∷ merged) (merge_of order (p.before ++ p.behind)))) e
    go (Some p) e h = absurd (let w = h.0 in cc)

-- one was: the merge goes on behind it
pub merge-goes : (s : ℕ) (order : List ℕ) (rest new : List Decided) (d : Decided) → IsPull (pull_of s rest) (Some d) new → merge_of (s ∷ order) rest ≡ option_map (λ merged. d ∷ merged) (merge_of order new)
merge-goes s order rest new d pull = go (pull_of s rest) refl pull
  where
    go : (o : Option Pulled) → pull_of s rest ≡ o → IsPull o (Some d) new → merge_of (s ∷ order) rest ≡ option_map (λ merged. d ∷ merged) (merge_of order new)
    go None e h = absurd (let w = h in cc)
    go (Some p) e h =
        let own : d ≡ p.decision = (let w = h.0 in cc) in
        merge-pull s order rest ∙ ap (option_and_then (λ q. option_map (λ merged. q.decision ∷ merged) (merge_of order (q.before ++ q.behind)))) e
        ∙ ap (λ (ds : List Decided). option_map (λ merged. p.decision ∷ merged) (merge_of order ds)) (sym h.1)
        ∙ ap (λ (x : Decided). option_map (λ merged. x ∷ merged) (merge_of order new)) (sym own)

append-map : (before : List Decided) (d : Decided) (o : Option (List Decided)) → option_map (λ more. (before ++ d ∷ []) ++ more) o ≡ option_map (λ more. before ++ d ∷ more) o
append-map before d None = refl
append-map before d (Some more) = ap Some (append_assoc before (d ∷ []) more)

-- what is merged so far and what is to come, one decision later
pub merge-next : (s : ℕ) (order : List ℕ) (before rest new : List Decided) (d : Decided) → IsPull (pull_of s rest) (Some d) new
    → option_map (λ more. (before ++ d ∷ []) ++ more) (merge_of order new) ≡ option_map (λ more. before ++ more) (merge_of (s ∷ order) rest)
merge-next s order before rest new d pull =
    append-map before d (merge_of order new) ∙ sym (ap (option_map (λ more. before ++ more)) (merge-goes s order rest new d pull) ∙ map-map (λ merged. d ∷ merged) (λ more. before ++ more) (merge_of order new))

-- all are merged
pub merge-done : merge_of [] [] ≡ Some []
unfolding merge_of
merge-done = refl

pub merge-left : (d : Decided) (rest : List Decided) → merge_of [] (d ∷ rest) ≡ None
unfolding merge_of
merge-left d rest = refl

-- the end of the order: all are merged where none is left, and only then
pub merge-end : (before rest : List Decided) → length rest ≡ 0 → option_map (λ more. before ++ more) (merge_of [] rest) ≡ Some before
merge-end before [] none = ap (option_map (λ more. before ++ more)) merge-done ∙ ap Some (append-nil before)
merge-end before (d ∷ rest) none = absurd (omega arith)

pub merge-ends : (before rest : List Decided) → length rest ≢ 0 → option_map (λ more. before ++ more) (merge_of [] rest) ≡ None
merge-ends before [] some = absurd (some refl)
merge-ends before (d ∷ rest) some = ap (option_map (λ more. before ++ more)) (merge-left d rest)
