-- One item more in an ordered list.
use Rattle.std.proofs.Common.{◌≡◌, ◌≢◌, ℕ, zero, suc, ◌+◌, ◌<◌, ◌≤◌, ◌==◌, ◌||◌, ◌⊎◌, inl, inr, if◌then◌else◌, nat_le, Bool, true, false, List, [], ◌∷◌, ◌++◌, length, map, get_or, arith, refl, sym, ap, subst, ◌∙◌, eq-eqb, cond}
use Rattle.std.specs.List.{All, Contains, filter, insert, list_any}
use Rattle.std.proofs.lemmas.Bool.{cases_lt, eqb-true, false≢true, le-leb, lt-leb, ne_eqb}
use Rattle.std.proofs.lemmas.List.{append-nil}
use Rattle.std.proofs.lemmas.List.Edits.{insert_end}
use Rattle.std.proofs.lemmas.List.Elements.{All-contains, All-from_get_or}
use Rattle.std.proofs.lemmas.List.Folds.{list_any_at, list_any_none}
use Rattle.ris_base.specs.Graph.{EachOnce}
use Rattle.ris_base.specs.Machine.{session_by}
use Rattle.ris_base.specs.declared.requests.Request.{Request}
use Rattle.ris_base.proofs.ListLemmas.{All-from_Contains, Contains-cases, Contains-first, Contains-none, Contains-rest, EachOnce-cons, EachOnce-nil}
use Rattle.ris_epoch.specs.Ordering.{AreOrdered, inserted_by}

-- Inserting

-- an item put behind the last one whose key is at most its own
pub insert-behind : {X : Type 0} (key : X → ℕ) (xs : List X) (k : ℕ) (x : X) → k ≤ length xs
    → ((i : ℕ) (d : X) → k ≤ i → i < length xs → key x < key (get_or xs i d))
    → ((i : ℕ) (d : X) → i + 1 ≡ k → key (get_or xs i d) ≤ key x) → insert xs k x ≡ inserted_by key xs x
unfolding inserted_by
insert-behind key [] zero x within above below = refl
insert-behind key [] (suc k) x within above below = absurd (omega arith)
insert-behind {X} key (y ∷ ys) zero x within above below =
    let test : X → Bool = λ z. nat_le (key z) (key x) in
    let none : list_any test (y ∷ ys) ≡ false =
    list_any_none test (y ∷ ys) (All-from_get_or (λ z. test z ≡ false) (y ∷ ys) y (λ i less. lt-leb (key (get_or (y ∷ ys) i y)) (key x) (above i y (omega arith) less))) in
    sym (ap (λ (b : Bool). if b then y ∷ inserted_by key ys x else x ∷ y ∷ ys) none)
insert-behind {X} key (y ∷ ys) (suc k) x within above below =
    let test : X → Bool = λ z. nat_le (key z) (key x) in
    let next : k + 1 ≡ suc k = omega arith in
    let some : list_any test (y ∷ ys) ≡ true = list_any_at test (y ∷ ys) k y (omega arith) (le-leb (key (get_or (y ∷ ys) k y)) (key x) (below k y next)) in
    ap (λ (zs : List X). y ∷ zs) (insert-behind key ys k x (omega arith)
    (λ i d low less. above (suc i) d (omega arith) (omega arith))
    (λ i d is. below (suc i) d (let e : suc i + 1 ≡ suc (i + 1) = omega arith in e ∙ ap suc is)))
    ∙ sym (ap (λ (b : Bool). if b then y ∷ inserted_by key ys x else x ∷ y ∷ ys) some)

-- where the last key is at most that of x, it goes to the end
pub append-behind : {X : Type 0} (key : X → ℕ) (xs : List X) (x : X)
    → ((i : ℕ) (d : X) → i + 1 ≡ length xs → key (get_or xs i d) ≤ key x) → xs ++ x ∷ [] ≡ inserted_by key xs x
append-behind key xs x below =
    sym (insert_end xs x) ∙ insert-behind key xs (length xs) x (omega arith) (λ i d low less. absurd (omega arith)) below

-- it has one item more
pub length-inserted : {X : Type 0} (key : X → ℕ) (xs : List X) (x : X) → length (inserted_by key xs x) ≡ length xs + 1
unfolding inserted_by
length-inserted key [] x = refl
length-inserted {X} key (y ∷ ys) x = go (list_any (λ z. nat_le (key z) (key x)) (y ∷ ys)) (length-inserted key ys x)
  where
    go : (b : Bool) → length (inserted_by key ys x) ≡ length ys + 1 → length (if b then y ∷ inserted_by key ys x else x ∷ y ∷ ys) ≡ length (y ∷ ys) + 1
    go true more = omega arith
    go false more = omega arith

-- who stands in it
pub Contains-inserted : {X : Type 0} (key : X → ℕ) (xs : List X) (x z : X) → Contains (inserted_by key xs x) z → (x ≡ z) ⊎ Contains xs z
unfolding inserted_by
Contains-inserted key [] x z h = elim (Contains-cases x [] z h) [ inl first ↦ inl first | inr later ↦ inr later ]
Contains-inserted {X} key (y ∷ ys) x z h = go (list_any (λ w. nat_le (key w) (key x)) (y ∷ ys)) h (λ k. Contains-inserted key ys x z k)
  where
    go : (b : Bool) → Contains (if b then y ∷ inserted_by key ys x else x ∷ y ∷ ys) z → (Contains (inserted_by key ys x) z → (x ≡ z) ⊎ Contains ys z) → (x ≡ z) ⊎ Contains (y ∷ ys) z
    go false h rest = Contains-cases x (y ∷ ys) z h
    go true h rest = elim (Contains-cases y (inserted_by key ys x) z h) [
      | inl first ↦ inr (subst (λ w. Contains (y ∷ ys) w) first (Contains-first y ys))
      | inr later ↦ elim (rest later) [ inl here ↦ inl here | inr there ↦ inr (Contains-rest y ys z there) ]
    ]

pub inserted-Contains : {X : Type 0} (key : X → ℕ) (xs : List X) (x z : X) → (x ≡ z) ⊎ Contains xs z → Contains (inserted_by key xs x) z
unfolding inserted_by
inserted-Contains key [] x z (inl here) = subst (λ w. Contains (x ∷ []) w) here (Contains-first x [])
inserted-Contains key [] x z (inr there) = absurd (Contains-none z there)
inserted-Contains {X} key (y ∷ ys) x z h = go (list_any (λ w. nat_le (key w) (key x)) (y ∷ ys)) h (λ k. inserted-Contains key ys x z k)
  where
    go : (b : Bool) → (x ≡ z) ⊎ Contains (y ∷ ys) z → ((x ≡ z) ⊎ Contains ys z → Contains (inserted_by key ys x) z) → Contains (if b then y ∷ inserted_by key ys x else x ∷ y ∷ ys) z
    go false (inl here) rest = subst (λ w. Contains (x ∷ y ∷ ys) w) here (Contains-first x (y ∷ ys))
    go false (inr there) rest = Contains-rest x (y ∷ ys) z there
    go true (inl here) rest = Contains-rest y (inserted_by key ys x) z (rest (inl here))
    go true (inr there) rest = elim (Contains-cases y ys z there) [
      | inl first ↦ subst (λ w. Contains (y ∷ inserted_by key ys x) w) first (Contains-first y (inserted_by key ys x))
      | inr later ↦ Contains-rest y (inserted_by key ys x) z (rest (inr later))
    ]

-- what holds of all items and of one more holds of all with it
pub All-inserted : {X : Type 0} (P : X → Type 0) (key : X → ℕ) (xs : List X) (x : X) → All P xs → P x → All P (inserted_by key xs x)
All-inserted P key xs x all here = All-from_Contains P (inserted_by key xs x)
    (λ z at. elim (Contains-inserted key xs x z at) [ inl same ↦ subst P same here | inr there ↦ All-contains P xs z all there ])

-- Items of one key

-- items of one key stand in an ordered list in the order in which they came
pub filter-inserted : {X : Type 0} (key : X → ℕ) (k : ℕ) (xs : List X) (x : X)
    → filter (λ z. key z == k) (inserted_by key xs x) ≡ filter (λ z. key z == k) xs ++ (if key x == k then x ∷ [] else [])
unfolding inserted_by
filter-inserted {X} key k [] x = go (key x == k)
  where
    go : (b : Bool) → cond b (x ∷ []) [] ≡ [] ++ (if b then x ∷ [] else [])
    go true = refl
    go false = refl
filter-inserted {X} key k (y ∷ ys) x = go (list_any (λ w. nat_le (key w) (key x)) (y ∷ ys)) refl (filter-inserted key k ys x)
  where
    own : X → Bool
    own z = key z == k

    here : List X
    here = if key x == k then x ∷ [] else []

    put : (a : Bool) → filter own (inserted_by key ys x) ≡ filter own ys ++ here
        → cond a (y ∷ filter own (inserted_by key ys x)) (filter own (inserted_by key ys x)) ≡ cond a (y ∷ filter own ys) (filter own ys) ++ here
    put true more = ap (λ (zs : List X). y ∷ zs) more
    put false more = more

    none : (zs : List X) → list_any (λ w. nat_le (key w) (key x)) zs ≡ false → key x ≡ k → filter own zs ≡ []
    none [] h is = refl
    none (z ∷ zs) h is = split (nat_le (key z) (key x)) refl h (λ more. none zs more is)
      where
        split : (a : Bool) → nat_le (key z) (key x) ≡ a → (a || list_any (λ w. nat_le (key w) (key x)) zs) ≡ false
            → (list_any (λ w. nat_le (key w) (key x)) zs ≡ false → filter own zs ≡ []) → cond (key z == k) (z ∷ filter own zs) (filter own zs) ≡ []
        split true at bad rest = absurd (false≢true (sym bad))
        split false at good rest =
            rw (ne_eqb (key z) k (λ same. false≢true (sym at ∙ le-leb (key z) (key x) (let e = same ∙ sym is in omega arith)))) (rest good)

    last : (b : Bool) → (key x == k) ≡ b → list_any (λ w. nat_le (key w) (key x)) (y ∷ ys) ≡ false
        → cond (key x == k) (x ∷ filter own (y ∷ ys)) (filter own (y ∷ ys)) ≡ filter own (y ∷ ys) ++ (if key x == k then x ∷ [] else [])
    last true is any = rw (is, none (y ∷ ys) any (eqb-true (key x) k is)) refl
    last false is any = rw is (sym (append-nil (filter own (y ∷ ys))))

    go : (b : Bool) → list_any (λ w. nat_le (key w) (key x)) (y ∷ ys) ≡ b → filter own (inserted_by key ys x) ≡ filter own ys ++ here
        → filter own (if b then y ∷ inserted_by key ys x else x ∷ y ∷ ys) ≡ filter own (y ∷ ys) ++ here
    go true any more = put (own y) more
    go false any more = last (key x == k) refl any

-- Sessions

-- sessions that ascend from a number do so from a lesser one
ordered-lower : (low less : ℕ) (rs : List Request) → less ≤ low → AreOrdered low rs → AreOrdered less rs
ordered-lower low less [] h ordered = omega arith
ordered-lower low less (r ∷ rs) h ordered = (let first = ordered.0 in omega arith, ordered.1)

-- there are at most 64
pub ordered-length : (low : ℕ) (rs : List Request) → AreOrdered low rs → low + length rs ≤ 64
ordered-length low [] h = omega arith
ordered-length low (r ∷ rs) h = let first = h.0 in let rest = ordered-length (session_by r + 1) rs h.1 in omega arith

-- each is from there on, and below 64
pub ordered-bounds : (low : ℕ) (rs : List Request) (r : Request) → AreOrdered low rs → Contains rs r → (low ≤ session_by r) × (session_by r < 64)
ordered-bounds low [] r h at = absurd (Contains-none r at)
ordered-bounds low (x ∷ rs) r h at = elim (Contains-cases x rs r at) [
  | inl first ↦ (let is = ap session_by first in let low_is = h.0 in let few = ordered-length (session_by x + 1) rs h.1 in (omega arith, omega arith))
  | inr later ↦ (let more = ordered-bounds (session_by x + 1) rs r h.1 later in let low_is = h.0 in (omega arith, more.1))
]

-- and no two are the same
pub ordered-once : (low : ℕ) (rs : List Request) → AreOrdered low rs → EachOnce (map session_by rs)
ordered-once low [] h = EachOnce-nil
ordered-once low (r ∷ rs) h = EachOnce-cons (session_by r) (map session_by rs) (λ at. past rs (session_by r) (session_by r + 1) h.1 (omega arith) at) (ordered-once (session_by r + 1) rs h.1)
  where
    past : (xs : List Request) (n low : ℕ) → AreOrdered low xs → n < low → Contains (map session_by xs) n → ⊥
    past [] n low h less at = Contains-none n at
    past (x ∷ xs) n low h less at = elim (Contains-cases (session_by x) (map session_by xs) n at) [
      | inl same ↦ absurd (let first = h.0 in omega arith)
      | inr later ↦ past xs n (session_by x + 1) h.1 (let first = h.0 in omega arith) later
    ]

-- one more session
pub ordered-inserted : (low : ℕ) (rs : List Request) (r : Request) → AreOrdered low rs → low ≤ session_by r → session_by r < 64
    → ¬ (Contains (map session_by rs) (session_by r)) → AreOrdered low (inserted_by session_by rs r)
unfolding inserted_by
ordered-inserted low [] r h from below new = (from, omega arith)
ordered-inserted low (x ∷ rs) r h from below new = go (list_any (λ z. nat_le (session_by z) (session_by r)) (x ∷ rs)) refl (cases_lt (session_by r) (session_by x))
    (λ up. ordered-inserted (session_by x + 1) rs r h.1 up below (λ at. new (Contains-rest (session_by x) (map session_by rs) (session_by r) at)))
  where
    other : session_by x ≢ session_by r
    other same = new (subst (λ (n : ℕ). Contains (session_by x ∷ map session_by rs) n) same (Contains-first (session_by x) (map session_by rs)))

    past : (ys : List Request) (n : ℕ) → AreOrdered n ys → session_by r < n → list_any (λ z. nat_le (session_by z) (session_by r)) ys ≡ false
    past [] n h less = refl
    past (y ∷ ys) n h less =
        let first = h.0 in
        rw (lt-leb (session_by y) (session_by r) (omega arith)) (past ys (session_by y + 1) h.1 (omega arith))

    go : (b : Bool) → list_any (λ z. nat_le (session_by z) (session_by r)) (x ∷ rs) ≡ b → (session_by r < session_by x) ⊎ (session_by x ≤ session_by r)
        → (session_by x + 1 ≤ session_by r → AreOrdered (session_by x + 1) (inserted_by session_by rs r))
        → AreOrdered low (if b then x ∷ inserted_by session_by rs r else r ∷ x ∷ rs)
    go true any (inr up) rest = (h.0, rest (let ne = other in omega arith))
    go true any (inl down) rest = absurd (false≢true (sym (past (x ∷ rs) (session_by x) (omega arith, h.1) down) ∙ any))
    go false any (inr up) rest = absurd (false≢true (sym any ∙ ap (λ (b : Bool). b || list_any (λ z. nat_le (session_by z) (session_by r)) rs) (le-leb (session_by x) (session_by r) up)))
    go false any (inl down) rest = (from, (omega arith, h.1))

-- a test finds a session
pub any-session : (rs : List Request) (k : ℕ) → list_any (λ x. session_by x == k) rs ≡ true → Contains (map session_by rs) k
any-session [] k h = absurd (false≢true h)
any-session (r ∷ rs) k h = go (session_by r == k) refl h (λ more. any-session rs k more)
  where
    go : (b : Bool) → (session_by r == k) ≡ b → (b || list_any (λ x. session_by x == k) rs) ≡ true → (list_any (λ x. session_by x == k) rs ≡ true → Contains (map session_by rs) k)
        → Contains (session_by r ∷ map session_by rs) k
    go true is any rest = subst (λ (n : ℕ). Contains (session_by r ∷ map session_by rs) n) (eqb-true (session_by r) k is) (Contains-first (session_by r) (map session_by rs))
    go false is any rest = Contains-rest (session_by r) (map session_by rs) k (rest any)

-- and where it finds none, there is none
pub no-session : (rs : List Request) (k : ℕ) → list_any (λ x. session_by x == k) rs ≡ false → ¬ (Contains (map session_by rs) k)
no-session [] k h at = Contains-none k at
no-session (r ∷ rs) k h at = go (session_by r == k) refl h (Contains-cases (session_by r) (map session_by rs) k at) (λ none later. no-session rs k none later)
  where
    go : (b : Bool) → (session_by r == k) ≡ b → (b || list_any (λ x. session_by x == k) rs) ≡ false → (session_by r ≡ k) ⊎ Contains (map session_by rs) k
        → (list_any (λ x. session_by x == k) rs ≡ false → Contains (map session_by rs) k → ⊥) → ⊥
    go true is any at rest = absurd (false≢true (sym any))
    go false is any (inl first) rest = false≢true (sym is ∙ eq-eqb (session_by r) k first)
    go false is any (inr later) rest = rest any later
