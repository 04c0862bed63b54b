-- Changes that are put into their chains, and taken back.
use Rattle.std.proofs.Common.{◌≡◌, ℕ, zero, suc, ◌+◌, ◌-◌, ◌*◌, ◌<◌, ◌≤◌, max, ◌&&◌, Bool, true, false, cond, if◌then◌else◌, List, [], ◌∷◌, ◌++◌, length, get_or, set, take, map, Some, arith, refl, inl, inr, sym, ap, ◌∙◌, append_assoc, add-one}
use Rattle.std.specs.Prelude.{nat_lt, fold, Result, Ok, Err, is_ok, OnOk, OnErr}
use Rattle.std.specs.Ordering.{ord_max, nat_cmp}
use Rattle.std.proofs.lemmas.Bool.Decides.{nat_tests}
use Rattle.std.specs.List.{slice_get, filter}
use Rattle.std.proofs.lemmas.Bool.{cases_lt, and_parts, ltb-true}
use Rattle.std.proofs.Math.Seq.{take-append_seam}
use Rattle.std.proofs.lemmas.List.{append-nil, length-append, length-set, get_or-set_same, set-get_or, map-append}
use Rattle.std.proofs.lemmas.List.Elements.{filter-append}
use Rattle.std.proofs.lemmas.List.Sums.{fold-append}
use Rattle.std.proofs.Math.Nat.{mul-le-mul_right}
use Rattle.ris_base.specs.declared.records.Change.{Change}
use Rattle.ris_history.specs.Applied.{moved_by}
use Rattle.ris_history.specs.declared.moves.Moved.{Moved}
use Rattle.ris_history.specs.Chains.{HeldView, ChainView, no_chain, pushed, chain_at, grown, appended, number, is_taken, needed, bound_of, change_held, with_first, with_change, with_changes}
use Rattle.ris_history.specs.Sound.{AllEndBy, with_due, with_dues}
use Rattle.ris_history.specs.declared.trims.Due.{Due}
use Rattle.ris_history.proofs.ChainLemmas.{length-appended, length-grown, AllEndBy-appended}

-- Lists

-- a fold over one item more
pub fold-push : {A B : Type 0} (f : B → A → B) (b : B) (xs : List A) (x : A) → fold f b (xs ++ x ∷ []) ≡ f (fold f b xs) x
fold-push f b xs x = fold-append f b xs (x ∷ [])

-- the first items, with the next one
pub take-next : {X : Type 0} (xs : List X) (k : ℕ) (x : X) → slice_get xs k ≡ Some x → take (k + 1) xs ≡ take k xs ++ x ∷ []
take-next [] k x h = absurd (cc)
take-next (y ∷ xs) zero x h = let same : y ≡ x = cc in ap (λ z. z ∷ []) same
take-next (y ∷ xs) (suc k) x h = let more = take-next xs k x h in rw add-one (ap (λ zs. y ∷ zs) (rw add-one at more))

-- Numbers of chains

-- the number of a chain of n analyses is below that of the next vertex
pub number-below : (n a x : ℕ) → a < n → number n a x < (x + 1) * n
number-below n a x h = omega arith

pub number-bound : (n a x m : ℕ) → a < n → x < m → number n a x < m * n
number-bound n a x m h l = let step : x + 1 ≤ m = omega arith in let below = number-below n a x h in let up = mul-le-mul_right n step in omega arith

-- two numbers are the same for one vertex and analysis alone
pub number-same : (n a x b y : ℕ) → a < n → b < n → number n a x ≡ number n b y → (a ≡ b) × (x ≡ y)
number-same n a x b y ha hb same = elim (cases_lt x y) [
  | inl less ↦ absurd (apart a x b y ha less same)
  | inr le ↦ elim (cases_lt y x) [
    | inl less ↦ absurd (apart b y a x hb less (sym same))
    | inr ge ↦ (let e : x ≡ y = omega arith in let p : x * n ≡ y * n = ap (λ k. k * n) e in (omega arith, e))
  ]
]
  where
    apart : (c u d w : ℕ) → c < n → u < w → ¬ (number n c u ≡ number n d w)
    apart c u d w hc less e =
        let step : u + 1 ≤ w = omega arith in let below = number-below n c u hc in let up = mul-le-mul_right n step in absurd (omega arith)

-- What changes need

needed-more : (n m : ℕ) (ds : List Change) → m ≤ fold (needed n) m ds
needed-more n m [] = omega arith
needed-more n m (d ∷ ds) = let more = needed-more n (needed n m d) ds in let one : m ≤ needed n m d = step (is_taken n d) in omega arith
  where
    step : (t : Bool) → m ≤ (if t then max m (number n d.analysis d.vertex + 1) else m)
    step true = omega arith
    step false = omega arith

needed-at : (n m : ℕ) (ds : List Change) (k : ℕ) (d : Change) → slice_get ds k ≡ Some d → is_taken n d ≡ true → number n d.analysis d.vertex < fold (needed n) m ds
needed-at n m [] k d h t = absurd (cc)
needed-at n m (c ∷ ds) zero d h t =
    let same : c ≡ d = cc in
    let more = needed-more n (needed n m c) ds in
    let one : needed n m c ≡ max m (number n d.analysis d.vertex + 1) = ap (needed n m) same ∙ rw t refl in
    omega arith
needed-at n m (c ∷ ds) (suc k) d h t = needed-at n (needed n m c) ds k d h t

-- the chain of a change that is taken is among those that the changes need
pub bound_of-at : (n : ℕ) (ds : List Change) (k : ℕ) (d : Change) → slice_get ds k ≡ Some d → is_taken n d ≡ true → number n d.analysis d.vertex < bound_of n ds
bound_of-at n ds k d h t = needed-at n 0 ds k d h t

-- one change more
pub with_changes-next : (n p : ℕ) (cs : List ChainView) (ds : List Change) (k : ℕ) (d : Change) → slice_get ds k ≡ Some d
    → with_changes n p cs (take (k + 1) ds) ≡ with_change n p (with_changes n p cs (take k ds)) d
with_changes-next n p cs ds k d h = ap (with_changes n p cs) (take-next ds k d h) ∙ fold-push (with_change n p) cs (take k ds) d

pub length-with_change : (n p : ℕ) (cs : List ChainView) (d : Change) → length (with_change n p cs d) ≡ length cs
length-with_change n p cs d = go (is_taken n d)
  where
    go : (t : Bool) → length (if t then appended (number n d.analysis d.vertex) (change_held p d) cs else cs) ≡ length cs
    go true = length-appended (number n d.analysis d.vertex) (change_held p d) cs
    go false = refl

pub length-with_changes : (n p : ℕ) (cs : List ChainView) (ds : List Change) → length (with_changes n p cs ds) ≡ length cs
length-with_changes n p cs [] = refl
length-with_changes n p cs (d ∷ ds) = length-with_changes n p (with_change n p cs d) ds ∙ length-with_change n p cs d

-- Taking back

-- a list of one item more that loses it
take-front : {X : Type 0} (xs : List X) (x : X) → take (length (xs ++ x ∷ []) - 1) (xs ++ x ∷ []) ≡ xs
take-front xs x =
    let size = length-append xs (x ∷ []) in
    let e : length (xs ++ x ∷ []) - 1 ≡ length xs = omega arith in
    ap (λ n. take n (xs ++ x ∷ [])) e ∙ take-append_seam xs (x ∷ [])

unpushed : (held : HeldView) (c : ChainView)
    → (let y : ChainView = record c { later = take (length (c.later ++ held ∷ []) - 1) (c.later ++ held ∷ []) } in y) ≡ c
unpushed held c = ap (λ (items : List HeldView). let y : ChainView = record c { later = items } in y) (take-front c.later held)

-- the second write of a place counts
set-again : {X : Type 0} (xs : List X) (k : ℕ) (a b : X) → set (set xs k a) k b ≡ set xs k b
set-again [] k a b = refl
set-again (x ∷ xs) zero a b = refl
set-again (x ∷ xs) (suc k) a b = ap (λ ys. x ∷ ys) (set-again xs k a b)

-- a chain that loses its last change is as it was before
pub appended-popped : (cs old : List ChainView) (k : ℕ) (held : HeldView) (c popped : ChainView) → old ≡ appended k held cs → k < length old → c ≡ get_or old k c
    → popped ≡ record c { later = take (length c.later - 1) c.later } → set old k popped ≡ cs
appended-popped cs old k held c popped is l read pop =
    let size = length-appended k held cs in
    let all = ap length is in
    let was : c ≡ pushed held (chain_at cs k) = read ∙ ap (λ (xs : List ChainView). get_or xs k c) is ∙ get_or-set_same cs k (pushed held (chain_at cs k)) c (omega arith) in
    let back : popped ≡ chain_at cs k = pop ∙ ap (λ (x : ChainView). let y : ChainView = record x { later = take (length x.later - 1) x.later } in y) was ∙ unpushed held (chain_at cs k) in
    ap (λ (xs : List ChainView). set xs k popped) is ∙ set-again cs k (pushed held (chain_at cs k)) popped ∙ ap (set cs k) back ∙ set-get_or cs k no_chain

-- Steps of loops over changes

pub needed-taken : (n m : ℕ) (d : Change) → is_taken n d ≡ true → needed n m d ≡ max m (number n d.analysis d.vertex + 1)
needed-taken n m d h = rw h refl

pub needed-left : (n m : ℕ) (d : Change) → is_taken n d ≡ false → needed n m d ≡ m
needed-left n m d h = rw h refl

pub bound_of-next : (n : ℕ) (ds : List Change) (k : ℕ) (d : Change) → slice_get ds k ≡ Some d
    → bound_of n (take (k + 1) ds) ≡ needed n (bound_of n (take k ds)) d
bound_of-next n ds k d h = ap (bound_of n) (take-next ds k d h) ∙ fold-push (needed n) 0 (take k ds) d

pub with_change-taken : (n p : ℕ) (cs : List ChainView) (d : Change) → is_taken n d ≡ true
    → with_change n p cs d ≡ appended (number n d.analysis d.vertex) (change_held p d) cs
with_change-taken n p cs d h = rw h refl

pub with_change-left : (n p : ℕ) (cs : List ChainView) (d : Change) → is_taken n d ≡ false → with_change n p cs d ≡ cs
with_change-left n p cs d h = rw h refl

-- one step of taking back: a change that was taken loses its item, and another leaves the chains
pub back-taken : (n p k : ℕ) (before cs : List ChainView) (ds : List Change) (d : Change) (c popped : ChainView) → slice_get ds k ≡ Some d → is_taken n d ≡ true
    → cs ≡ with_changes n p before (take (k + 1) ds) → number n d.analysis d.vertex < length cs → c ≡ get_or cs (number n d.analysis d.vertex) c
    → popped ≡ record c { later = take (length c.later - 1) c.later } → set cs (number n d.analysis d.vertex) popped ≡ with_changes n p before (take k ds)
back-taken n p k before cs ds d c popped at taken is l read pop =
    appended-popped (with_changes n p before (take k ds)) cs (number n d.analysis d.vertex) (change_held p d) c popped
    (is ∙ with_changes-next n p before ds k d at ∙ with_change-taken n p (with_changes n p before (take k ds)) d taken) l read pop

pub back-left : (n p k : ℕ) (before cs : List ChainView) (ds : List Change) (d : Change) → slice_get ds k ≡ Some d → is_taken n d ≡ false
    → cs ≡ with_changes n p before (take (k + 1) ds) → cs ≡ with_changes n p before (take k ds)
back-left n p k before cs ds d at left is =
    is ∙ with_changes-next n p before ds k d at ∙ with_change-left n p (with_changes n p before (take k ds)) d left

-- the vertices that one change more moves
pub moved_by-next : (n : ℕ) (ds : List Change) (k : ℕ) (d : Change) → slice_get ds k ≡ Some d
    → moved_by n (take (k + 1) ds) ≡ moved_by n (take k ds) ++ moved_by n (d ∷ [])
moved_by-next n ds k d h =
    let test = λ (c : Change). is_taken n c && c.moved in
    let name = λ (c : Change). let m : Moved = record { analysis = c.analysis; vertex = c.vertex } in m in
    ap (moved_by n) (take-next ds k d h) ∙ ap (map name) (filter-append test (take k ds) (d ∷ [])) ∙ map-append name (filter test (take k ds)) (filter test (d ∷ []))

pub moved_by-one : (n : ℕ) (d : Change) → is_taken n d ≡ true → d.moved ≡ true → moved_by n (d ∷ []) ≡ record { analysis = d.analysis; vertex = d.vertex } ∷ []
moved_by-one n d taken moved = rw (taken, moved) refl

pub moved_by-left : (n : ℕ) (d : Change) → is_taken n d ≡ false → moved_by n (d ∷ []) ≡ []
moved_by-left n d left = rw left refl

pub moved_by-still : (n : ℕ) (d : Change) → d.moved ≡ false → moved_by n (d ∷ []) ≡ []
moved_by-still n d still = go (is_taken n d)
  where
    go : (t : Bool) → (let xs : List Moved = map (λ c. record { analysis = c.analysis; vertex = c.vertex }) (cond (t && d.moved) (d ∷ []) []) in xs) ≡ []
    go true = rw still refl
    go false = refl

-- the greater of two unsigned numbers
pub ord_max-nat : (a b : ℕ) → ord_max nat_cmp a b ≡ max a b
ord_max-nat a b = grind (arith, nat_tests)

pub AllEndBy-with_change : (n p m : ℕ) (cs : List ChainView) (d : Change) → p ≤ m → AllEndBy m cs → AllEndBy m (with_change n p cs d)
AllEndBy-with_change n p m cs d l h = go (is_taken n d)
  where
    go : (t : Bool) → AllEndBy m (if t then appended (number n d.analysis d.vertex) (change_held p d) cs else cs)
    go true = AllEndBy-appended m (number n d.analysis d.vertex) (change_held p d) cs l h
    go false = h

-- the dues of one change more
pub with_dues-next : (n p : ℕ) (dues : List Due) (ds : List Change) (k : ℕ) (d : Change) → slice_get ds k ≡ Some d
    → with_dues n p dues (take (k + 1) ds) ≡ with_due n p (with_dues n p dues (take k ds)) d
with_dues-next n p dues ds k d h = ap (with_dues n p dues) (take-next ds k d h) ∙ fold-push (with_due n p) dues (take k ds) d

-- the dues stand behind those that there were
with_due-front : (n p : ℕ) (dues more : List Due) (d : Change) → with_due n p (dues ++ more) d ≡ dues ++ with_due n p more d
with_due-front n p dues more d = go (is_taken n d)
  where
    due : Due
    due = record { place = p; chain = number n d.analysis d.vertex }

    go : (t : Bool) → (if t then (dues ++ more) ++ due ∷ [] else dues ++ more) ≡ dues ++ (if t then more ++ due ∷ [] else more)
    go true = append_assoc dues more (due ∷ [])
    go false = refl

pub with_dues-front : (n p : ℕ) (dues more : List Due) (ds : List Change) → with_dues n p (dues ++ more) ds ≡ dues ++ with_dues n p more ds
with_dues-front n p dues more [] = refl
with_dues-front n p dues more (d ∷ ds) =
    ap (λ (qs : List Due). with_dues n p qs ds) (with_due-front n p dues more d) ∙ with_dues-front n p dues (with_due n p more d) ds

-- without the last dues there are those that there were
pub with_dues-taken_back : (n p : ℕ) (dues : List Due) (ds : List Change) → take (length dues) (with_dues n p dues ds) ≡ dues
with_dues-taken_back n p dues ds =
    ap (take (length dues)) (ap (λ (qs : List Due). with_dues n p qs ds) (sym (append-nil dues)) ∙ with_dues-front n p dues [] ds)
    ∙ take-append_seam dues (with_dues n p [] ds)

-- what holds where a call isn't an error, and where it is
pub on_ok : {T E : Type 0} (r : Result T E) (P : Type 0) → is_ok r ≡ true → OnOk r P → P
on_ok (Ok _) P h p = p
on_ok (Err _) P h p = cc

pub on_err : {T E : Type 0} (r : Result T E) (P : Type 0) → is_ok r ≡ false → OnErr r P → P
on_err (Ok _) P h p = cc
on_err (Err _) P h p = p

-- Rows of forests

pub slice_get_some : {X : Type 0} (xs : List X) (k : ℕ) → k < length xs → (x : X) × (slice_get xs k ≡ Some x)
slice_get_some [] k h = absurd (omega arith)
slice_get_some (x ∷ xs) zero h = (x, refl)
slice_get_some (x ∷ xs) (suc k) h = slice_get_some xs k (omega arith)

-- how many chains there are where one more begins with a row
pub length-with_first : (k : ℕ) (held : HeldView) (cs : List ChainView) → length (with_first k held cs) ≡ length cs + (k + 1 - length cs)
length-with_first k held cs = length-set (grown (k + 1) cs) k (record { first = held; later = [] }) ∙ length-grown (k + 1) cs

-- the changes need no more chains than there are vertex numbers
bounded : (n m : ℕ) (ds : List Change) → m ≤ 4294967296 * n → fold (needed n) m ds ≤ 4294967296 * n
bounded n m [] h = h
bounded n m (d ∷ ds) h = bounded n (needed n m d) ds (go (is_taken n d) refl)
  where
    go : (t : Bool) → is_taken n d ≡ t → (if t then max m (number n d.analysis d.vertex + 1) else m) ≤ 4294967296 * n
    go false e = h
    go true e =
        let parts = and_parts (nat_lt d.analysis n) (nat_lt d.vertex 4194304) e in
        let low = number-bound n d.analysis d.vertex 4194304 (ltb-true d.analysis n parts.0) (ltb-true d.vertex 4194304 parts.1) in
        omega arith

pub bound_of-small : (n : ℕ) (ds : List Change) → bound_of n ds ≤ 4294967296 * n
bound_of-small n ds = bounded n 0 ds (omega arith)

-- there is no more than one due for each change
pub with_dues-few : (n p : ℕ) (dues : List Due) (ds : List Change) → length (with_dues n p dues ds) ≤ length dues + length ds
with_dues-few n p dues [] = omega arith
with_dues-few n p dues (d ∷ ds) = let more = with_dues-few n p (with_due n p dues d) ds in let one = go (is_taken n d) in omega arith
  where
    due : Due
    due = record { place = p; chain = number n d.analysis d.vertex }

    go : (t : Bool) → length (if t then dues ++ due ∷ [] else dues) ≤ length dues + 1
    go true = let e = length-append dues (due ∷ []) in omega arith
    go false = omega arith

-- nor is one lost
pub with_dues-many : (n p : ℕ) (dues : List Due) (ds : List Change) → length dues ≤ length (with_dues n p dues ds)
with_dues-many n p dues ds =
    let more = ap length (ap (λ (qs : List Due). with_dues n p qs ds) (sym (append-nil dues)) ∙ with_dues-front n p dues [] ds) in
    let joined = length-append dues (with_dues n p [] ds) in
    omega arith

-- all items are among the first as many
pub take-length : {X : Type 0} (k : ℕ) (xs : List X) → length xs ≤ k → take k xs ≡ xs
take-length zero [] h = refl
take-length zero (x ∷ xs) h = absurd (omega arith)
take-length (suc k) [] h = refl
take-length (suc k) (x ∷ xs) h = ap (λ ys. x ∷ ys) (take-length k xs (omega arith))
