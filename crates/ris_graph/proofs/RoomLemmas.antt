-- The room that a net asks for: ranks in an ascending list, and tables that grow.
use Rattle.std.proofs.Common.{◌≡◌, ◌≢◌, ℕ, nat_lt, suc, ◌+◌, ◌-◌, ◌<◌, ◌≤◌, Bool, true, false, ◌==◌, ◌&&◌, cond, List, [], ◌∷◌, ◌++◌, length, get_or, take, drop, replicate, arith, refl, inl, inr, sym, ap, subst, ◌∙◌, add-zero}
use Rattle.std.specs.List.{All, count_by}
use Rattle.std.proofs.lemmas.Bool.{cases_lt, cases_eq, cases_Bool, ne_eqb, eq-eqb, eqb-true, and_parts, ltb-true}
use Rattle.std.proofs.lemmas.List.{take-append-drop, take-take, length-take-le, length-drop, get_or-take, get_or_past, get_or_append_left, get_or-append_right, get_or-replicate, length-replicate}
use Rattle.std.proofs.lemmas.List.Sums.{sum_by-cons, sum_by-append, sum_by_push, sum_by_more, count_by-le-length, get_or-le-sum_by}
use Rattle.ris_base.specs.Limits.{vertex_limit}
use Rattle.ris_rows.specs.RowView.{RowView}
use Rattle.ris_graph.specs.GraphView.{GraphView, row_at, out_row, in_row, vertex_in, HasRoomOf}
use Rattle.ris_graph.specs.Nets.{comes}
use Rattle.ris_graph.specs.Sound.{IsSized, IsSound}
use Rattle.ris_graph.specs.Tables.{row_of, HasRow, IsRoomier, end_of}
use Rattle.ris_graph.specs.declared.nets.NetTriple.{NetTriple}
use Rattle.ris_graph.proofs.GraphLemmas.{IsSound-room}

-- Ranks

pub count_by-none : {X : Type 0} (p : X → Bool) (xs : List X) → All (λ x. p x ≡ false) xs → count_by p xs ≡ 0
count_by-none p [] h = refl
count_by-none {X} p (x ∷ xs) h =
    let first : ◌≡◌ {A = ℕ} (cond (p x) 1 0) 0 = rw (h 0 x (omega arith)) refl in
    let rest = count_by-none p xs (λ k d lt. h (suc k) d (omega arith)) in
    let whole = sum_by-cons (λ (y : X). cond (p y) 1 0) x xs in
    omega arith

-- the equal numbers up to a place don't stand before those that are lower
pub count_by-behind : (xs : List ℕ) (end first n : ℕ) → first ≤ n → n ≤ length xs → ((i d : ℕ) → i < first → get_or xs i d < end)
    → count_by (λ y. y == end) (take n xs) ≤ n - first
count_by-behind xs end first n le within low =
    let p = λ (y : ℕ). y == end in
    let front = take-take first n xs le in
    let size = length-take-le n xs within in
    let short = length-take-le first xs (omega arith) in
    let none = count_by-none p (take first xs) (λ k d lt. ne_eqb (get_or (take first xs) k d) end (λ same. (
    let before = low k d (omega arith) in
    let read = get_or-take first xs k d (omega arith) in
    omega arith))) in
    let rest = count_by-le-length p (drop first (take n xs)) in
    let left = length-drop first (take n xs) in
    let whole : count_by p (take n xs) ≡ count_by p (take first (take n xs)) + count_by p (drop first (take n xs))
    = ap (count_by p) (sym (take-append-drop first (take n xs))) ∙ sum_by-append (λ (y : ℕ). cond (p y) 1 0) (take first (take n xs)) (drop first (take n xs)) in
    let zero : count_by p (take first (take n xs)) ≡ 0 = ap (count_by p) front ∙ none in
    omega arith

-- one number more is counted
pub count_by-step : (xs : List ℕ) (k x : ℕ) → k < length xs
    → count_by (λ y. y == x) (take (k + 1) xs) ≡ count_by (λ y. y == x) (take k xs) + cond (get_or xs k 0 == x) 1 0
count_by-step xs k x lt = sum_by_more (λ (y : ℕ). cond (y == x) 1 0) xs k 0 lt

-- one triple of a net more, by the ends of those that come
pub count_by-end : (out : Bool) (ts : List NetTriple) (k : ℕ) (t : NetTriple) (ends more : List ℕ) (x : ℕ) → k < length ts → get_or ts k t ≡ t
    → more ≡ cond (comes t) (ends ++ end_of out t ∷ []) ends
    → count_by (λ y. y == x) ends ≡ count_by (λ s. (end_of out s == x) && comes s) (take k ts)
    → count_by (λ y. y == x) more ≡ count_by (λ s. (end_of out s == x) && comes s) (take (k + 1) ts)
count_by-end out ts k t ends more x lt read is before =
    let next : count_by (λ s. (end_of out s == x) && comes s) (take (k + 1) ts) ≡ count_by (λ s. (end_of out s == x) && comes s) (take k ts) + cond ((end_of out t == x) && comes t) 1 0
    = rw read at (sum_by_more (λ (s : NetTriple). cond ((end_of out s == x) && comes s) 1 0) ts k t lt) in
    elim (cases_Bool (comes t)) [
      | inl came ↦ (let pushed : more ≡ ends ++ end_of out t ∷ [] = rw came at is in
          let one : count_by (λ y. y == x) (ends ++ end_of out t ∷ []) ≡ count_by (λ y. y == x) ends + cond (end_of out t == x) 1 0 = sum_by_push (λ (y : ℕ). cond (y == x) 1 0) ends (end_of out t) in
          let test : ((end_of out t == x) && comes t) ≡ (end_of out t == x) = rw came (and_itself (end_of out t == x)) in
          ap (count_by (λ y. y == x)) pushed ∙ one ∙ ap (λ n. n + cond (end_of out t == x) 1 0) before
          ∙ sym (next ∙ ap (λ b. count_by (λ s. (end_of out s == x) && comes s) (take k ts) + cond b 1 0) test))
      | inr stays ↦ (let same : more ≡ ends = rw stays at is in
          let test : ((end_of out t == x) && comes t) ≡ false = rw stays (and_nothing (end_of out t == x)) in
          ap (count_by (λ y. y == x)) same ∙ before
          ∙ sym (next ∙ ap (λ b. count_by (λ s. (end_of out s == x) && comes s) (take k ts) + cond b 1 0) test ∙ add-zero _))
    ]
  where
    and_itself : (b : Bool) → (b && true) ≡ b
    and_itself true = refl
    and_itself false = refl

    and_nothing : (b : Bool) → (b && false) ≡ false
    and_nothing true = refl
    and_nothing false = refl

-- what is counted stands in the list
pub counted-listed : {X : Type 0} (p : X → Bool) (xs : List X) → 0 < count_by p xs → (k : ℕ) × (x : X) × (k < length xs) × (get_or xs k x ≡ x) × (p x ≡ true)
counted-listed p [] h = absurd (omega arith)
counted-listed {X} p (x ∷ xs) h =
    elim (cases_Bool (p x)) [
      | inl e ↦ (0, x, omega arith, refl, e)
      | inr e ↦ (let whole = sum_by-cons (λ (y : X). cond (p y) 1 0) x xs in
          let none : ◌≡◌ {A = ℕ} (cond (p x) 1 0) 0 = rw e refl in
          let rest = counted-listed p xs (omega arith) in
          (suc rest.0, rest.1, (let lt = rest.2 in omega arith), rest.3, rest.4))
    ]

-- a number of a list is counted
pub listed-counted : (xs : List ℕ) (k d : ℕ) → k < length xs → 0 < count_by (λ y. y == get_or xs k d) xs
listed-counted xs k d lt =
    let p = λ (y : ℕ). y == get_or xs k d in
    let most = get_or-le-sum_by (λ (y : ℕ). cond (p y) 1 0) xs k d lt in
    let one : ◌≡◌ {A = ℕ} (cond (p (get_or xs k d)) 1 0) 1 = rw (eq-eqb (get_or xs k d) (get_or xs k d) refl) refl in
    omega arith

-- Rows that get room one after another

pub IsRoomier-trans : (a b c : RowView) → IsRoomier a b → IsRoomier b c → IsRoomier a c
IsRoomier-trans a b c x y = record { items = y.items ∙ x.items; spare = (let m = x.spare in let n = y.spare in omega arith) }

-- the room of a row reaches as far as its number was counted
pub room-step : (xs : List ℕ) (k u r : ℕ) (old new : List (List RowView)) → k < length xs → count_by (λ y. y == get_or xs k 0) (take (k + 1) xs) ≤ r
    → r ≤ (row_of new (get_or xs k 0)).spare → ((x : ℕ) → IsRoomier (row_of old x) (row_of new x))
    → count_by (λ y. y == u) (take k xs) ≤ (row_of old u).spare → count_by (λ y. y == u) (take (k + 1) xs) ≤ (row_of new u).spare
room-step xs k u r old new lt most room more before =
    elim (cases_eq u (get_or xs k 0)) [
      | inl same ↦ subst (λ x. count_by (λ y. y == x) (take (k + 1) xs) ≤ (row_of new x).spare) (sym same) (omega arith)
      | inr other ↦ (let next = count_by-step xs k u lt in
          let none : ◌≡◌ {A = ℕ} (cond (get_or xs k 0 == u) 1 0) 0 = rw (ne_eqb (get_or xs k 0) u (λ e. other (sym e))) refl in
          let spare = (more u).spare in
          omega arith)
    ]

-- Tables

-- a graph with the same rows, in tables that are at least as long
pub record IsGrown (g h : GraphView) : Type 0 where
  pub format : h.format ≡ g.format
  pub stripes : length h.stripes ≡ length g.stripes
  pub out_rows : (u : ℕ) → row_of h.stripes u ≡ row_of g.stripes u
  pub in_rows : (v : ℕ) → row_at h.ins v ≡ row_at g.ins v
  pub present : (x : ℕ) → get_or h.present x false ≡ get_or g.present x false
  pub longer : length g.present ≤ length h.present
  pub outs : (u : ℕ) → u < length h.present → HasRow h.stripes u
  pub ins : length h.present ≤ length h.ins
  pub few : length h.present ≤ vertex_limit

pub HasRoomOf-grown : (g h : GraphView) → IsGrown g h → HasRoomOf g h
unfolding out_row in_row vertex_in row_of
HasRoomOf-grown g h grown = record {
  format = grown.format;
  tables = grown.longer;
  vertices = grown.present;
  outs = λ u. ap (λ (r : RowView). r.items) (grown.out_rows u);
  ins = λ v. ap (λ (r : RowView). r.items) (grown.in_rows v);
  out_room = λ u. (let e = ap (λ (r : RowView). r.spare) (grown.out_rows u) in omega arith);
  in_room = λ v. (let e = ap (λ (r : RowView). r.spare) (grown.in_rows v) in omega arith);
}

pub IsSound-grown : (g h : GraphView) → IsGrown g h → IsSound g → IsSound h
IsSound-grown g h grown sound =
    let sized : IsSized h = record { stripes = grown.stripes ∙ sound.sized.stripes; outs = grown.outs; ins = grown.ins; few = grown.few } in
    IsSound-room g h sized (HasRoomOf-grown g h grown) sound

-- more places that no vertex has
pub get_or-padded : (xs : List Bool) (n x : ℕ) → get_or (xs ++ replicate n false) x false ≡ get_or xs x false
get_or-padded xs n x =
    elim (cases_lt x (length xs)) [
      | inl lt ↦ get_or_append_left xs (replicate n false) false x lt
      | inr past ↦ get_or-append_right xs (replicate n false) (length xs) x false refl past ∙ pad n (x - length xs) ∙ sym (get_or_past xs x false past)
    ]
  where
    pad : (n i : ℕ) → get_or (replicate n false) i false ≡ false
    pad n i = elim (cases_lt i n) [
      | inl lt ↦ get_or-replicate n i false false lt
      | inr past ↦ get_or_past (replicate n false) i false (omega (arith, length-replicate n false))
    ]

-- the ends that were collected have what the triples that come give them
pub All-coming : (out : Bool) (ts : List NetTriple) (ends : List ℕ) (P : ℕ → Type 0)
    → ((x : ℕ) → count_by (λ y. y == x) ends ≡ count_by (λ t. (end_of out t == x) && comes t) ts)
    → ((k : ℕ) (t : NetTriple) → k < length ts → get_or ts k t ≡ t → t.before ≢ t.after → P (end_of out t)) → All P ends
All-coming out ts ends P counts given k d lt =
    let some = listed-counted ends k d lt in
    let same = counts (get_or ends k d) in
    let found = counted-listed (λ t. (end_of out t == get_or ends k d) && comes t) ts (omega arith) in
    let passes = and_parts (end_of out found.1 == get_or ends k d) (comes found.1) found.4 in
    let came = and_parts (found.1.before == 0) (nat_lt 0 found.1.after) passes.1 in
    let none = eqb-true found.1.before 0 came.0 in
    let more = ltb-true 0 found.1.after came.1 in
    subst P (eqb-true (end_of out found.1) (get_or ends k d) passes.0) (given found.0 found.1 found.2 found.3 (λ e. absurd (omega arith)))
