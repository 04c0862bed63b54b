-- Rows in tables and in stripes: what a change of one row leaves of the others.
use Rattle.std.proofs.Common.{◌≡◌, ◌≢◌, ℕ, ◌<◌, ◌≤◌, ◌/◌, ◌%◌, List, [], length, get_or, map, set, arith, inl, inr, sym, ap, subst, ◌∙◌, get_or-set_same, get_or-set_other}
use Rattle.std.specs.List.{All}
use Rattle.std.proofs.lemmas.Bool.{cases_eq, cases_lt}
use Rattle.std.proofs.lemmas.List.Elements.{All-set}
use Rattle.std.proofs.lemmas.List.{get_or-map, length-map, length-set, map-set, get_or_read, get_or_past, set_past}
use Rattle.ris_rows.specs.RowView.{RowView}
use Rattle.ris_graph.specs.GraphView.{no_row, row_at}
use Rattle.ris_graph.specs.StripeView.{IsIdle, StripeView}
use Rattle.ris_graph.specs.Tables.{row_of, with_row, HasRow, IsRoomier}

-- Tables of a stripe

-- the row of u stands in the table of its stripe
pub table-row : (t : List (List RowView)) (u : ℕ) (rows : List RowView) → length t ≡ 64 → rows ≡ get_or t (u % 64) rows → row_of t u ≡ row_at rows (u / 64)
unfolding row_of
table-row t u rows size read =
    let lt : u % 64 < length t = omega arith in
    ap (λ (l : List RowView). row_at l (u / 64)) (sym (get_or_read t (u % 64) rows lt read []))

-- what a write of a row in its table makes
pub table-written : (t : List (List RowView)) (u : ℕ) (rows new : List RowView) (r : RowView) → length t ≡ 64 → rows ≡ get_or t (u % 64) rows → new ≡ set rows (u / 64) r
    → set t (u % 64) new ≡ with_row t u r
unfolding with_row
table-written t u rows new r size read is =
    let lt : u % 64 < length t = omega arith in
    ap (set t (u % 64)) (is ∙ ap (λ (l : List RowView). set l (u / 64) r) (get_or_read t (u % 64) rows lt read []))

-- Rows of vertices

pub HasRow-stripe : (t : List (List RowView)) (u : ℕ) → HasRow t u → u % 64 < length t
HasRow-stripe t u has =
    elim (cases_lt (u % 64) (length t)) [ inl lt ↦ lt | inr past ↦ (let none = ap length (get_or_past t (u % 64) [] past) in absurd (omega arith)) ]

pub row_of-same : (t : List (List RowView)) (u : ℕ) (r : RowView) → HasRow t u → row_of (with_row t u r) u ≡ r
unfolding row_of with_row
row_of-same t u r has =
    let lt = HasRow-stripe t u has in
    ap (λ (rows : List RowView). row_at rows (u / 64)) (get_or-set_same t (u % 64) (set (get_or t (u % 64) []) (u / 64) r) [] lt)
    ∙ get_or-set_same (get_or t (u % 64) []) (u / 64) r no_row has

pub row_of-other : (t : List (List RowView)) (u x : ℕ) (r : RowView) → x ≢ u → row_of (with_row t u r) x ≡ row_of t x
unfolding row_of with_row
row_of-other t u x r ne =
    let rows = get_or t (u % 64) [] in
    elim (cases_eq (x % 64) (u % 64)) [
      | inl e ↦ (elim (cases_lt (u % 64) (length t)) [
        | inl lt ↦ (let other : x / 64 ≢ u / 64 = λ q. ne (omega arith) in
            ap (λ k. row_at (get_or (set t (u % 64) (set rows (u / 64) r)) k []) (x / 64)) e
            ∙ ap (λ (l : List RowView). row_at l (x / 64)) (get_or-set_same t (u % 64) (set rows (u / 64) r) [] lt)
            ∙ get_or-set_other rows (u / 64) (x / 64) r no_row other ∙ ap (λ k. row_at (get_or t k []) (x / 64)) (sym e))
        | inr past ↦ ap (λ (l : List (List RowView)). row_at (get_or l (x % 64) []) (x / 64)) (set_past t (u % 64) (set rows (u / 64) r) past)
      ])
      | inr n ↦ ap (λ (l : List RowView). row_at l (x / 64)) (get_or-set_other t (u % 64) (x % 64) (set rows (u / 64) r) [] n)
    ]

pub length-with_row : (t : List (List RowView)) (u : ℕ) (r : RowView) → length (with_row t u r) ≡ length t
unfolding with_row
length-with_row t u r = length-set t (u % 64) (set (get_or t (u % 64) []) (u / 64) r)

pub HasRow-with_row : (t : List (List RowView)) (u x : ℕ) (r : RowView) → HasRow t x → HasRow (with_row t u r) x
unfolding with_row
HasRow-with_row t u x r has =
    let rows = get_or t (u % 64) [] in
    elim (cases_eq (x % 64) (u % 64)) [
      | inl e ↦ (let lt : u % 64 < length t = (let l = HasRow-stripe t x has in omega arith) in
          let same = ap length (ap (λ k. get_or (set t (u % 64) (set rows (u / 64) r)) k []) e ∙ get_or-set_same t (u % 64) (set rows (u / 64) r) [] lt)
          ∙ length-set rows (u / 64) r ∙ ap (λ k. length (get_or t k [])) (sym e) in
          omega arith)
      | inr n ↦ (let same = ap length (get_or-set_other t (u % 64) (x % 64) (set rows (u / 64) r) [] n) in omega arith)
    ]

-- tables that keep their rows and may have more places
pub rows-kept : (old new : List (List RowView)) → ((m k : ℕ) → row_at (get_or new m []) k ≡ row_at (get_or old m []) k) → (u : ℕ) → row_of new u ≡ row_of old u
unfolding row_of
rows-kept old new same u = same (u % 64) (u / 64)

pub rows-longer : (old new : List (List RowView)) → ((m : ℕ) → length (get_or old m []) ≤ length (get_or new m [])) → (u : ℕ) → HasRow old u → HasRow new u
rows-longer old new longer u has = (let more = longer (u % 64) in omega arith)

-- and with another table at n, which keeps its rows
pub set-kept : (t : List (List RowView)) (n : ℕ) (rows new : List RowView) → n < length t → rows ≡ get_or t n rows → ((k : ℕ) → row_at new k ≡ row_at rows k)
    → (m k : ℕ) → row_at (get_or (set t n new) m []) k ≡ row_at (get_or t m []) k
set-kept t n rows new lt read same m k =
    elim (cases_eq m n) [
      | inl e ↦ (let old = get_or_read t n rows lt read [] in
          ap (λ i. row_at (get_or (set t n new) i []) k) e ∙ ap (λ (x : List RowView). row_at x k) (get_or-set_same t n new [] lt)
          ∙ same k ∙ ap (λ (x : List RowView). row_at x k) old ∙ ap (λ i. row_at (get_or t i []) k) (sym e))
      | inr other ↦ ap (λ (x : List RowView). row_at x k) (get_or-set_other t n m new [] other)
    ]

pub set-longer : (t : List (List RowView)) (n : ℕ) (rows new : List RowView) → n < length t → rows ≡ get_or t n rows → length rows ≤ length new
    → (m : ℕ) → length (get_or t m []) ≤ length (get_or (set t n new) m [])
set-longer t n rows new lt read longer m =
    elim (cases_eq m n) [
      | inl e ↦ (let old = ap length (get_or_read t n rows lt read []) in
          let now = ap length (get_or-set_same t n new [] lt) in
          subst (λ i. length (get_or t i []) ≤ length (get_or (set t n new) i [])) (sym e) (omega arith))
      | inr other ↦ (let now = ap length (get_or-set_other t n m new [] other) in omega arith)
    ]

-- tables without rows
pub row_of-none : (t : List (List RowView)) → All (λ rows. rows ≡ []) t → (u : ℕ) → row_of t u ≡ no_row
unfolding row_of
row_of-none t none u =
    elim (cases_lt (u % 64) (length t)) [
      | inl lt ↦ ap (λ (rows : List RowView). row_at rows (u / 64)) (none (u % 64) [] lt)
      | inr past ↦ ap (λ (rows : List RowView). row_at rows (u / 64)) (get_or_past t (u % 64) [] past)
    ]

-- Stripes

-- the rows of stripes
abbrev pub rows_of : List StripeView → List (List RowView)
rows_of ss = map (λ s. s.rows) ss

pub rows-read : (ss : List StripeView) (i : ℕ) (s : StripeView) → i < length ss → s ≡ get_or ss i s → s.rows ≡ get_or (rows_of ss) i s.rows
rows-read ss i s lt read = ap (λ (x : StripeView). x.rows) read ∙ sym (get_or-map (λ (x : StripeView). x.rows) ss i s s.rows lt)

-- the row of u stands in its stripe
pub stripe-row : (ss : List StripeView) (u : ℕ) (s : StripeView) → length ss ≡ 64 → s ≡ get_or ss (u % 64) s → row_of (rows_of ss) u ≡ row_at s.rows (u / 64)
stripe-row ss u s size read =
    table-row (rows_of ss) u s.rows (length-map ss (λ (x : StripeView). x.rows) ∙ size) (rows-read ss (u % 64) s (omega arith) read)

-- what a write of a row in its stripe makes
pub stripe-written : (ss : List StripeView) (u : ℕ) (s new : StripeView) (r : RowView) → length ss ≡ 64 → s ≡ get_or ss (u % 64) s → new.rows ≡ set s.rows (u / 64) r
    → rows_of (set ss (u % 64) new) ≡ with_row (rows_of ss) u r
stripe-written ss u s new r size read is =
    map-set (λ (x : StripeView). x.rows) ss (u % 64) new
    ∙ table-written (rows_of ss) u s.rows new.rows r (length-map ss (λ (x : StripeView). x.rows) ∙ size) (rows-read ss (u % 64) s (omega arith) read) is

-- and where the row is told by the stripe after it
pub stripe-kept : (ss : List StripeView) (u : ℕ) (s new : StripeView) → length ss ≡ 64 → s ≡ get_or ss (u % 64) s → HasRow (rows_of ss) u
    → new.rows ≡ set s.rows (u / 64) (row_at new.rows (u / 64)) → row_of (rows_of (set ss (u % 64) new)) u ≡ row_at new.rows (u / 64)
stripe-kept ss u s new size read has is =
    ap (λ (x : List (List RowView)). row_of x u) (stripe-written ss u s new (row_at new.rows (u / 64)) size read is) ∙ row_of-same (rows_of ss) u (row_at new.rows (u / 64)) has

-- each stripe is idle
pub stripe-idle : (ss : List StripeView) (i : ℕ) (s : StripeView) → length ss ≡ 64 → i < 64 → All IsIdle ss → s ≡ get_or ss i s → IsIdle s
stripe-idle ss i s size lt idle read = subst IsIdle (sym read) (idle i s (omega arith))

pub idle-written : (ss : List StripeView) (i : ℕ) (new : StripeView) → length ss ≡ 64 → All IsIdle ss → IsIdle new → (length (set ss i new) ≡ 64) × All IsIdle (set ss i new)
idle-written ss i new size idle here = (length-set ss i new ∙ size, All-set IsIdle ss i new here idle)

-- the place of a row is one of its stripe's
pub stripe-place : (ss : List StripeView) (u : ℕ) (s : StripeView) → length ss ≡ 64 → s ≡ get_or ss (u % 64) s → HasRow (rows_of ss) u → u / 64 < length s.rows
stripe-place ss u s size read has =
    let lt : u % 64 < length ss = omega arith in
    let same : get_or (rows_of ss) (u % 64) [] ≡ s.rows = get_or-map (λ (x : StripeView). x.rows) ss (u % 64) s [] lt ∙ ap (λ (x : StripeView). x.rows) (sym read) in
    subst (λ (rows : List RowView). u / 64 < length rows) same has

-- stripes with another one at i, which keeps its rows and may have more places
pub stripes-kept : (ss : List StripeView) (i : ℕ) (s new : StripeView) → i < length ss → s ≡ get_or ss i s → ((k : ℕ) → row_at new.rows k ≡ row_at s.rows k)
    → (m k : ℕ) → row_at (get_or (rows_of (set ss i new)) m []) k ≡ row_at (get_or (rows_of ss) m []) k
stripes-kept ss i s new lt read same m k =
    let size = length-map ss (λ (x : StripeView). x.rows) in
    ap (λ (t : List (List RowView)). row_at (get_or t m []) k) (map-set (λ (x : StripeView). x.rows) ss i new)
    ∙ set-kept (rows_of ss) i s.rows new.rows (omega arith) (rows-read ss i s lt read) same m k

pub stripes-longer : (ss : List StripeView) (i : ℕ) (s new : StripeView) → i < length ss → s ≡ get_or ss i s → length s.rows ≤ length new.rows
    → (m : ℕ) → length (get_or (rows_of ss) m []) ≤ length (get_or (rows_of (set ss i new)) m [])
stripes-longer ss i s new lt read longer m =
    let size = length-map ss (λ (x : StripeView). x.rows) in
    subst (λ (t : List (List RowView)). length (get_or (rows_of ss) m []) ≤ length (get_or t m [])) (sym (map-set (λ (x : StripeView). x.rows) ss i new))
    (set-longer (rows_of ss) i s.rows new.rows (omega arith) (rows-read ss i s lt read) longer m)

pub stripe-set : (ss : List StripeView) (i : ℕ) (new : StripeView) → i < length ss → get_or (rows_of (set ss i new)) i [] ≡ new.rows
stripe-set ss i new lt =
    let size = length-map ss (λ (x : StripeView). x.rows) in
    ap (λ (t : List (List RowView)). get_or t i []) (map-set (λ (x : StripeView). x.rows) ss i new) ∙ get_or-set_same (rows_of ss) i new.rows [] (omega arith)

-- Room

-- the rows of a graph where the row of one vertex has more room
pub roomier : (old new : List (List RowView)) (u : ℕ) → new ≡ with_row old u (row_of new u) → IsRoomier (row_of old u) (row_of new u) → (x : ℕ) → IsRoomier (row_of old x) (row_of new x)
roomier old new u is more x =
    elim (cases_eq x u) [
      | inl same ↦ subst (λ i. IsRoomier (row_of old i) (row_of new i)) (sym same) more
      | inr other ↦ (let kept = ap (λ (t : List (List RowView)). row_of t x) is ∙ row_of-other old u x (row_of new u) other in
          record { items = ap (λ (r : RowView). r.items) kept; spare = (let e = ap (λ (r : RowView). r.spare) kept in omega arith) })
    ]

pub roomier-table : (old new : List RowView) (v : ℕ) → new ≡ set old v (row_at new v) → IsRoomier (row_at old v) (row_at new v) → (x : ℕ) → IsRoomier (row_at old x) (row_at new x)
roomier-table old new v is more x =
    elim (cases_eq x v) [
      | inl same ↦ subst (λ i. IsRoomier (row_at old i) (row_at new i)) (sym same) more
      | inr other ↦ (let kept = ap (λ (t : List RowView). row_at t x) is ∙ get_or-set_other old v x (row_at new v) no_row other in
          record { items = ap (λ (r : RowView). r.items) kept; spare = (let e = ap (λ (r : RowView). r.spare) kept in omega arith) })
    ]
