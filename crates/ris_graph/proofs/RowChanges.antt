-- What another number of copies in one row leaves of all rows of a table.
use Rattle.std.proofs.Common.{◌≡◌, ℕ, ◌+◌, ◌-◌, ◌<◌, ◌≤◌, ◌&&◌, ◌==◌, nat_lt, if◌then◌else◌, List, length, set, arith, inl, inr, sym, ap, subst, ◌∙◌, get_or-set_same, get_or-set_other}
use Rattle.std.proofs.lemmas.Bool.{cases_eq, eq-eqb, ne_eqb}
use Rattle.std.proofs.lemmas.Bool.Decides.{nat_tests}
use Rattle.ris_rows.specs.Neighbours.{IsAscending, copies_of, counted}
use Rattle.ris_rows.specs.RowView.{RowView, with_count}
use Rattle.ris_rows.proofs.Changes.{copies_of-counted, IsAscending-counted, length-counted}
use Rattle.ris_graph.specs.GraphView.{no_row, row_at}
use Rattle.ris_graph.specs.Putting.{IsPut}
use Rattle.ris_graph.specs.Tables.{row_of, with_row, HasRow}
use Rattle.ris_graph.proofs.TableLemmas.{row_of-same, row_of-other}

pub IsPut-outs : (t : List (List RowView)) (u e w k : ℕ) → HasRow t u → IsPut (row_of t) (row_of (with_row t u (with_count (row_of t u) e w k))) u e w k
IsPut-outs t u e w k has = record { here = row_of-same t u (with_count (row_of t u) e w k) has; others = λ x ne. row_of-other t u x (with_count (row_of t u) e w k) ne }

pub IsPut-table : (rows : List RowView) (v e w k : ℕ) → v < length rows → IsPut (row_at rows) (row_at (set rows v (with_count (row_at rows v) e w k))) v e w k
IsPut-table rows v e w k lt = record {
  here = get_or-set_same rows v (with_count (row_at rows v) e w k) no_row lt;
  others = λ x ne. get_or-set_other rows v x (with_count (row_at rows v) e w k) no_row ne;
}

module _ (old new : ℕ → RowView) (a e w k : ℕ) (put : IsPut old new a e w k) (ascending : (x : ℕ) → IsAscending (old x).items) where
  pub IsPut-ascending : (x : ℕ) → IsAscending (new x).items
  IsPut-ascending x =
      elim (cases_eq x a) [
        | inl same ↦ subst (λ i. IsAscending (new i).items) (sym same) (rw put.here (IsAscending-counted (old a).items e w k (ascending a)))
        | inr ne ↦ rw (put.others x ne) (ascending x)
      ]

  pub IsPut-copies : (x f v : ℕ) → copies_of (new x).items f v ≡ (if (x == a) && (f == e) && (v == w) then k else copies_of (old x).items f v)
  IsPut-copies x f v =
      elim (cases_eq x a) [
        | inl same ↦ (let here : copies_of (new a).items f v ≡ (if (f == e) && (v == w) then k else copies_of (old a).items f v)
            = ap (λ (r : RowView). copies_of r.items f v) put.here ∙ copies_of-counted (old a).items e w k f v (ascending a) in
            let there : copies_of (new x).items f v ≡ (if (f == e) && (v == w) then k else copies_of (old x).items f v) = rw same here in
            rw (eq-eqb x a same) there)
        | inr ne ↦ (let other = ne_eqb x a ne in rw (other) (ap (λ (r : RowView). copies_of r.items f v) (put.others x ne)))
      ]

-- what a put takes from the room of its row, and what it gives back
spare_sum : (l m s c k : ℕ) → m + (if nat_lt 0 c then 1 else 0) ≡ l + (if nat_lt 0 k then 1 else 0) → (c ≡ 0 → 1 ≤ k → 1 ≤ s)
    → ((l + s) - m) + (if (c == 0) && nat_lt 0 k then 1 else 0) ≡ s + (if (k == 0) && nat_lt 0 c then 1 else 0)
spare_sum l m s c k e room =
    elim (cases_eq c 0) [
      | inl none ↦ elim (cases_eq k 0) [
        | inl gone ↦ grind (arith, nat_tests)
        | inr some ↦ (let one : 1 ≤ s = room none (omega arith) in grind (arith, nat_tests))
      ]
      | inr some ↦ grind (arith, nat_tests)
    ]

pub IsPut-spare : (old new : ℕ → RowView) (a e w k : ℕ) → IsPut old new a e w k → IsAscending (old a).items
    → (copies_of (old a).items e w ≡ 0 → 1 ≤ k → 1 ≤ (old a).spare)
    → (new a).spare + (if (copies_of (old a).items e w == 0) && nat_lt 0 k then 1 else 0) ≡ (old a).spare + (if (k == 0) && nat_lt 0 (copies_of (old a).items e w) then 1 else 0)
IsPut-spare old new a e w k put ascending room =
    let r = old a in
    ap (λ (s : RowView). s.spare + (if (copies_of r.items e w == 0) && nat_lt 0 k then 1 else 0)) put.here
    ∙ spare_sum (length r.items) (length (counted r.items e w k)) r.spare (copies_of r.items e w) k (length-counted r.items e w k ascending) room
