-- One copy more, or one fewer, of a neighbour in one row of a table.
use Rattle.std.proofs.Common.{◌≡◌, ℕ, ◌+◌, ◌-◌, ◌<◌, ◌≤◌, true, ◌&&◌, ◌==◌, nat_lt, if◌then◌else◌, List, length, set, arith, refl, inl, inr, sym, ap, subst, ◌∙◌}
use Rattle.std.proofs.lemmas.Bool.{cases_eq, cases_lt, cases_Bool, eqb-true, eq-eqb, and_parts}
use Rattle.std.proofs.lemmas.Bool.Decides.{nat_tests}
use Rattle.std.proofs.lemmas.List.{get_or_past}
use Rattle.ris_base.proofs.EffectLemmas.{one_if}
use Rattle.ris_rows.specs.Neighbours.{IsAscending, copies_of}
use Rattle.ris_rows.specs.RowView.{RowView, inserted, removed}
use Rattle.ris_graph.specs.GraphView.{no_row, row_at}
use Rattle.ris_graph.specs.Putting.{IsPut}
use Rattle.ris_graph.proofs.RowChanges.{IsPut-table, IsPut-ascending, IsPut-copies, IsPut-spare}

-- a row that has something stands in the table
pub within-spare : (rows : List RowView) (k : ℕ) → 1 ≤ (row_at rows k).spare → k < length rows
within-spare rows k some =
    elim (cases_lt k (length rows)) [ inl lt ↦ lt | inr past ↦ (let none = ap (λ (r : RowView). r.spare) (get_or_past rows k no_row past) in absurd (omega arith)) ]

pub within-copies : (rows : List RowView) (k e w : ℕ) → 1 ≤ copies_of (row_at rows k).items e w → k < length rows
within-copies rows k e w some =
    elim (cases_lt k (length rows)) [ inl lt ↦ lt | inr past ↦ (let none = ap (λ (r : RowView). copies_of r.items e w) (get_or_past rows k no_row past) in absurd (omega arith)) ]

-- three numbers that pass a test for others are these
pub test_same : (a b c d e f : ℕ) → ((a == b) && (c == d) && (e == f)) ≡ true → (a ≡ b) × (c ≡ d) × (e ≡ f)
test_same a b c d e f h =
    let outer = and_parts ((a == b) && (c == d)) (e == f) h in
    let inner = and_parts (a == b) (c == d) outer.0 in
    (eqb-true a b inner.0, eqb-true c d inner.1, eqb-true e f outer.1)

add_spare : (new old c : ℕ) → new + (if (c == 0) && nat_lt 0 (c + 1) then 1 else 0) ≡ old + (if (c + 1 == 0) && nat_lt 0 c then 1 else 0) → old ≤ new + 1
add_spare new old c e = grind (arith, nat_tests)

take_spare : (new old c : ℕ) → new + (if (c == 0) && nat_lt 0 (c - 1) then 1 else 0) ≡ old + (if (c - 1 == 0) && nat_lt 0 c then 1 else 0) → old ≤ new
take_spare new old c e = grind (arith, nat_tests)

module _ (rows : List RowView) (a e w : ℕ) (lt : a < length rows) (ascending : (k : ℕ) → IsAscending (row_at rows k).items) where
  -- One copy more

  pub more-put : IsPut (row_at rows) (row_at (set rows a (inserted (row_at rows a) e w))) a e w (copies_of (row_at rows a).items e w + 1)
  more-put = IsPut-table rows a e w (copies_of (row_at rows a).items e w + 1) lt

  pub more-ascending : (k : ℕ) → IsAscending (row_at (set rows a (inserted (row_at rows a) e w)) k).items
  more-ascending = IsPut-ascending (row_at rows) (row_at (set rows a (inserted (row_at rows a) e w))) a e w (copies_of (row_at rows a).items e w + 1) more-put ascending

  -- takes the room of one neighbour at most
  pub more-spare : 1 ≤ (row_at rows a).spare → (k : ℕ) → (row_at rows k).spare ≤ (row_at (set rows a (inserted (row_at rows a) e w)) k).spare + one_if (a == k)
  more-spare some k =
      let new = set rows a (inserted (row_at rows a) e w) in
      let c = copies_of (row_at rows a).items e w in
      elim (cases_eq k a) [
        | inl same ↦ (let one : one_if (a == k) ≡ 1 = rw (eq-eqb a k (sym same)) refl in
            let here : (row_at rows a).spare ≤ (row_at new a).spare + 1
            = add_spare (row_at new a).spare (row_at rows a).spare c (IsPut-spare (row_at rows) (row_at new) a e w (c + 1) more-put (ascending a) (λ _ _. some)) in
            let there : (row_at rows k).spare ≤ (row_at new k).spare + 1 = subst (λ i. (row_at rows i).spare ≤ (row_at new i).spare + 1) (sym same) here in
            omega arith)
        | inr other ↦ (let kept = ap (λ (r : RowView). r.spare) (more-put.others k other) in omega arith)
      ]

  pub more-copies : (k f x : ℕ) → copies_of (row_at (set rows a (inserted (row_at rows a) e w)) k).items f x ≡ copies_of (row_at rows k).items f x + one_if ((k == a) && (f == e) && (x == w))
  more-copies k f x =
      let new = set rows a (inserted (row_at rows a) e w) in
      let c = copies_of (row_at rows a).items e w in
      let put = IsPut-copies (row_at rows) (row_at new) a e w (c + 1) more-put ascending k f x in
      elim (cases_Bool ((k == a) && (f == e) && (x == w))) [
        | inl same ↦ (let here = test_same k a f e x w same in
            let now : copies_of (row_at new k).items f x ≡ c + 1 = rw same at put in
            let was : copies_of (row_at rows k).items f x ≡ c = rw (here.0, here.1, here.2) refl in
            rw same (now ∙ ap (λ n. n + 1) (sym was)))
        | inr other ↦ (let now : copies_of (row_at new k).items f x ≡ copies_of (row_at rows k).items f x = rw other at put in rw other (omega arith))
      ]

  -- One copy fewer

  pub fewer-put : IsPut (row_at rows) (row_at (set rows a (removed (row_at rows a) e w))) a e w (copies_of (row_at rows a).items e w - 1)
  fewer-put = IsPut-table rows a e w (copies_of (row_at rows a).items e w - 1) lt

  pub fewer-ascending : (k : ℕ) → IsAscending (row_at (set rows a (removed (row_at rows a) e w)) k).items
  fewer-ascending = IsPut-ascending (row_at rows) (row_at (set rows a (removed (row_at rows a) e w))) a e w (copies_of (row_at rows a).items e w - 1) fewer-put ascending

  -- takes no room
  pub fewer-spare : (k : ℕ) → (row_at rows k).spare ≤ (row_at (set rows a (removed (row_at rows a) e w)) k).spare
  fewer-spare k =
      let new = set rows a (removed (row_at rows a) e w) in
      let c = copies_of (row_at rows a).items e w in
      elim (cases_eq k a) [
        | inl same ↦ (let here : (row_at rows a).spare ≤ (row_at new a).spare
            = take_spare (row_at new a).spare (row_at rows a).spare c (IsPut-spare (row_at rows) (row_at new) a e w (c - 1) fewer-put (ascending a) (λ none some. absurd (omega arith))) in
            subst (λ i. (row_at rows i).spare ≤ (row_at new i).spare) (sym same) here)
        | inr other ↦ (let kept = ap (λ (r : RowView). r.spare) (fewer-put.others k other) in omega arith)
      ]

  pub fewer-copies : (k f x : ℕ) → copies_of (row_at (set rows a (removed (row_at rows a) e w)) k).items f x ≡ copies_of (row_at rows k).items f x - one_if ((k == a) && (f == e) && (x == w))
  fewer-copies k f x =
      let new = set rows a (removed (row_at rows a) e w) in
      let c = copies_of (row_at rows a).items e w in
      let put = IsPut-copies (row_at rows) (row_at new) a e w (c - 1) fewer-put ascending k f x in
      elim (cases_Bool ((k == a) && (f == e) && (x == w))) [
        | inl same ↦ (let here = test_same k a f e x w same in
            let now : copies_of (row_at new k).items f x ≡ c - 1 = rw same at put in
            let was : copies_of (row_at rows k).items f x ≡ c = rw (here.0, here.1, here.2) refl in
            rw same (now ∙ ap (λ n. n - 1) (sym was)))
        | inr other ↦ (let now : copies_of (row_at new k).items f x ≡ copies_of (row_at rows k).items f x = rw other at put in rw other (omega arith))
      ]
