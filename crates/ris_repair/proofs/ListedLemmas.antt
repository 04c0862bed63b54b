-- Rows of the changes of a table, from the first place on.
use Rattle.std.proofs.Common.{◌≡◌, ℕ, ◌+◌, ◌<◌, inl, inr, List, [], ◌∷◌, ◌++◌, length, get_or, Option, Some, None, arith, sym, ap, ◌∙◌}
use Rattle.std.specs.List.{All, Contains}
use Rattle.std.proofs.lemmas.Bool.{cases_lt}
use Rattle.std.proofs.lemmas.List.{get_or_past}
use Rattle.std.proofs.lemmas.List.Elements.{All-push, Contains-append_left, Contains-append_right}
use Rattle.ris_base.specs.Forest.{Forest}
use Rattle.ris_base.proofs.ListLemmas.{Contains-first}
use Rattle.ris_forest.specs.declared.deltas.DeltaRow.{DeltaRow}
use Rattle.ris_repair.specs.Stages.{IsRowOf, AreRowsOf}
use Rattle.ris_repair.specs.declared.stores.Change.{Change}

-- the rows tell exactly the changes of the vertices below n
pub record AreListed (F : Forest) (changes : ℕ → Option Change) (n : ℕ) (rows : List DeltaRow) : Type 0 where
  pub each : All (IsRowOf F changes) rows
  pub below : All (λ row. row.vertex < n) rows
  pub whole : (x : ℕ) (c : Change) → x < n → changes x ≡ Some c → (row : DeltaRow) × Contains rows row × (row.vertex ≡ x)

module _ (F : Forest) (changes : ℕ → Option Change) (n : ℕ) (rows : List DeltaRow) (listed : AreListed F changes n rows) where
  -- what is below one vertex more
  one_more : (more : List DeltaRow) → ((row : DeltaRow) → Contains rows row → Contains more row)
      → ((c : Change) → changes n ≡ Some c → (row : DeltaRow) × Contains more row × (row.vertex ≡ n))
      → (x : ℕ) (c : Change) → x < n + 1 → changes x ≡ Some c → (row : DeltaRow) × Contains more row × (row.vertex ≡ x)
  one_more more keeps here x c lt is = elim (cases_lt x n) [
    | inl less ↦ (let r = listed.whole x c less is in (r.0, keeps r.0 r.1, r.2))
    | inr le ↦
        let same : x ≡ n = omega arith in
        let r = here c (ap changes (sym same) ∙ is) in
        (r.0, r.1, r.2 ∙ sym same)
  ]

  -- the next vertex has no change
  pub listed_past : changes n ≡ None → AreListed F changes (n + 1) rows
  listed_past none = record {
    each = listed.each;
    below = λ k d lt. (let less = listed.below k d lt in omega arith);
    whole = one_more rows (λ row at. at) (λ c is. absurd (let both = sym none ∙ is in cc));
  }

  -- the next vertex has one, and its row is listed
  pub listed_more : (row : DeltaRow) → IsRowOf F changes row → row.vertex ≡ n → AreListed F changes (n + 1) (rows ++ row ∷ [])
  listed_more row is at = record {
    each = All-push (IsRowOf F changes) rows row listed.each is;
    below = All-push (λ (r : DeltaRow). r.vertex < n + 1) rows row (λ k d lt. (let less = listed.below k d lt in omega arith)) (omega arith);
    whole = one_more (rows ++ row ∷ []) (λ r here. Contains-append_left rows (row ∷ []) r here)
        (λ c some. (row, Contains-append_right rows (row ∷ []) row (Contains-first row []), at));
  }

  -- all vertices that have a change are below
  pub listed_all : ((x : ℕ) (c : Change) → changes x ≡ Some c → x < n) → AreRowsOf F changes rows
  listed_all below = record { each = listed.each; whole = λ x c is. listed.whole x c (below x c is) is }

-- a vertex that has a change in a table is within it
pub change_within : (table : List (Option Change)) (x : ℕ) (c : Change) → get_or table x None ≡ Some c → x < length table
change_within table x c is = elim (cases_lt x (length table)) [
  | inl lt ↦ lt
  | inr le ↦ absurd (let both = sym (get_or_past table x None le) ∙ is in cc)
]
