-- Rows that tell the changes, and the forest overwritten by them.
use Rattle.std.proofs.Common.{◌≡◌, ℕ, Bool, if◌then◌else◌, inl, inr, List, [], ◌∷◌, Option, Some, None, refl, sym, subst, ap, ◌∙◌}
use Rattle.std.specs.List.{Contains}
use Rattle.std.proofs.Math.Path.{fun_ext}
use Rattle.std.proofs.lemmas.Bool.{cases_eq, eq-eqb, ne_eqb}
use Rattle.std.proofs.lemmas.List.Elements.{All-contains}
use Rattle.ris_base.specs.Forest.{Forest}
use Rattle.ris_base.specs.declared.analyses.Value.{Value}
use Rattle.ris_base.specs.declared.forests.Parent.{Parent}
use Rattle.ris_base.proofs.ListLemmas.{Contains-none, Contains-first, Contains-rest, Contains-cases}
use Rattle.ris_forest.specs.Commits.{with_row, with_rows}
use Rattle.ris_forest.specs.declared.deltas.DeltaRow.{DeltaRow}
use Rattle.ris_repair.specs.Changes.{state_of, value_or, parent_or}
use Rattle.ris_repair.specs.Stages.{IsRowOf, AreRowsOf}
use Rattle.ris_repair.specs.declared.stores.Change.{Change}

-- a forest has this value and this parent at x
record HasAt (F : Forest) (x : ℕ) (v : Value) (p : Parent) : Type 0 where
  value : F.value x ≡ v
  parent : F.parent x ≡ p

-- rows that give x no other value and parent leave them
kept_at : (rows : List DeltaRow) (F : Forest) (x : ℕ) (v : Value) (p : Parent)
    → ((row : DeltaRow) → Contains rows row → row.vertex ≡ x → (row.value ≡ v) × (row.parent ≡ p)) → HasAt F x v p → HasAt (with_rows F rows) x v p
unfolding with_rows
kept_at [] F x v p each h = h
kept_at (row ∷ rest) F x v p each h =
    kept_at rest (with_row F row) x v p (λ r at e. each r (Contains-rest row rest r at) e) (elim (cases_eq row.vertex x) [
      | inl e ↦ (let same = each row (Contains-first row rest) e in record {
        value = ap (λ (b : Bool). if b then row.value else F.value x) (eq-eqb row.vertex x e) ∙ same.0;
        parent = ap (λ (b : Bool). if b then row.parent else F.parent x) (eq-eqb row.vertex x e) ∙ same.1;
      })
      | inr ne ↦ record {
        value = ap (λ (b : Bool). if b then row.value else F.value x) (ne_eqb row.vertex x ne) ∙ h.value;
        parent = ap (λ (b : Bool). if b then row.parent else F.parent x) (ne_eqb row.vertex x ne) ∙ h.parent;
      }
    ])

-- a row of x gives it its value and its parent
found_at : (rows : List DeltaRow) (F : Forest) (x : ℕ) (v : Value) (p : Parent)
    → ((row : DeltaRow) → Contains rows row → row.vertex ≡ x → (row.value ≡ v) × (row.parent ≡ p))
    → (row : DeltaRow) → Contains rows row → row.vertex ≡ x → HasAt (with_rows F rows) x v p
unfolding with_rows
found_at [] F x v p each row at e = absurd (Contains-none row at)
found_at (first ∷ rest) F x v p each row at e = elim (Contains-cases first rest row at) [
  | inr later ↦ found_at rest (with_row F first) x v p (λ r there k. each r (Contains-rest first rest r there) k) row later e
  | inl is ↦
      let here : first.vertex ≡ x = ap (λ (r : DeltaRow). r.vertex) is ∙ e in
      let same = each first (Contains-first first rest) here in
      kept_at rest (with_row F first) x v p (λ r there k. each r (Contains-rest first rest r there) k) (record {
        value = ap (λ (b : Bool). if b then first.value else F.value x) (eq-eqb first.vertex x here) ∙ same.0;
        parent = ap (λ (b : Bool). if b then first.parent else F.parent x) (eq-eqb first.vertex x here) ∙ same.1;
      })
]

module _ (F : Forest) (changes : ℕ → Option Change) (rows : List DeltaRow) (R : AreRowsOf F changes rows) where
  row_of : (row : DeltaRow) → Contains rows row → IsRowOf F changes row
  row_of row at = All-contains (IsRowOf F changes) rows row R.each at

  told : (x : ℕ) (c : Change) → changes x ≡ Some c → (row : DeltaRow) → Contains rows row → row.vertex ≡ x → (row.value ≡ c.value) × (row.parent ≡ c.parent)
  told x c is row at e =
      let r = row_of row at in
      let both : Some r.change ≡ Some c = sym r.is ∙ ap changes e ∙ is in
      let same : r.change ≡ c = cc in
      (r.value ∙ ap (λ (k : Change). k.value) same, r.parent ∙ ap (λ (k : Change). k.parent) same)

  at_vertex : (x : ℕ) (o : Option Change) → changes x ≡ o → HasAt (with_rows F rows) x (value_or (F.value x) o) (parent_or (F.parent x) o)
  at_vertex x None is = kept_at rows F x (F.value x) (F.parent x)
      (λ row at e. (let r = row_of row at in let both : Some r.change ≡ None = sym r.is ∙ ap changes e ∙ is in absurd (cc))) (record { value = refl; parent = refl })
  at_vertex x (Some c) is = (let r = R.whole x c is in found_at rows F x c.value c.parent (told x c is) r.0 r.1 r.2)

  -- the rows overwrite the values and the parents that changed
  pub rows_value : (x : ℕ) → (with_rows F rows).value x ≡ value_or (F.value x) (changes x)
  rows_value x = (at_vertex x (changes x) refl).value

  pub rows_parent : (x : ℕ) → (with_rows F rows).parent x ≡ parent_or (F.parent x) (changes x)
  rows_parent x = (at_vertex x (changes x) refl).parent

  -- so what is true of the state that the changes make is true of the forest
  pub rows_forest : (P : Forest → Type 0) → P (record { value = (state_of F changes).value; parent = (state_of F changes).parent }) → P (with_rows F rows)
  rows_forest P h =
      subst (λ (q : ℕ → Parent). P (record { value = (with_rows F rows).value; parent = q })) (sym (fun_ext rows_parent))
      (subst (λ (v : ℕ → Value). P (record { value = v; parent = (state_of F changes).parent })) (sym (fun_ext rows_value)) h)

  -- the value of a row is that of the forest, and so is its parent
  pub row_value : (row : DeltaRow) → Contains rows row → (with_rows F rows).value row.vertex ≡ row.value
  row_value row at = (let r = row_of row at in rows_value row.vertex ∙ ap (value_or (F.value row.vertex)) r.is ∙ sym r.value)

  pub row_parent : (row : DeltaRow) → Contains rows row → (with_rows F rows).parent row.vertex ≡ row.parent
  row_parent row at = (let r = row_of row at in rows_parent row.vertex ∙ ap (parent_or (F.parent row.vertex)) r.is ∙ sym r.parent)
