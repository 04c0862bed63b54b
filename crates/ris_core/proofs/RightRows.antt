-- That rows are a right forest where they are right at each vertex number up to their bound and that of the graph's values.
use Rattle.std.proofs.Common.{◌≡◌, ◌≢◌, ℕ, zero, suc, ◌<◌, ◌≤◌, inl, inr, List, [], ◌∷◌, length, map, Option, Some, None, unwrap_or, arith, refl, sym, subst, ap, ◌∙◌}
use Rattle.std.specs.List.{slice_get}
use Rattle.std.proofs.lemmas.Bool.{cases_lt}
use Rattle.ris_base.specs.Analysis.{start, step}
use Rattle.ris_base.specs.Forest.{AreForests, IsForest, IsFrom, IsParent, NeedsNone, forest_in, parent_in, value_in}
use Rattle.ris_base.specs.Value.{AreValues, IsValue, number_bound}
use Rattle.ris_base.specs.declared.analyses.Spec.{Spec}
use Rattle.ris_base.specs.declared.analyses.Value.{Value}
use Rattle.ris_base.specs.declared.analyses.Value.TheVariants.{Absent, Num}
use Rattle.ris_base.specs.declared.forests.ForestRow.{ForestRow}
use Rattle.ris_base.specs.declared.graphs.PlainGraph.{PlainGraph}
use Rattle.ris_base.specs.declared.graphs.Triple.{Triple}
use Rattle.ris_algo.proofs.Unique.{value_unique}
use Rattle.ris_four.proofs.TableLemmas.{Contains-number_bound}
use Rattle.ris_core.specs.Rows.{IsRightAt, bound_of, value_at}
use Rattle.ris_core.proofs.RowScans.{bound-least, parent-past, value-past}
use Rattle.ris_core.proofs.StateLemmas.{past-none, same_function}

-- Values

-- a list of values gives each vertex number its value
pub value-right : (g : PlainGraph) (spec : Spec) (values : List Value) → AreValues g spec values → (x : ℕ) → IsValue g spec x (value_at values x)
value-right g spec values are x = go (slice_get values x) refl
  where
    go : (o : Option Value) → slice_get values x ≡ o → IsValue g spec x (unwrap_or o Absent)
    go (Some v) e = are.each x v e
    go None e = λ has. (let low = Contains-number_bound g.vertices x has in let past = past-none values x e in let all = are.all in absurd (omega arith))

-- the value of rows is right where it is that of the list, and only there
pub value-same : (g : PlainGraph) (spec : Spec) (values : List Value) → AreValues g spec values → (x : ℕ) (v : Value) → v ≡ value_at values x → IsValue g spec x v
value-same g spec values are x v same = subst (IsValue g spec x) (sym same) (value-right g spec values are x)

pub same-value : (g : PlainGraph) (spec : Spec) (values : List Value) → AreValues g spec values → (x : ℕ) (v : Value) → IsValue g spec x v → v ≡ value_at values x
same-value g spec values are x v is = value_unique g spec x v (value_at values x) is (value-right g spec values are x)

-- Right forests

-- past the bound the forest of rows is right
past-right : (g : PlainGraph) (spec : Spec) (n : ℕ) (rows : List ForestRow) → number_bound g.vertices ≤ n → (x : ℕ) → bound_of n rows ≤ x → IsRightAt g spec (forest_in rows) x
past-right g spec n rows all x past =
    let v = value-past n rows x past in
    let p = parent-past n rows x past in
    record {
      value = subst (IsValue g spec x) (sym v) (λ has. (let low = Contains-number_bound g.vertices x has in let least = bound-least n rows in absurd (omega arith)));
      parent = subst (IsParent g spec (value_in rows) x) (sym p) (subst (NeedsNone g spec x) (sym v) tt);
      rooted = λ c is. absurd (let e = sym v ∙ is in cc);
    }

pub right-everywhere : (g : PlainGraph) (spec : Spec) (values : List Value) (rows : List ForestRow) → AreValues g spec values
    → ((x : ℕ) → x < bound_of (length values) rows → IsRightAt g spec (forest_in rows) x) → IsForest g spec (forest_in rows)
right-everywhere g spec values rows are right = record { values = λ x. (at x).value; parents = λ x. (at x).parent; rooted = λ x. (at x).rooted }
  where
    at : (x : ℕ) → IsRightAt g spec (forest_in rows) x
    at x = elim (cases_lt x (bound_of (length values) rows)) [
      | inl less ↦ right x less
      | inr past ↦ past-right g spec (length values) rows (let all = are.all in omega arith) x past
    ]

-- a right forest is right at each vertex number
pub right-at : (g : PlainGraph) (spec : Spec) (rows : List ForestRow) → IsForest g spec (forest_in rows) → (x : ℕ) → IsRightAt g spec (forest_in rows) x
right-at g spec rows right x = record { value = right.values x; parent = right.parents x; rooted = right.rooted x }

-- All analyses

-- each pair of lists of one length is right
pub forests-from : (g : PlainGraph) (specs : List Spec) (tables : List (List ForestRow)) → length specs ≡ length tables
    → ((j : ℕ) (spec : Spec) (rows : List ForestRow) → slice_get specs j ≡ Some spec → slice_get tables j ≡ Some rows → IsForest g spec (forest_in rows))
    → AreForests g specs (map forest_in tables)
forests-from g [] [] same right = tt
forests-from g [] (rows ∷ tables) same right = absurd (omega arith)
forests-from g (spec ∷ specs) [] same right = absurd (omega arith)
forests-from g (spec ∷ specs) (rows ∷ tables) same right =
    (right 0 spec rows refl refl, forests-from g specs tables (omega arith) (λ j s r at there. right (suc j) s r at there))

pub forests-at : (g : PlainGraph) (specs : List Spec) (tables : List (List ForestRow)) → AreForests g specs (map forest_in tables)
    → (j : ℕ) (spec : Spec) (rows : List ForestRow) → slice_get specs j ≡ Some spec → slice_get tables j ≡ Some rows → IsForest g spec (forest_in rows)
forests-at g [] tables right j spec rows at there = absurd (cc)
forests-at g (s ∷ specs) [] right j spec rows at there = absurd right
forests-at g (s ∷ specs) (t ∷ tables) right zero spec rows at there =
    let one : s ≡ spec = cc in let two : t ≡ rows = cc in
    subst (λ (r : List ForestRow). IsForest g spec (forest_in r)) two (subst (λ (p : Spec). IsForest g p (forest_in t)) one right.0)
forests-at g (s ∷ specs) (t ∷ tables) right (suc j) spec rows at there = forests-at g specs tables right.1 j spec rows at there

pub forests-length : (g : PlainGraph) (specs : List Spec) (tables : List (List ForestRow)) → AreForests g specs (map forest_in tables) → length specs ≡ length tables
forests-length g [] [] right = refl
forests-length g [] (t ∷ tables) right = absurd right
forests-length g (s ∷ specs) [] right = absurd right
forests-length g (s ∷ specs) (t ∷ tables) right = let more = forests-length g specs tables right.1 in omega arith

-- Parents

-- what a right parent says of the numbers
pub from-number : (g : PlainGraph) (spec : Spec) (rows : List ForestRow) (x vertex : ℕ) (t : Triple) → IsFrom g spec (value_in rows) x vertex t → (c : ℕ) → value_in rows vertex ≡ Num c
    → (here : ℕ) → value_in rows x ≡ Num here → (here ≡ step spec.kind c t.weight) × (start g spec x ≢ Some here)
from-number g spec rows x vertex t from c above here is =
    let one : Num from.number ≡ Num c = sym from.above ∙ above in
    let n : from.number ≡ c = cc in
    let two : Num here ≡ Num (step spec.kind from.number t.weight) = sym is ∙ from.here in
    let h : here ≡ step spec.kind from.number t.weight = cc in
    let same : here ≡ step spec.kind c t.weight = h ∙ ap (λ k. step spec.kind k t.weight) n in
    (same, λ e. from.not_start (e ∙ ap Some h))

-- Same forests

-- rows that give the same below both bounds are the same forest
pub same-forest : (a b : List ForestRow) → ((x : ℕ) → x < bound_of (bound_of 0 a) b → (value_in a x ≡ value_in b x) × (parent_in a x ≡ parent_in b x)) → forest_in a ≡ forest_in b
same-forest a b same = λ i. record {
  value = same_function (value_in a) (value_in b) (λ x. (at x).0) i;
  parent = same_function (parent_in a) (parent_in b) (λ x. (at x).1) i;
}
  where
    at : (x : ℕ) → (value_in a x ≡ value_in b x) × (parent_in a x ≡ parent_in b x)
    at x = elim (cases_lt x (bound_of (bound_of 0 a) b)) [
      | inl less ↦ same x less
      | inr past ↦ (let low = bound-least (bound_of 0 a) b in
          let own : bound_of 0 a ≤ x = omega arith in
          (value-past 0 a x own ∙ sym (value-past (bound_of 0 a) b x past), parent-past 0 a x own ∙ sym (parent-past (bound_of 0 a) b x past)))
    ]
