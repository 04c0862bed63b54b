-- What rows give a vertex number, as a loop looks for it row by row; and that rows say nothing past their bound.
use Rattle.std.proofs.Common.{◌≡◌, ◌≢◌, ℕ, ◌+◌, ◌≤◌, ◌==◌, true, if◌then◌else◌, max, List, [], ◌∷◌, length, drop, Some, arith, refl, sym, subst, ap, ◌∙◌, eq-eqb}
use Rattle.std.specs.List.{slice_get}
use Rattle.std.proofs.lemmas.Bool.{eqb-true, ne_eqb}
use Rattle.ris_base.specs.Forest.{parent_in, value_in}
use Rattle.ris_base.specs.declared.analyses.Value.{Value}
use Rattle.ris_base.specs.declared.analyses.Value.TheVariants.{Absent, Unreached, Num}
use Rattle.ris_base.specs.declared.forests.ForestRow.{ForestRow}
use Rattle.ris_base.specs.declared.forests.Parent.TheVariants as parent
use Rattle.ris_core.specs.Rows.{bound_of, is_same_value}
use Rattle.ris_core.proofs.Scans.{drop-end, drop-next}

value-first : (r : ForestRow) (rows : List ForestRow) (x : ℕ) → value_in (r ∷ rows) x ≡ (if r.vertex == x then r.value else value_in rows x)
unfolding value_in
value-first r rows x = refl

parent-first : (r : ForestRow) (rows : List ForestRow) (x : ℕ) → parent_in (r ∷ rows) x ≡ (if r.vertex == x then r.parent else parent_in rows x)
unfolding parent_in
parent-first r rows x = refl

-- the row of x is here
pub value-here : (rows : List ForestRow) (k : ℕ) (r : ForestRow) (x : ℕ) → slice_get rows k ≡ Some r → r.vertex ≡ x → value_in (drop k rows) x ≡ r.value
value-here rows k r x at same =
    ap (λ (rs : List ForestRow). value_in rs x) (drop-next rows k r at) ∙ value-first r (drop (k + 1) rows) x
    ∙ ap (λ b. if b then r.value else value_in (drop (k + 1) rows) x) (eq-eqb r.vertex x same)

pub parent-here : (rows : List ForestRow) (k : ℕ) (r : ForestRow) (x : ℕ) → slice_get rows k ≡ Some r → r.vertex ≡ x → parent_in (drop k rows) x ≡ r.parent
parent-here rows k r x at same =
    ap (λ (rs : List ForestRow). parent_in rs x) (drop-next rows k r at) ∙ parent-first r (drop (k + 1) rows) x
    ∙ ap (λ b. if b then r.parent else parent_in (drop (k + 1) rows) x) (eq-eqb r.vertex x same)

-- it isn't here
pub value-passed : (rows : List ForestRow) (k : ℕ) (r : ForestRow) (x : ℕ) → slice_get rows k ≡ Some r → r.vertex ≢ x → value_in (drop (k + 1) rows) x ≡ value_in (drop k rows) x
value-passed rows k r x at other = sym (
    ap (λ (rs : List ForestRow). value_in rs x) (drop-next rows k r at) ∙ value-first r (drop (k + 1) rows) x
    ∙ ap (λ b. if b then r.value else value_in (drop (k + 1) rows) x) (ne_eqb r.vertex x other)
    )

pub parent-passed : (rows : List ForestRow) (k : ℕ) (r : ForestRow) (x : ℕ) → slice_get rows k ≡ Some r → r.vertex ≢ x → parent_in (drop (k + 1) rows) x ≡ parent_in (drop k rows) x
parent-passed rows k r x at other = sym (
    ap (λ (rs : List ForestRow). parent_in rs x) (drop-next rows k r at) ∙ parent-first r (drop (k + 1) rows) x
    ∙ ap (λ b. if b then r.parent else parent_in (drop (k + 1) rows) x) (ne_eqb r.vertex x other)
    )

-- it is nowhere
pub value-end : (rows : List ForestRow) (k x : ℕ) → length rows ≤ k → value_in (drop k rows) x ≡ Absent
unfolding value_in
value-end rows k x past = ap (λ (rs : List ForestRow). value_in rs x) (drop-end rows k past)

pub parent-end : (rows : List ForestRow) (k x : ℕ) → length rows ≤ k → parent_in (drop k rows) x ≡ parent.None
unfolding parent_in
parent-end rows k x past = ap (λ (rs : List ForestRow). parent_in rs x) (drop-end rows k past)

-- The bound

bound-first : (least : ℕ) (r : ForestRow) (rows : List ForestRow) → bound_of least (r ∷ rows) ≡ bound_of (max least (r.vertex + 1)) rows
unfolding bound_of
bound-first least r rows = refl

pub bound-next : (least : ℕ) (rows : List ForestRow) (k : ℕ) (r : ForestRow) → slice_get rows k ≡ Some r → bound_of (max least (r.vertex + 1)) (drop (k + 1) rows) ≡ bound_of least (drop k rows)
bound-next least rows k r at = sym (ap (bound_of least) (drop-next rows k r at) ∙ bound-first least r (drop (k + 1) rows))

pub bound-end : (least : ℕ) (rows : List ForestRow) (k : ℕ) → length rows ≤ k → bound_of least (drop k rows) ≡ least
unfolding bound_of
bound-end least rows k past = ap (bound_of least) (drop-end rows k past)

-- the bound isn't less than the least
pub bound-least : (least : ℕ) (rows : List ForestRow) → least ≤ bound_of least rows
unfolding bound_of
bound-least least [] = omega arith
bound-least least (r ∷ rows) = let more = bound-least (max least (r.vertex + 1)) rows in omega arith

-- past it rows give nothing
pub value-past : (least : ℕ) (rows : List ForestRow) (x : ℕ) → bound_of least rows ≤ x → value_in rows x ≡ Absent
unfolding bound_of value_in
value-past least [] x past = refl
value-past least (r ∷ rows) x past =
    let low = bound-least (max least (r.vertex + 1)) rows in
    let other : r.vertex ≢ x = λ same. absurd (omega arith) in
    ap (λ b. if b then r.value else value_in rows x) (ne_eqb r.vertex x other) ∙ value-past (max least (r.vertex + 1)) rows x past

pub parent-past : (least : ℕ) (rows : List ForestRow) (x : ℕ) → bound_of least rows ≤ x → parent_in rows x ≡ parent.None
unfolding bound_of parent_in
parent-past least [] x past = refl
parent-past least (r ∷ rows) x past =
    let low = bound-least (max least (r.vertex + 1)) rows in
    let other : r.vertex ≢ x = λ same. absurd (omega arith) in
    ap (λ b. if b then r.parent else parent_in rows x) (ne_eqb r.vertex x other) ∙ parent-past (max least (r.vertex + 1)) rows x past

-- Tests for the same

pub value-true : (a b : Value) → is_same_value a b ≡ true → a ≡ b
value-true Absent Absent h = refl
value-true Unreached Unreached h = refl
value-true (Num a) (Num b) h = ap Num (eqb-true a b h)
value-true _ _ h = absurd (cc)

value-itself : (a : Value) → is_same_value a a ≡ true
value-itself Absent = refl
value-itself Unreached = refl
value-itself (Num a) = eq-eqb a a refl

pub value-is : (a b : Value) → a ≡ b → is_same_value a b ≡ true
value-is a b same = subst (λ (v : Value). is_same_value a v ≡ true) same (value-itself a)
