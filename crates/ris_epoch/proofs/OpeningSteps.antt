-- The forests of place 0 as rows of the vertices below a number.
use Rattle.std.proofs.Common.{◌≡◌, ◌≢◌, ℕ, zero, suc, ◌+◌, ◌<◌, ◌≤◌, ◌==◌, inl, inr, if◌then◌else◌, nat_lt, Bool, List, [], ◌∷◌, ◌++◌, map, arith, refl, sym, subst, ap, ◌∙◌, eq-eqb}
use Rattle.std.specs.List.{All, Contains}
use Rattle.std.proofs.lemmas.Bool.{cases_eq, cases_lt, le-ltb, lt-ltb, ne_eqb}
use Rattle.std.proofs.lemmas.List.Elements.{All-cons, All-head, All-nil, All-push, All-tail, Contains-append_cases}
use Rattle.ris_base.specs.Forest.{Forest, AreForests, IsParent, forest_in, parent_in, value_in}
use Rattle.ris_base.specs.Graph.{HasVertex}
use Rattle.ris_base.specs.Limits.{session_limit}
use Rattle.ris_base.specs.Lines.{session_of}
use Rattle.ris_base.specs.Lists.{numbers_below}
use Rattle.ris_base.specs.Records.{AreRight, forests_after}
use Rattle.ris_base.specs.Requests.{after}
use Rattle.ris_base.specs.Value.{IsValue}
use Rattle.ris_base.specs.declared.analyses.Spec.{Spec}
use Rattle.ris_base.specs.declared.analyses.Value.{Value}
use Rattle.ris_base.specs.declared.analyses.Value.TheVariants as value
use Rattle.ris_base.specs.declared.forests.ForestRow.{ForestRow}
use Rattle.ris_base.specs.declared.forests.Parent.{Parent}
use Rattle.ris_base.specs.declared.forests.Parent.TheVariants as parent
use Rattle.ris_base.specs.declared.graphs.PlainGraph.{PlainGraph}
use Rattle.ris_base.specs.declared.records.Record.{Record}
use Rattle.ris_base.specs.declared.records.Start.{Start}
use Rattle.ris_base.proofs.ListLemmas.{Contains-none, Contains-one}
use Rattle.ris_algo.proofs.SameForests.{same-forest}
use Rattle.ris_analysis.specs.Analyses.{AllSuit, HasRoom, forests_of, specs_of}
use Rattle.ris_graph.specs.GraphView.{IsOf}
use Rattle.ris_epoch.specs.DriverView.{DriverView, StandsFor}
use Rattle.ris_epoch.specs.Openings.{AreBelow, IsBelow}

-- Rows

-- the row of a vertex
abbrev pub row_of : Forest → ℕ → ForestRow
row_of F x = record { vertex = x; value = F.value x; parent = F.parent x }

-- the rows of the vertices below a number
unfoldable pub rows_below : Forest → ℕ → List ForestRow
rows_below F zero = []
rows_below F (suc n) = rows_below F n ++ row_of F n ∷ []

pub rows-none : (F : Forest) → rows_below F 0 ≡ []
unfolding rows_below
rows-none F = refl

pub rows-next : (F : Forest) (n : ℕ) → rows_below F (n + 1) ≡ rows_below F n ++ row_of F n ∷ []
unfolding rows_below
rows-next F n = ap (rows_below F) (let e : n + 1 ≡ suc n = omega arith in e)

-- they are below it
pub rows-below : (F : Forest) (n m : ℕ) → n ≤ m → All (λ r. r.vertex < m) (rows_below F n)
unfolding rows_below
rows-below F zero m h = All-nil (λ r. r.vertex < m)
rows-below F (suc n) m h = All-push (λ (r : ForestRow). r.vertex < m) (rows_below F n) (row_of F n) (rows-below F n m (omega arith)) (omega arith)

-- a row more at the end says its vertex where no other does
value-push : (rows : List ForestRow) (row : ForestRow) (x : ℕ) → row.vertex ≢ x → value_in (rows ++ row ∷ []) x ≡ value_in rows x
unfolding value_in
value-push [] row x other = ap (λ (b : Bool). if b then row.value else value.Absent) (ne_eqb row.vertex x other)
value-push (r ∷ rows) row x other = ap (λ (v : Value). if r.vertex == x then r.value else v) (value-push rows row x other)

parent-push : (rows : List ForestRow) (row : ForestRow) (x : ℕ) → row.vertex ≢ x → parent_in (rows ++ row ∷ []) x ≡ parent_in rows x
unfolding parent_in
parent-push [] row x other = ap (λ (b : Bool). if b then row.parent else parent.None) (ne_eqb row.vertex x other)
parent-push (r ∷ rows) row x other = ap (λ (v : Parent). if r.vertex == x then r.parent else v) (parent-push rows row x other)

value-own : (rows : List ForestRow) (row : ForestRow) → All (λ r. r.vertex < row.vertex) rows → value_in (rows ++ row ∷ []) row.vertex ≡ row.value
unfolding value_in
value-own [] row all = ap (λ (b : Bool). if b then row.value else value.Absent) (eq-eqb row.vertex row.vertex refl)
value-own (r ∷ rows) row all =
    let low = All-head (λ (x : ForestRow). x.vertex < row.vertex) r rows all in
    ap (λ (b : Bool). if b then r.value else value_in (rows ++ row ∷ []) row.vertex) (ne_eqb r.vertex row.vertex (λ e. absurd (omega arith)))
    ∙ value-own rows row (All-tail (λ (x : ForestRow). x.vertex < row.vertex) r rows all)

parent-own : (rows : List ForestRow) (row : ForestRow) → All (λ r. r.vertex < row.vertex) rows → parent_in (rows ++ row ∷ []) row.vertex ≡ row.parent
unfolding parent_in
parent-own [] row all = ap (λ (b : Bool). if b then row.parent else parent.None) (eq-eqb row.vertex row.vertex refl)
parent-own (r ∷ rows) row all =
    let low = All-head (λ (x : ForestRow). x.vertex < row.vertex) r rows all in
    ap (λ (b : Bool). if b then r.parent else parent_in (rows ++ row ∷ []) row.vertex) (ne_eqb r.vertex row.vertex (λ e. absurd (omega arith)))
    ∙ parent-own rows row (All-tail (λ (x : ForestRow). x.vertex < row.vertex) r rows all)

-- what the rows say below the number, and past it
value-rows : (F : Forest) (n x : ℕ) → value_in (rows_below F n) x ≡ (if nat_lt x n then F.value x else value.Absent)
unfolding rows_below value_in
value-rows F zero x = ap (λ (b : Bool). if b then F.value x else value.Absent) (sym (le-ltb x 0 (omega arith)))
value-rows F (suc n) x = elim (cases_eq n x) [
  | inl own ↦ ap (value_in (rows_below F n ++ row_of F n ∷ [])) (sym own) ∙ value-own (rows_below F n) (row_of F n) (rows-below F n n (omega arith))
      ∙ ap F.value own ∙ sym (ap (λ (b : Bool). if b then F.value x else value.Absent) (lt-ltb x (suc n) (omega arith)))
  | inr other ↦ value-push (rows_below F n) (row_of F n) x other ∙ value-rows F n x ∙ ap (λ (b : Bool). if b then F.value x else value.Absent) (elim (cases_lt x n) [
    | inl less ↦ lt-ltb x n less ∙ sym (lt-ltb x (suc n) (omega arith))
    | inr past ↦ le-ltb x n past ∙ sym (le-ltb x (suc n) (let ne = other in omega arith))
  ])
]

parent-rows : (F : Forest) (n x : ℕ) → parent_in (rows_below F n) x ≡ (if nat_lt x n then F.parent x else parent.None)
unfolding rows_below parent_in
parent-rows F zero x = ap (λ (b : Bool). if b then F.parent x else parent.None) (sym (le-ltb x 0 (omega arith)))
parent-rows F (suc n) x = elim (cases_eq n x) [
  | inl own ↦ ap (parent_in (rows_below F n ++ row_of F n ∷ [])) (sym own) ∙ parent-own (rows_below F n) (row_of F n) (rows-below F n n (omega arith))
      ∙ ap F.parent own ∙ sym (ap (λ (b : Bool). if b then F.parent x else parent.None) (lt-ltb x (suc n) (omega arith)))
  | inr other ↦ parent-push (rows_below F n) (row_of F n) x other ∙ parent-rows F n x ∙ ap (λ (b : Bool). if b then F.parent x else parent.None) (elim (cases_lt x n) [
    | inl less ↦ lt-ltb x n less ∙ sym (lt-ltb x (suc n) (omega arith))
    | inr past ↦ le-ltb x n past ∙ sym (le-ltb x (suc n) (let ne = other in omega arith))
  ])
]

-- the rows say the forest, all of whose vertices are below the number
pub forest-rows : (F : Forest) (n : ℕ) → IsBelow n F → forest_in (rows_below F n) ≡ F
forest-rows F n below = same-forest (forest_in (rows_below F n)) F (record {
  value = λ x. value-rows F n x ∙ elim (cases_lt x n) [
    | inl less ↦ ap (λ (b : Bool). if b then F.value x else value.Absent) (lt-ltb x n less)
    | inr past ↦ ap (λ (b : Bool). if b then F.value x else value.Absent) (le-ltb x n past) ∙ sym (below.values x past)
  ];
  parent = λ x. parent-rows F n x ∙ elim (cases_lt x n) [
    | inl less ↦ ap (λ (b : Bool). if b then F.parent x else parent.None) (lt-ltb x n less)
    | inr past ↦ ap (λ (b : Bool). if b then F.parent x else parent.None) (le-ltb x n past) ∙ sym (below.parents x past)
  ];
})

-- Right forests

-- a vertex number that isn't in the graph is absent
absent-of : (p : PlainGraph) (spec : Spec) (x : ℕ) (v : Value) → IsValue p spec x v → ¬ (HasVertex p x) → v ≡ value.Absent
absent-of p spec x value.Absent h out = refl
absent-of p spec x value.Unreached h out = absurd (out h.0)
absent-of p spec x (value.Num c) h out = absurd (out h.0)

-- and has no parent
parentless : (p : PlainGraph) (spec : Spec) (value_at : ℕ → Value) (x : ℕ) (q : Parent) → IsParent p spec value_at x q → value_at x ≡ value.Absent → q ≡ parent.None
parentless p spec value_at x parent.None h absent = refl
parentless p spec value_at x (parent.From vertex source target weight) h absent = absurd (let here = sym h.here ∙ absent in cc)

-- forests of a graph whose vertices are below a number
pub below-of : (p : PlainGraph) (n : ℕ) → ((x : ℕ) → HasVertex p x → x < n) → (specs : List Spec) (forests : List Forest) → AreForests p specs forests → AreBelow n forests
below-of p n few [] [] h = All-nil (IsBelow n)
below-of p n few [] (F ∷ forests) h = absurd h
below-of p n few (spec ∷ specs) [] h = absurd h
below-of p n few (spec ∷ specs) (F ∷ forests) h =
    let absent : (x : ℕ) → n ≤ x → F.value x ≡ value.Absent = λ x past. absent-of p spec x (F.value x) (h.0.values x) (λ at. (let less = few x at in absurd (omega arith))) in
    All-cons (IsBelow n) F forests (record {
      values = absent;
      parents = λ x past. parentless p spec F.value x (F.parent x) (h.0.parents x) (absent x past);
    }) (below-of p n few specs forests h.1)

-- the numbers below a number are below it
pub below-numbers : (n x : ℕ) → Contains (numbers_below n) x → x < n
unfolding numbers_below
below-numbers zero x at = absurd (Contains-none x at)
below-numbers (suc n) x at = elim (Contains-append_cases (numbers_below n) (n ∷ []) x at) [
  | inl old ↦ (let less = below-numbers n x old in omega arith)
  | inr own ↦ (let is = Contains-one n x own in omega arith)
]

-- No records

-- no records are right behind a start with right forests
right-none : (p : PlainGraph) (specs : List Spec) (start : Start) → 1 ≤ start.sessions → start.sessions ≤ session_limit → AreForests p specs (map forest_in start.forests)
    → AreRight p specs start []
unfolding after forests_after
right-none p specs start some few right = record {
  some = some;
  few = few;
  sessions = All-nil (λ (r : Record). session_of r.line < start.sessions);
  each = λ i r at. absurd (cc);
  forests = λ v within. right;
}

-- a driver without lines stands for them, where its opening says the forests of its analyses
pub stands-none : (d : DriverView) (p : PlainGraph) (specs : List Spec) → 1 ≤ d.opening.sessions → d.opening.sessions ≤ session_limit → IsOf d.graph p
    → specs_of d.analyses ≡ specs → AllSuit d.analyses d.graph.format → HasRoom d.graph d.analyses → map forest_in d.opening.forests ≡ forests_of d.analyses
    → AreForests p specs (forests_of d.analyses) → d.journal.lines ≡ [] → StandsFor d (record { opening = p; specs = specs; start = d.opening }) []
unfolding after forests_after
stands-none d p specs some few is same suits room opening right lines =
    let right_rows = subst (λ (fs : List Forest). AreForests p specs fs) (sym opening) right in record {
      right = right-none p specs d.opening some few right_rows;
      opening = refl;
      fits = record { graph_is = is; specs_are = same; suits = suits; room = room; forests_are = sym opening; right = right_rows };
      lines = lines;
    }
