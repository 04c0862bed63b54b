-- What the chains say at each place, with one entry more and where they are trimmed, and what they say at the start.
use Rattle.std.proofs.Common.{◌≡◌, ℕ, zero, suc, ◌+◌, ◌<◌, ◌≤◌, ◌==◌, Bool, true, false, if◌then◌else◌, List, [], ◌∷◌, length, map, Some, arith, refl, inl, inr, sym, subst, ap, ◌∙◌}
use Rattle.std.specs.Prelude.{nat_le, nat_lt}
use Rattle.std.specs.List.{slice_get}
use Rattle.std.proofs.lemmas.Bool.{cases_eq, cases_lt, and_parts, ltb-true, eq-eqb, ne_eqb, le-leb, lt-leb}
use Rattle.std.proofs.lemmas.List.{get_or_past, get_or-set_same, get_or-set_other}
use Rattle.ris_base.specs.Forest.{Forest, forest_in, value_in, parent_in}
use Rattle.ris_base.specs.Limits.{vertex_limit}
use Rattle.ris_base.specs.declared.analyses.Value.{Value}
use Rattle.ris_base.specs.declared.forests.Parent.{Parent}
use Rattle.ris_base.specs.Records.{overwritten, with_change as forest_with}
use Rattle.ris_base.specs.declared.forests.ForestRow.{ForestRow}
use Rattle.ris_base.specs.declared.records.Change.{Change}
use Rattle.ris_history.specs.Applied.{entered_table, trimmed_table}
use Rattle.ris_history.specs.Chains.{HeldView, ChainView, no_chain, latest, pushed, trimmed, number, chain_at, grown, row_held, change_held, with_first, with_rows, with_forests, is_taken, bound_of, appended, with_change, with_changes}
use Rattle.ris_history.specs.HistoryView.{TableView, shown}
use Rattle.ris_history.proofs.ChainLemmas.{chain_at-grown, length-grown, chain_at-appended, chain_at-appended_other, length-appended, latest-trimmed}
use Rattle.ris_history.proofs.ChangeLemmas.{fold-push, number-same, with_change-taken}

-- what is held is what a forest says of a vertex
pub record IsShown (F : Forest) (x : ℕ) (held : HeldView) : Type 0 where
  pub value : held.value ≡ F.value x
  pub parent : held.parent ≡ F.parent x

-- One item more

latest-pushed : (held : HeldView) (c : ChainView) (v : ℕ) → latest (pushed held c) v ≡ (if nat_le held.place v then held else latest c v)
latest-pushed held c v = fold-push (λ (h : HeldView) (next : HeldView). if nat_le next.place v then next else h) c.first c.later held

latest-pushed_new : (held : HeldView) (c : ChainView) (v : ℕ) → held.place ≤ v → latest (pushed held c) v ≡ held
latest-pushed_new held c v h = let up = le-leb held.place v h in latest-pushed held c v ∙ (rw up refl)

latest-pushed_old : (held : HeldView) (c : ChainView) (v : ℕ) → v < held.place → latest (pushed held c) v ≡ latest c v
latest-pushed_old held c v h = let past = lt-leb held.place v h in latest-pushed held c v ∙ (rw past refl)

latest-appended_old : (k : ℕ) (held : HeldView) (cs : List ChainView) (j v : ℕ) → v < held.place → latest (chain_at (appended k held cs) j) v ≡ latest (chain_at cs j) v
latest-appended_old k held cs j v h = elim (cases_eq j k) [
  | inl e ↦ elim (cases_lt j (length cs)) [
    | inl within ↦
        subst (λ i. latest (chain_at (appended k held cs) i) v ≡ latest (chain_at cs i) v) (sym e)
        (ap (λ (c : ChainView). latest c v) (chain_at-appended k held cs (omega arith)) ∙ latest-pushed_old held (chain_at cs k) v h)
    | inr past ↦
        let size = length-appended k held cs in
        ap (λ (c : ChainView). latest c v) (get_or_past (appended k held cs) j no_chain (omega arith) ∙ sym (get_or_past cs j no_chain past))
  ]
  | inr other ↦ ap (λ (c : ChainView). latest c v) (chain_at-appended_other k held cs j other)
]

latest-with_changes_old : (n p : ℕ) (cs : List ChainView) (ds : List Change) (j v : ℕ) → v < p → latest (chain_at (with_changes n p cs ds) j) v ≡ latest (chain_at cs j) v
latest-with_changes_old n p cs [] j v h = refl
latest-with_changes_old n p cs (d ∷ ds) j v h = latest-with_changes_old n p (with_change n p cs d) ds j v h ∙ go (is_taken n d)
  where
    go : (t : Bool) → latest (chain_at (if t then appended (number n d.analysis d.vertex) (change_held p d) cs else cs) j) v ≡ latest (chain_at cs j) v
    go true = latest-appended_old (number n d.analysis d.vertex) (change_held p d) cs j v h
    go false = refl

-- an entry changes nothing at the places before it
pub shown-entered : (t : TableView) (ds : List Change) (v a x : ℕ) → v ≤ t.front → shown (entered_table t ds) v a x ≡ shown t v a x
unfolding entered_table
shown-entered t ds v a x h =
    let k = number t.analyses a x in
    latest-with_changes_old t.analyses (t.front + 1) (grown (bound_of t.analyses ds) t.chains) ds k v (omega arith)
    ∙ ap (λ (c : ChainView). latest c v) (chain_at-grown (bound_of t.analyses ds) t.chains k)

-- nor does trimming at those from the floor on
pub chain_at-trimmed : (f : ℕ) (cs : List ChainView) (k : ℕ) → chain_at (map (trimmed f) cs) k ≡ trimmed f (chain_at cs k)
chain_at-trimmed f [] k = refl
chain_at-trimmed f (c ∷ cs) zero = refl
chain_at-trimmed f (c ∷ cs) (suc k) = chain_at-trimmed f cs k

pub shown-trimmed : (f : ℕ) (t : TableView) (v a x : ℕ) → f ≤ v → shown (trimmed_table f t) v a x ≡ shown t v a x
unfolding trimmed_table
shown-trimmed f t v a x h =
    let k = number t.analyses a x in
    ap (λ (c : ChainView). latest c v) (chain_at-trimmed f t.chains k) ∙ latest-trimmed f v (chain_at t.chains k) h

-- Changes of a forest

-- each change is taken
abbrev pub AreTaken : ℕ → List Change → Type 0
AreTaken n ds = (k : ℕ) (d : Change) → slice_get ds k ≡ Some d → is_taken n d ≡ true

-- two forests say the same of a vertex
record IsSame (F : Forest) (x : ℕ) (c : Value) (p : Parent) : Type 0 where
  value : F.value x ≡ c
  parent : F.parent x ≡ p

forest-hit : (F : Forest) (d : Change) (a x : ℕ) → d.analysis ≡ a → d.vertex ≡ x → IsSame (if d.analysis == a then forest_with F d else F) x d.value d.parent
forest-hit F d a x e f =
    let own = eq-eqb d.analysis a e in
    let here = eq-eqb d.vertex x f in
    record { value = rw (own, here) refl; parent = rw (own, here) refl }

forest-miss : (F : Forest) (d : Change) (a x : ℕ) → (d.analysis ≡ a → d.vertex ≡ x → ⊥) → IsSame (if d.analysis == a then forest_with F d else F) x (F.value x) (F.parent x)
forest-miss F d a x h = elim (cases_eq d.analysis a) [
  | inl e ↦
      let own = eq-eqb d.analysis a e in
      let other = ne_eqb d.vertex x (λ f. h e f) in
      record { value = rw (own, other) refl; parent = rw (own, other) refl }
  | inr e ↦ (let other = ne_eqb d.analysis a e in record { value = rw other refl; parent = rw other refl })
]

-- one change of the forest of the analysis a
shown-change : (n p w : ℕ) (cs : List ChainView) (d : Change) (a : ℕ) (F : Forest) → p ≤ w → d.analysis < n → a < n → number n d.analysis d.vertex < length cs
    → ((x : ℕ) → IsShown F x (latest (chain_at cs (number n a x)) w))
    → (x : ℕ) → IsShown (if d.analysis == a then forest_with F d else F) x (latest (chain_at (appended (number n d.analysis d.vertex) (change_held p d) cs) (number n a x)) w)
shown-change n p w cs d a F le da an within h x =
    let k = number n d.analysis d.vertex in
    let held = change_held p d in
    elim (cases_eq (number n a x) (number n d.analysis d.vertex)) [
      | inl same ↦
          let ends = number-same n a x d.analysis d.vertex an da same in
          let here = ap (λ j. latest (chain_at (appended k held cs) j) w) same
          ∙ ap (λ (c : ChainView). latest c w) (chain_at-appended k held cs within) ∙ latest-pushed_new held (chain_at cs k) w le in
          record {
            value = ap (λ (s : HeldView). s.value) here ∙ sym (forest-hit F d a x (sym ends.0) (sym ends.1)).value;
            parent = ap (λ (s : HeldView). s.parent) here ∙ sym (forest-hit F d a x (sym ends.0) (sym ends.1)).parent;
          }
      | inr other ↦
          let here = ap (λ (c : ChainView). latest c w) (chain_at-appended_other k held cs (number n a x) other) in
          let miss = forest-miss F d a x (λ e f. other (ap (λ b. number n b x) (sym e) ∙ ap (number n d.analysis) (sym f))) in
          record {
            value = ap (λ (s : HeldView). s.value) here ∙ (h x).value ∙ sym miss.value;
            parent = ap (λ (s : HeldView). s.parent) here ∙ (h x).parent ∙ sym miss.parent;
          }
    ]

pub shown-changes : (n p w : ℕ) (cs : List ChainView) (ds : List Change) (a : ℕ) (F : Forest) → p ≤ w → AreTaken n ds → a < n
    → ((k : ℕ) (d : Change) → slice_get ds k ≡ Some d → is_taken n d ≡ true → number n d.analysis d.vertex < length cs)
    → ((x : ℕ) → IsShown F x (latest (chain_at cs (number n a x)) w))
    → (x : ℕ) → IsShown (overwritten a F ds) x (latest (chain_at (with_changes n p cs ds) (number n a x)) w)
unfolding overwritten
shown-changes n p w cs [] a F le taken an room h x = h x
shown-changes n p w cs (d ∷ ds) a F le taken an room h x =
    let own = taken zero d refl in
    let parts = and_parts (nat_lt d.analysis n) (nat_lt d.vertex vertex_limit) own in
    let is = with_change-taken n p cs d own in
    let size = ap length is ∙ length-appended (number n d.analysis d.vertex) (change_held p d) cs in
    shown-changes n p w (with_change n p cs d) ds a (if d.analysis == a then forest_with F d else F) le (λ k e at. taken (suc k) e at) an
    (λ k e at t. let low = room (suc k) e at t in omega arith)
    (subst (λ (xs : List ChainView). (y : ℕ) → IsShown (if d.analysis == a then forest_with F d else F) y (latest (chain_at xs (number n a y)) w)) (sym is)
    (shown-change n p w cs d a F le (ltb-true d.analysis n parts.0) an (room zero d refl own) h)) x

-- The start

chain_at-with_first : (k : ℕ) (held : HeldView) (cs : List ChainView) → chain_at (with_first k held cs) k ≡ record { first = held; later = [] }
chain_at-with_first k held cs =
    let size = length-grown (k + 1) cs in get_or-set_same (grown (k + 1) cs) k (record { first = held; later = [] }) no_chain (omega arith)

chain_at-with_first_other : (k : ℕ) (held : HeldView) (cs : List ChainView) (j : ℕ) → ¬ (j ≡ k) → chain_at (with_first k held cs) j ≡ chain_at cs j
chain_at-with_first_other k held cs j h = get_or-set_other (grown (k + 1) cs) k j (record { first = held; later = [] }) no_chain h ∙ chain_at-grown (k + 1) cs j

-- the first row of a vertex counts
shown-rows : (n a w : ℕ) (rows : List ForestRow) (cs : List ChainView) → a < n → ((x : ℕ) → chain_at cs (number n a x) ≡ no_chain)
    → (x : ℕ) → IsShown (forest_in rows) x (latest (chain_at (with_rows n a rows cs) (number n a x)) w)
unfolding value_in parent_in
shown-rows n a w [] cs an none x =
    let e = ap (λ (c : ChainView). latest c w) (none x) in
    record { value = ap (λ (s : HeldView). s.value) e; parent = ap (λ (s : HeldView). s.parent) e }
shown-rows n a w (row ∷ rows) cs an none x = go (shown-rows n a w rows cs an none x)
  where
    go : IsShown (forest_in rows) x (latest (chain_at (with_rows n a rows cs) (number n a x)) w)
        → IsShown (forest_in (row ∷ rows)) x (latest (chain_at (with_rows n a (row ∷ rows) cs) (number n a x)) w)
    go more = elim (cases_eq row.vertex x) [
      | inl e ↦
          let own = eq-eqb row.vertex x e in
          let here = ap (λ i. latest (chain_at (with_rows n a (row ∷ rows) cs) (number n a i)) w) (sym e)
          ∙ ap (λ (c : ChainView). latest c w) (chain_at-with_first (number n a row.vertex) (row_held row) (with_rows n a rows cs)) in
          record {
            value = ap (λ (s : HeldView). s.value) here ∙ (rw own refl);
            parent = ap (λ (s : HeldView). s.parent) here ∙ (rw own refl);
          }
      | inr e ↦
          let other = ne_eqb row.vertex x e in
          let here = ap (λ (c : ChainView). latest c w)
          (chain_at-with_first_other (number n a row.vertex) (row_held row) (with_rows n a rows cs) (number n a x) (λ s. e (sym (number-same n a x a row.vertex an an s).1))) in
          record {
            value = ap (λ (s : HeldView). s.value) here ∙ more.value ∙ (rw other refl);
            parent = ap (λ (s : HeldView). s.parent) here ∙ more.parent ∙ (rw other refl);
          }
    ]

-- the rows of one analysis change no chain of another
rows-other : (n a b : ℕ) (rows : List ForestRow) (cs : List ChainView) → a < n → b < n → ¬ (a ≡ b) → (x : ℕ) → chain_at (with_rows n a rows cs) (number n b x) ≡ chain_at cs (number n b x)
rows-other n a b [] cs an bn differ x = refl
rows-other n a b (row ∷ rows) cs an bn differ x =
    chain_at-with_first_other (number n a row.vertex) (row_held row) (with_rows n a rows cs) (number n b x) (λ s. differ (sym (number-same n b x a row.vertex bn an s).0))
    ∙ rows-other n a b rows cs an bn differ x

forests-below : (n a : ℕ) (forests : List (List ForestRow)) (cs : List ChainView) (b x : ℕ) → b < a → a + length forests ≤ n
    → chain_at (with_forests n a forests cs) (number n b x) ≡ chain_at cs (number n b x)
forests-below n a [] cs b x h le = refl
forests-below n a (rows ∷ forests) cs b x h le =
    forests-below n (a + 1) forests (with_rows n a rows cs) b x (omega arith) (omega arith)
    ∙ rows-other n a b rows cs (omega arith) (omega arith) (λ e. omega arith) x

-- at the start the chains say what the forests say
pub shown-forests : (n a w : ℕ) (forests : List (List ForestRow)) (cs : List ChainView) (j : ℕ) (rows : List ForestRow) → a + length forests ≤ n → slice_get forests j ≡ Some rows
    → ((b x : ℕ) → a ≤ b → b < n → chain_at cs (number n b x) ≡ no_chain) → (x : ℕ) → IsShown (forest_in rows) x (latest (chain_at (with_forests n a forests cs) (number n (a + j) x)) w)
shown-forests n a w [] cs j rows le at none x = absurd (cc)
shown-forests n a w (first ∷ forests) cs zero rows le at none x =
    let same : first ≡ rows = cc in
    let e : a + 0 ≡ a = omega arith in
    let here = shown-rows n a w first cs (omega arith) (λ y. none a y (omega arith) (omega arith)) x in
    let rest = ap (λ (c : ChainView). latest c w) (forests-below n (a + 1) forests (with_rows n a first cs) a x (omega arith) (omega arith)) in
    subst (λ (rs : List ForestRow). IsShown (forest_in rs) x (latest (chain_at (with_forests n a (first ∷ forests) cs) (number n (a + 0) x)) w)) same
    (subst (λ b. IsShown (forest_in first) x (latest (chain_at (with_forests n a (first ∷ forests) cs) (number n b x)) w)) (sym e)
    (subst (λ (s : HeldView). IsShown (forest_in first) x s) (sym rest) here))
shown-forests n a w (first ∷ forests) cs (suc j) rows le at none x =
    let e : a + suc j ≡ a + 1 + j = omega arith in
    subst (λ b. IsShown (forest_in rows) x (latest (chain_at (with_forests n a (first ∷ forests) cs) (number n b x)) w)) (sym e)
    (shown-forests n (a + 1) w forests (with_rows n a first cs) j rows (omega arith) at
    (λ b y l bn. rows-other n a b first cs (omega arith) bn (λ s. omega arith) y ∙ none b y (omega arith) bn) x)
