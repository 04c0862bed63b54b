-- The chains that a table begins with, made in order of their numbers.
use Rattle.std.proofs.Common.{◌≡◌, ℕ, zero, suc, ◌+◌, ◌*◌, ◌/◌, ◌%◌, ◌<◌, ◌≤◌, List, [], ◌∷◌, ◌++◌, length, get_or, set, take, Some, arith, refl, inl, inr, sym, subst, ap, ◌∙◌}
use Rattle.std.specs.List.{All, slice_get}
use Rattle.std.proofs.lemmas.Bool.{cases_eq, eq-eqb, ne_eqb}
use Rattle.std.proofs.lemmas.List.{ext_get_or, get_or_append_left, get_or_push, get_or-set_same, get_or-set_other, length_push, length-set, take_all}
use Rattle.std.proofs.lemmas.List.Elements.{All-nil, All-head, All-tail, All-push}
use Rattle.std.proofs.lemmas.Nat.{div-add-mod'}
use Rattle.std.proofs.lemmas.Option.{slice_get_within}
use Rattle.std.proofs.Math.Nat.{mod-lt}
use Rattle.ris_base.specs.Forest.{value_in, parent_in}
use Rattle.ris_base.specs.declared.analyses.Value.{Value}
use Rattle.ris_base.specs.declared.forests.ForestRow.{ForestRow}
use Rattle.ris_base.specs.declared.forests.Parent.{Parent}
use Rattle.ris_history.specs.Chains.{HeldView, ChainView, no_chain, latest, number, chain_at, row_held, with_rows, with_forests}
use Rattle.ris_history.proofs.ChangeLemmas.{length-with_first, number-same, slice_get_some, take-next}
use Rattle.ris_history.proofs.TableLaws.{IsShown, shown-forests}
use Rattle.ris_history.proofs.TableLemmas.{IsBare, bare-with_forests, bare-later, bare-first}

-- How many chains there are

rows-longer : (n a : ℕ) (rows : List ForestRow) (cs : List ChainView) → length cs ≤ length (with_rows n a rows cs)
rows-longer n a [] cs = omega arith
rows-longer n a (row ∷ rows) cs =
    let more = rows-longer n a rows cs in
    let size = length-with_first (number n a row.vertex) (row_held row) (with_rows n a rows cs) in
    omega arith

forests-longer : (n a : ℕ) (forests : List (List ForestRow)) (cs : List ChainView) → length cs ≤ length (with_forests n a forests cs)
forests-longer n a [] cs = omega arith
forests-longer n a (rows ∷ forests) cs =
    let one = rows-longer n a rows cs in
    let more = forests-longer n (a + 1) forests (with_rows n a rows cs) in
    omega arith

rows-reach : (n a : ℕ) (rows : List ForestRow) (cs : List ChainView) (i : ℕ) (row : ForestRow) → slice_get rows i ≡ Some row → number n a row.vertex < length (with_rows n a rows cs)
rows-reach n a [] cs i row at = absurd (cc)
rows-reach n a (first ∷ rows) cs zero row at =
    let same : number n a first.vertex ≡ number n a row.vertex = ap (λ (r : ForestRow). number n a r.vertex) (let e : first ≡ row = cc in e) in
    let size = length-with_first (number n a first.vertex) (row_held first) (with_rows n a rows cs) in
    omega arith
rows-reach n a (first ∷ rows) cs (suc i) row at =
    let more = rows-reach n a rows cs i row at in
    let size = length-with_first (number n a first.vertex) (row_held first) (with_rows n a rows cs) in
    omega arith

-- the chain of each row of the forests is among them
pub forests-reach : (n a : ℕ) (forests : List (List ForestRow)) (cs : List ChainView) (b : ℕ) (rows : List ForestRow) (i : ℕ) (row : ForestRow)
    → slice_get forests b ≡ Some rows → slice_get rows i ≡ Some row → number n (a + b) row.vertex < length (with_forests n a forests cs)
forests-reach n a [] cs b rows i row at found = absurd (cc)
forests-reach n a (first ∷ forests) cs zero rows i row at found =
    let same : rows ≡ first = cc in
    let here = rows-reach n a first cs i row (ap (λ (rs : List ForestRow). slice_get rs i) (sym same) ∙ found) in
    let more = forests-longer n (a + 1) forests (with_rows n a first cs) in
    omega arith
forests-reach n a (first ∷ forests) cs (suc b) rows i row at found =
    let more = forests-reach n (a + 1) forests (with_rows n a first cs) b rows i row at found in
    let e : number n (a + 1 + b) row.vertex ≡ number n (a + suc b) row.vertex = omega arith in
    omega arith

rows-end : (n a m : ℕ) (rows : List ForestRow) (cs : List ChainView) → length cs ≤ m → All (λ row. number n a row.vertex < m) rows → length (with_rows n a rows cs) ≤ m
rows-end n a m [] cs low h = low
rows-end n a m (row ∷ rows) cs low h =
    let head = All-head (λ (r : ForestRow). number n a r.vertex < m) row rows h in
    let more = rows-end n a m rows cs low (All-tail (λ (r : ForestRow). number n a r.vertex < m) row rows h) in
    let size = length-with_first (number n a row.vertex) (row_held row) (with_rows n a rows cs) in
    omega arith

-- there is no chain behind those of the rows
forests-end : (n a m : ℕ) (forests : List (List ForestRow)) (cs : List ChainView) → length cs ≤ m
    → ((b : ℕ) (rows : List ForestRow) → slice_get forests b ≡ Some rows → All (λ row. number n (a + b) row.vertex < m) rows) → length (with_forests n a forests cs) ≤ m
forests-end n a m [] cs low h = low
forests-end n a m (rows ∷ forests) cs low h =
    let e : a + 0 ≡ a = omega arith in
    forests-end n (a + 1) m forests (with_rows n a rows cs)
    (rows-end n a m rows cs low (subst (λ b. All (λ (row : ForestRow). number n b row.vertex < m) rows) e (h zero rows refl)))
    (λ b rs at. let f : a + suc b ≡ a + 1 + b = omega arith in subst (λ d. All (λ (row : ForestRow). number n d row.vertex < m) rs) f (h (suc b) rs at))

-- What the chains are

-- the chain of a vertex of which rows of place 0 say this
abbrev pub begun : List ForestRow → ℕ → ChainView
begun rows x = record { first = record { place = 0; value = value_in rows x; parent = parent_in rows x }; later = [] }

bare-is : (first : HeldView) (later : List HeldView) (value : Value) (parent : Parent) → later ≡ [] → first.place ≡ 0
    → (latest (record { first = first; later = later }) 0).value ≡ value → (latest (record { first = first; later = later }) 0).parent ≡ parent
    → (let c : ChainView = record { first = first; later = later } in c) ≡ record { first = record { place = 0; value = value; parent = parent }; later = [] }
bare-is first [] value parent none place same_value same_parent =
    ap (λ p. let c : ChainView = record { first = record { place = p; value = first.value; parent = first.parent }; later = [] } in c) place
    ∙ ap (λ (v : Value). let c : ChainView = record { first = record { place = 0; value = v; parent = first.parent }; later = [] } in c) same_value
    ∙ ap (λ (p : Parent). let c : ChainView = record { first = record { place = 0; value = value; parent = p }; later = [] } in c) same_parent
bare-is first (held ∷ later) value parent none place same_value same_parent = absurd (cc)

chain_at-with_forests : (n : ℕ) (forests : List (List ForestRow)) (b x : ℕ) (rows : List ForestRow) → length forests ≤ n → slice_get forests b ≡ Some rows
    → chain_at (with_forests n 0 forests []) (number n b x) ≡ begun rows x
chain_at-with_forests n forests b x rows le at =
    let cs = with_forests n 0 forests [] in
    let c = chain_at cs (number n b x) in
    let e : 0 + b ≡ b = omega arith in
    let bare = bare-with_forests n 0 forests [] (All-nil IsBare) in
    let shown = subst (λ d. IsShown (record { value = value_in rows; parent = parent_in rows }) x (latest (chain_at (with_forests n 0 forests []) (number n d x)) 0)) e
    (shown-forests n 0 0 forests [] b rows (omega arith) at (λ d y l m. refl) x) in
    bare-is c.first c.later (value_in rows x) (parent_in rows x) (bare-later cs (number n b x) bare) (bare-first cs (number n b x) bare) shown.value shown.parent

-- Rows that are taken one after another

begun-none : (rows : List ForestRow) (x : ℕ) → All (λ row. ¬ (row.vertex ≡ x)) rows → begun rows x ≡ no_chain
unfolding value_in parent_in
begun-none [] x h = refl
begun-none (row ∷ rows) x h =
    let other = ne_eqb row.vertex x (All-head (λ (r : ForestRow). ¬ (r.vertex ≡ x)) row rows h) in
    rw other (begun-none rows x (All-tail (λ (r : ForestRow). ¬ (r.vertex ≡ x)) row rows h))

begun-push_same : (rows : List ForestRow) (row : ForestRow) (x : ℕ) → All (λ r. ¬ (r.vertex ≡ x)) rows → row.vertex ≡ x
    → begun (rows ++ row ∷ []) x ≡ record { first = row_held row; later = [] }
unfolding value_in parent_in
begun-push_same [] row x h e = let own = eq-eqb row.vertex x e in rw own refl
begun-push_same (first ∷ rows) row x h e =
    let other = ne_eqb first.vertex x (All-head (λ (r : ForestRow). ¬ (r.vertex ≡ x)) first rows h) in
    rw other (begun-push_same rows row x (All-tail (λ (r : ForestRow). ¬ (r.vertex ≡ x)) first rows h) e)

begun-push_other : (rows : List ForestRow) (row : ForestRow) (x : ℕ) → ¬ (row.vertex ≡ x) → begun (rows ++ row ∷ []) x ≡ begun rows x
unfolding value_in parent_in
begun-push_other [] row x h = let other = ne_eqb row.vertex x h in rw other refl
begun-push_other (first ∷ rows) row x h = elim (cases_eq first.vertex x) [
  | inl e ↦ (let own = eq-eqb first.vertex x e in rw own refl)
  | inr e ↦ (let other = ne_eqb first.vertex x e in rw other (begun-push_other rows row x h))
]

-- the first k chains are made, from so many rows of each forest, whose chains are all among them
pub record IsFilled (n k : ℕ) (forests : List (List ForestRow)) (taken : List ℕ) (chains : List ChainView) : Type 0 where
  pub size : length chains ≡ k
  pub sizes : length taken ≡ n
  pub few : (b : ℕ) → get_or taken b 0 ≤ k
  pub below : (b : ℕ) (rows : List ForestRow) → slice_get forests b ≡ Some rows → All (λ row. number n b row.vertex < k) (take (get_or taken b 0) rows)
  pub made : (b x : ℕ) (rows : List ForestRow) → slice_get forests b ≡ Some rows → number n b x < k → chain_at chains (number n b x) ≡ begun (take (get_or taken b 0) rows) x

-- one chain more, from rows of which no other forest gives more
filled-more : (n k a x : ℕ) (forests : List (List ForestRow)) (taken more : List ℕ) (chains : List ChainView) (rows : List ForestRow) (c : ChainView)
    → length forests ≡ n → a < n → number n a x ≡ k → slice_get forests a ≡ Some rows → IsFilled n k forests taken chains
    → length more ≡ length taken → get_or more a 0 ≤ k + 1 → ((b : ℕ) → ¬ (b ≡ a) → get_or more b 0 ≡ get_or taken b 0)
    → All (λ row. number n a row.vertex < k + 1) (take (get_or more a 0) rows)
    → ((y : ℕ) → ¬ (y ≡ x) → begun (take (get_or more a 0) rows) y ≡ begun (take (get_or taken a 0) rows) y)
    → c ≡ begun (take (get_or more a 0) rows) x → IsFilled n (k + 1) forests more (chains ++ c ∷ [])
filled-more n k a x forests taken more chains rows c count an place at h sizes few others below same is =
    record {
      size = (let s = length_push chains c in let t = h.size in omega arith);
      sizes = sizes ∙ h.sizes;
      few = λ b. elim (cases_eq b a) [
        | inl e ↦ subst (λ i. get_or more i 0 ≤ k + 1) (sym e) few
        | inr e ↦ (let o = others b e in let f = h.few b in omega arith)
      ];
      below = λ b rs found. elim (cases_eq b a) [
        | inl e ↦
            subst (λ (r : List ForestRow). All (λ (row : ForestRow). number n b row.vertex < k + 1) (take (get_or more b 0) r)) (own b rs found e)
            (subst (λ i. All (λ (row : ForestRow). number n i row.vertex < k + 1) (take (get_or more i 0) rows)) (sym e) below)
        | inr e ↦
            subst (λ i. All (λ (row : ForestRow). number n b row.vertex < k + 1) (take i rs)) (sym (others b e))
            (λ i d lt. let low = h.below b rs found i d lt in omega arith)
      ];
      made = λ b y rs found low. elim (cases_eq (number n b y) k) [
        | inl e ↦
            let both = number-same n b y a x (within b rs found) an (e ∙ sym place) in
            get_or_push chains c no_chain (number n b y) (let t = h.size in omega arith) ∙ is
            ∙ ap (λ (r : List ForestRow). begun (take (get_or more a 0) r) x) (own b rs found both.0)
            ∙ sym (ap (λ i. begun (take (get_or more i 0) rs) y) both.0 ∙ ap (begun (take (get_or more a 0) rs)) both.1)
        | inr e ↦
            get_or_append_left chains (c ∷ []) no_chain (number n b y) (let t = h.size in omega arith) ∙ h.made b y rs found (omega arith) ∙ sym (rest b y rs found e)
      ];
    }
  where
    own : (b : ℕ) (rs : List ForestRow) → slice_get forests b ≡ Some rs → b ≡ a → rows ≡ rs
    own b rs found e = let f = sym (ap (slice_get forests) e) ∙ found in cc

    within : (b : ℕ) (rs : List ForestRow) → slice_get forests b ≡ Some rs → b < n
    within b rs found = let l = slice_get_within forests b rs found in omega arith

    rest : (b y : ℕ) (rs : List ForestRow) → slice_get forests b ≡ Some rs → ¬ (number n b y ≡ k) → begun (take (get_or more b 0) rs) y ≡ begun (take (get_or taken b 0) rs) y
    rest b y rs found e = elim (cases_eq b a) [
      | inl f ↦
          subst (λ (r : List ForestRow). begun (take (get_or more b 0) r) y ≡ begun (take (get_or taken b 0) r) y) (own b rs found f)
          (subst (λ i. begun (take (get_or more i 0) rows) y ≡ begun (take (get_or taken i 0) rows) y) (sym f)
          (same y (λ g. e (ap (λ i. number n i y) f ∙ ap (number n a) g ∙ place))))
      | inr f ↦ ap (λ i. begun (take i rs) y) (others b f)
    ]

-- the rows that were taken before are of other vertices
taken-others : (n k a x : ℕ) (rows : List ForestRow) → number n a x ≡ k → All (λ row. number n a row.vertex < k) rows → All (λ row. ¬ (row.vertex ≡ x)) rows
taken-others n k a x rows place h i d lt e = let low = h i d lt in let f = ap (number n a) e in absurd (omega arith)

-- a chain that begins with the next row of its forest
pub filled-row : (n k a x : ℕ) (forests : List (List ForestRow)) (taken : List ℕ) (chains : List ChainView) (rows : List ForestRow) (row : ForestRow) (c : ChainView)
    → length forests ≡ n → a < n → number n a x ≡ k → slice_get forests a ≡ Some rows → IsFilled n k forests taken chains
    → slice_get rows (get_or taken a 0) ≡ Some row → row.vertex ≡ x → c ≡ record { first = row_held row; later = [] }
    → IsFilled n (k + 1) forests (set taken a (get_or taken a 0 + 1)) (chains ++ c ∷ [])
filled-row n k a x forests taken chains rows row c count an place at h next own is =
    let m = get_or taken a 0 in
    let more = set taken a (get_or taken a 0 + 1) in
    let here : get_or (set taken a (get_or taken a 0 + 1)) a 0 ≡ get_or taken a 0 + 1 = get_or-set_same taken a (m + 1) 0 (let s = h.sizes in omega arith) in
    let grown : take (get_or (set taken a (get_or taken a 0 + 1)) a 0) rows ≡ take (get_or taken a 0) rows ++ row ∷ [] = ap (λ i. take i rows) here ∙ take-next rows m row next in
    let few = h.few a in
    let below = h.below a rows at in
    filled-more n k a x forests taken more chains rows c count an place at h (length-set taken a (m + 1)) (omega arith)
    (λ b e. get_or-set_other taken a b (m + 1) 0 e)
    (subst (All (λ (r : ForestRow). number n a r.vertex < k + 1)) (sym grown)
    (All-push (λ (r : ForestRow). number n a r.vertex < k + 1) (take m rows) row (λ i d lt. let low = below i d lt in omega arith)
    (let f = ap (number n a) own in omega arith)))
    (λ y e. ap (λ (rs : List ForestRow). begun rs y) grown ∙ begun-push_other (take m rows) row y (λ f. e (sym f ∙ own)))
    (is ∙ sym (ap (λ (rs : List ForestRow). begun rs x) grown ∙ begun-push_same (take m rows) row x (taken-others n k a x (take m rows) place below) own))

-- a chain that says nothing
pub filled-empty : (n k a x : ℕ) (forests : List (List ForestRow)) (taken : List ℕ) (chains : List ChainView) (rows : List ForestRow) (c : ChainView)
    → length forests ≡ n → a < n → number n a x ≡ k → slice_get forests a ≡ Some rows → IsFilled n k forests taken chains → c ≡ no_chain
    → IsFilled n (k + 1) forests taken (chains ++ c ∷ [])
filled-empty n k a x forests taken chains rows c count an place at h is =
    let few = h.few a in
    let below = h.below a rows at in
    filled-more n k a x forests taken taken chains rows c count an place at h refl (omega arith) (λ b e. refl)
    (λ i d lt. let low = below i d lt in omega arith) (λ y e. refl)
    (is ∙ sym (begun-none (take (get_or taken a 0) rows) x (taken-others n k a x (take (get_or taken a 0) rows) place below)))

-- where all rows are taken, the chains are those of the forests
pub filled-all : (n m : ℕ) (forests : List (List ForestRow)) (taken : List ℕ) (chains : List ChainView) → length forests ≡ n → m ≤ 4294967296 * n
    → m ≤ length (with_forests n 0 forests []) → IsFilled n m forests taken chains
    → ((b : ℕ) (rows : List ForestRow) → slice_get forests b ≡ Some rows → length rows ≤ get_or taken b 0) → chains ≡ with_forests n 0 forests []
filled-all n m forests taken chains count small needed h all =
    ext_get_or no_chain chains (with_forests n 0 forests []) (let s = h.size in let e = end in omega arith) (λ k lt. at k (let s = h.size in omega arith))
  where
    whole : (b : ℕ) (rows : List ForestRow) → slice_get forests b ≡ Some rows → take (get_or taken b 0) rows ≡ rows
    whole b rows found = take_all (get_or taken b 0) rows (all b rows found)

    end : length (with_forests n 0 forests []) ≤ m
    end = forests-end n 0 m forests [] (omega arith)
        (λ b rows found. let e : b ≡ 0 + b = omega arith in subst (λ d. All (λ (row : ForestRow). number n d row.vertex < m) rows) e
        (subst (All (λ (row : ForestRow). number n b row.vertex < m)) (whole b rows found) (h.below b rows found)))

    at_number : (b x : ℕ) → b < n → number n b x < m → chain_at chains (number n b x) ≡ chain_at (with_forests n 0 forests []) (number n b x)
    at_number b x bn lt =
        let found = slice_get_some forests b (omega arith) in
        h.made b x found.0 found.1 lt ∙ ap (λ (rows : List ForestRow). begun rows x) (whole b found.0 found.1)
        ∙ sym (chain_at-with_forests n forests b x found.0 (omega arith) found.1)

    at : (k : ℕ) → k < m → chain_at chains k ≡ chain_at (with_forests n 0 forests []) k
    at k lt =
        let some : zero < n = omega arith in
        let is = div-add-mod' k n in
        subst (λ i. chain_at chains i ≡ chain_at (with_forests n 0 forests []) i) is (at_number (k % n) (k / n) (mod-lt k some) (omega arith))
