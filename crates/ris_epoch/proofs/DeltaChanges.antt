-- The changes that deltas make of the forests of all analyses.
use Rattle.std.proofs.Common.{◌≡◌, ◌↔◌, ℕ, zero, suc, ◌+◌, ◌<◌, ◌≤◌, ◌==◌, inl, inr, if◌then◌else◌, IsTrue, Bool, List, [], ◌∷◌, ◌++◌, length, map, get_or, drop, Some, arith, refl, sym, subst, ap, ◌∙◌, append_assoc, eq-eqb}
use Rattle.std.specs.List.{All, AllPairs, Contains, filter, slice_get}
use Rattle.std.proofs.lemmas.Bool.{ne_eqb}
use Rattle.std.proofs.Math.ListN.{drop_of_length-le}
use Rattle.std.proofs.lemmas.List.{append-nil}
use Rattle.std.proofs.lemmas.List.Kept.{AllPairs-cons}
use Rattle.std.proofs.lemmas.Option.{slice_get_within}
use Rattle.std.proofs.lemmas.List.Elements.{All-contains, All-head, All-tail, Contains-append_cases, Contains-append_left, Contains-append_right}
use Rattle.ris_base.specs.Forest.{Forest}
use Rattle.ris_base.specs.Limits.{vertex_limit}
use Rattle.ris_base.specs.Lists.{EachPair}
use Rattle.ris_base.specs.Records.{AreChanges, IsOther, IsWithin, overwritten, overwritten_from, with_change}
use Rattle.ris_base.specs.Value.{AreMoved, Moves}
use Rattle.ris_base.specs.declared.analyses.Spec.{Spec}
use Rattle.ris_base.specs.declared.graphs.PlainGraph.{PlainGraph}
use Rattle.ris_base.specs.declared.records.Change.{Change}
use Rattle.ris_base.proofs.ListLemmas.{All-from_Contains, Contains-filter, Contains-first, Contains-none, Contains-rest}
use Rattle.ris_forest.specs.Commits.{AreAscendingRows, with_row, with_rows}
use Rattle.ris_forest.specs.declared.deltas.DeltaRow.{DeltaRow}
use Rattle.ris_epoch.specs.Driving.{change_of, changes_from}
use Rattle.ris_epoch.proofs.Stands.{Contains-map, Contains-mapped}

-- Forests

-- one change after another
overwritten-append : (a : ℕ) (F : Forest) (xs ys : List Change) → overwritten a F (xs ++ ys) ≡ overwritten a (overwritten a F xs) ys
unfolding overwritten
overwritten-append a F [] ys = refl
overwritten-append a F (x ∷ xs) ys = overwritten-append a (if x.analysis == a then with_change F x else F) xs ys

-- the changes of an analysis's own delta
overwritten-own : (a : ℕ) (F : Forest) (delta : List DeltaRow) → overwritten a F (map (change_of a) delta) ≡ with_rows F delta
unfolding overwritten with_rows
overwritten-own a F [] = refl
overwritten-own a F (row ∷ delta) =
    ap (λ (b : Bool). overwritten a (if b then with_change F (change_of a row) else F) (map (change_of a) delta)) (eq-eqb a a refl)
    ∙ overwritten-own a (with_row F row) delta

-- those of another analysis's
overwritten-other : (a b : ℕ) (F : Forest) (delta : List DeltaRow) → ¬ (b ≡ a) → overwritten a F (map (change_of b) delta) ≡ F
unfolding overwritten
overwritten-other a b F [] other = refl
overwritten-other a b F (row ∷ delta) other =
    ap (λ (t : Bool). overwritten a (if t then with_change F (change_of b row) else F) (map (change_of b) delta)) (ne_eqb b a other) ∙ overwritten-other a b F delta other

-- those of later analyses
overwritten-later : (a b : ℕ) (F : Forest) (deltas : List (List DeltaRow)) → a < b → overwritten a F (changes_from b deltas) ≡ F
unfolding overwritten changes_from
overwritten-later a b F [] less = refl
overwritten-later a b F (delta ∷ deltas) less =
    overwritten-append a F (map (change_of b) delta) (changes_from (b + 1) deltas)
    ∙ ap (λ (G : Forest). overwritten a G (changes_from (b + 1) deltas)) (overwritten-other a b F delta (λ e. absurd (omega arith)))
    ∙ overwritten-later a (b + 1) F deltas (omega arith)

-- changes of earlier analyses leave the later ones
from-earlier : (a b : ℕ) (forests : List Forest) (delta : List DeltaRow) (rest : List Change) → b < a
    → overwritten_from a forests (map (change_of b) delta ++ rest) ≡ overwritten_from a forests rest
unfolding overwritten_from
from-earlier a b [] delta rest less = refl
from-earlier a b (F ∷ forests) delta rest less =
    ap (λ (G : Forest). G ∷ overwritten_from (a + 1) forests (map (change_of b) delta ++ rest))
    (overwritten-append a F (map (change_of b) delta) rest ∙ ap (λ (G : Forest). overwritten a G rest) (overwritten-other a b F delta (λ e. absurd (omega arith))))
    ∙ ap (λ (Fs : List Forest). overwritten a F rest ∷ Fs) (from-earlier (a + 1) b forests delta rest (omega arith))

-- each forest is overwritten by its delta
abbrev pub with_deltas : List Forest → List (List DeltaRow) → List Forest
with_deltas [] deltas = []
with_deltas (F ∷ forests) [] = F ∷ forests
with_deltas (F ∷ forests) (delta ∷ deltas) = with_rows F delta ∷ with_deltas forests deltas

none-from : (a : ℕ) (forests : List Forest) → overwritten_from a forests [] ≡ forests
unfolding overwritten overwritten_from
none-from a [] = refl
none-from a (F ∷ forests) = ap (λ (Fs : List Forest). F ∷ Fs) (none-from (a + 1) forests)

-- the forests overwritten by the changes of deltas
pub changes-rows : (a : ℕ) (forests : List Forest) (deltas : List (List DeltaRow)) → overwritten_from a forests (changes_from a deltas) ≡ with_deltas forests deltas
unfolding overwritten_from changes_from
changes-rows a [] deltas = refl
changes-rows a (F ∷ forests) [] = none-from a (F ∷ forests)
changes-rows a (F ∷ forests) (delta ∷ deltas) =
    ap (λ (G : Forest). G ∷ overwritten_from (a + 1) forests (map (change_of a) delta ++ changes_from (a + 1) deltas))
    (overwritten-append a F (map (change_of a) delta) (changes_from (a + 1) deltas)
    ∙ ap (λ (G : Forest). overwritten a G (changes_from (a + 1) deltas)) (overwritten-own a F delta)
    ∙ overwritten-later a (a + 1) (with_rows F delta) deltas (omega arith))
    ∙ ap (λ (Fs : List Forest). with_rows F delta ∷ Fs)
    (from-earlier (a + 1) a forests delta (changes_from (a + 1) deltas) (omega arith) ∙ changes-rows (a + 1) forests deltas)

-- Changes

-- the vertices of a delta that moved
abbrev pub moved_vertices : List DeltaRow → List ℕ
moved_vertices delta = map (λ row. row.vertex) (filter (λ row. row.moved) delta)

-- a change of deltas is of a row of one of them
pub record IsFromRow (a : ℕ) (deltas : List (List DeltaRow)) (c : Change) : Type 0 where
  pub place : ℕ
  pub delta : List DeltaRow
  pub row : DeltaRow
  pub at : slice_get deltas place ≡ Some delta
  pub here : Contains delta row
  pub is : change_of (a + place) row ≡ c

pub from-row : (a : ℕ) (deltas : List (List DeltaRow)) (c : Change) → Contains (changes_from a deltas) c → IsFromRow a deltas c
unfolding changes_from
from-row a [] c h = absurd (Contains-none c h)
from-row a (delta ∷ deltas) c h = elim (Contains-append_cases (map (change_of a) delta) (changes_from (a + 1) deltas) c h) [
  | inl own ↦ (let r = Contains-map (change_of a) delta c own in
      record { place = 0; delta = delta; row = r.0; at = refl; here = r.1; is = ap (λ (n : ℕ). change_of n r.0) (let e : a + 0 ≡ a = omega arith in e) ∙ r.2 })
  | inr later ↦ (let r = from-row (a + 1) deltas c later in
      record { place = suc r.place; delta = r.delta; row = r.row; at = r.at; here = r.here; is = ap (λ (n : ℕ). change_of n r.row) (let e : a + suc r.place ≡ a + 1 + r.place = omega arith in e) ∙ r.is })
]

-- each row makes its change
pub row-change : (a : ℕ) (deltas : List (List DeltaRow)) (place : ℕ) (delta : List DeltaRow) (row : DeltaRow) → slice_get deltas place ≡ Some delta → Contains delta row
    → Contains (changes_from a deltas) (change_of (a + place) row)
unfolding changes_from
row-change a [] place delta row at here = absurd (cc)
row-change a (first ∷ deltas) zero delta row at here =
    let same : first ≡ delta = cc in
    let e : a ≡ a + 0 = omega arith in
    subst (λ (n : ℕ). Contains (map (change_of a) first ++ changes_from (a + 1) deltas) (change_of n row)) e
    (Contains-append_left (map (change_of a) first) (changes_from (a + 1) deltas) (change_of a row)
    (Contains-mapped (change_of a) first row (subst (λ (d : List DeltaRow). Contains d row) (sym same) here)))
row-change a (first ∷ deltas) (suc place) delta row at here =
    let e : a + 1 + place ≡ a + suc place = omega arith in
    Contains-append_right (map (change_of a) first) (changes_from (a + 1) deltas) (change_of (a + suc place) row)
    (subst (λ (n : ℕ). Contains (changes_from (a + 1) deltas) (change_of n row)) e (row-change (a + 1) deltas place delta row at here))

-- what holds of the items of two lists, pair by pair
pub pair-at : {X Y : Type 0} (P : X → Y → Type 0) (xs : List X) (ys : List Y) → EachPair P xs ys → (i : ℕ) (x : X) (y : Y)
    → slice_get xs i ≡ Some x → slice_get ys i ≡ Some y → P x y
pair-at P [] [] h i x y at there = absurd (cc)
pair-at P [] (y ∷ ys) h i a b at there = absurd h
pair-at P (x ∷ xs) [] h i a b at there = absurd h
pair-at P (x ∷ xs) (y ∷ ys) h zero a b at there =
    let same : x ≡ a = cc in
    let other : y ≡ b = cc in
    subst (λ (z : _). P z b) same (subst (λ (z : _). P x z) other h.0)
pair-at P (x ∷ xs) (y ∷ ys) h (suc i) a b at there = pair-at P xs ys h.1 i a b at there

-- the second has an item where the first has one
pub pair-other : {X Y : Type 0} (P : X → Y → Type 0) (xs : List X) (ys : List Y) → EachPair P xs ys → (i : ℕ) (x : X) → slice_get xs i ≡ Some x
    → (y : Y) × (slice_get ys i ≡ Some y)
pair-other P [] [] h i x at = absurd (cc)
pair-other P [] (y ∷ ys) h i a at = absurd h
pair-other P (x ∷ xs) [] h i a at = absurd h
pair-other P (x ∷ xs) (y ∷ ys) h zero a at = (y, refl)
pair-other P (x ∷ xs) (y ∷ ys) h (suc i) a at = pair-other P xs ys h.1 i a at

-- an item at a place stands in the list
Contains-slice_get : {X : Type 0} (xs : List X) (i : ℕ) (x : X) → slice_get xs i ≡ Some x → Contains xs x
Contains-slice_get [] i x at = absurd (cc)
Contains-slice_get (y ∷ ys) zero x at = let same : y ≡ x = cc in subst (λ (z : _). Contains (y ∷ ys) z) same (Contains-first y ys)
Contains-slice_get (y ∷ ys) (suc i) x at = Contains-rest y ys x (Contains-slice_get ys i x at)

-- both are as long
pub pair-length : {X Y : Type 0} (P : X → Y → Type 0) (xs : List X) (ys : List Y) → EachPair P xs ys → length xs ≡ length ys
pair-length P [] [] h = refl
pair-length P [] (y ∷ ys) h = absurd h
pair-length P (x ∷ xs) [] h = absurd h
pair-length P (x ∷ xs) (y ∷ ys) h = ap suc (pair-length P xs ys h.1)

-- a row is below those behind it
ascends-past : (row : DeltaRow) (delta : List DeltaRow) → AreAscendingRows (row ∷ delta) → (r : DeltaRow) → Contains delta r → row.vertex < r.vertex
ascends-past row delta h r at =
    let here : row.vertex < (get_or delta at.0 r).vertex = h 0 (suc at.0) r (omega arith) (let less = at.1 in omega arith) in
    subst (λ (x : DeltaRow). row.vertex < x.vertex) at.2 here

ascends-rest : (row : DeltaRow) (delta : List DeltaRow) → AreAscendingRows (row ∷ delta) → AreAscendingRows delta
ascends-rest row delta h i j d less within = h (suc i) (suc j) d (omega arith) (omega arith)

-- the analysis of a later change
later-analysis : (a : ℕ) (deltas : List (List DeltaRow)) (c : Change) → Contains (changes_from a deltas) c → a ≤ c.analysis
later-analysis a deltas c at = let r = from-row a deltas c at in let is = ap (λ (x : Change). x.analysis) r.is in omega arith

once-delta : (a : ℕ) (delta : List DeltaRow) (later : List Change) → AreAscendingRows delta → ((c : Change) → Contains later c → a < c.analysis) → AllPairs IsOther later
    → AllPairs IsOther (map (change_of a) delta ++ later)
once-delta a [] later ascends past rest = rest
once-delta a (row ∷ delta) later ascends past rest =
    AllPairs-cons IsOther (change_of a row) (map (change_of a) delta ++ later)
    (All-from_Contains (IsOther (change_of a row)) (map (change_of a) delta ++ later) (λ c at. elim (Contains-append_cases (map (change_of a) delta) later c at) [
      | inl own ↦ (λ same. (let r = Contains-map (change_of a) delta c own in
          let up = ascends-past row delta ascends r.0 r.1 in let is = ap (λ (x : Change). x.vertex) r.2 in let bad = same.1 in absurd (omega arith)))
      | inr other ↦ (λ same. (let up = past c other in let bad = same.0 in absurd (omega arith)))
    ]))
    (once-delta a delta later (ascends-rest row delta ascends) past rest)

once-from : (a : ℕ) (deltas : List (List DeltaRow)) → All AreAscendingRows deltas → AllPairs IsOther (changes_from a deltas)
unfolding changes_from
once-from a [] all = λ i j d less within. absurd (omega arith)
once-from a (delta ∷ deltas) all =
    once-delta a delta (changes_from (a + 1) deltas) (All-head AreAscendingRows delta deltas all)
    (λ c at. (let up = later-analysis (a + 1) deltas c at in omega arith))
    (once-from (a + 1) deltas (All-tail AreAscendingRows delta deltas all))

-- deltas that tell exactly what moves are the changes between two graphs
pub are-changes : (before now : PlainGraph) (specs : List Spec) (deltas : List (List DeltaRow)) → All AreAscendingRows deltas
    → All (All (λ row. row.vertex < vertex_limit)) deltas
    → EachPair (λ spec delta. All (λ row. IsTrue row.moved ↔ Moves before now spec row.vertex) delta) specs deltas
    → EachPair (λ spec delta. AreMoved before now spec (moved_vertices delta)) specs deltas
    → AreChanges specs before now (changes_from 0 deltas)
are-changes before now specs deltas ascending within moved modified = record {
  within = All-from_Contains (IsWithin specs) (changes_from 0 deltas) (λ c at. (let r = from-row 0 deltas c at in
      let long = pair-length _ specs deltas modified in
      let place = slice_get_within deltas r.place r.delta r.at in
      let analysis = ap (λ (x : Change). x.analysis) r.is in
      let vertex = ap (λ (x : Change). x.vertex) r.is in
      let small = All-contains (λ (row : DeltaRow). row.vertex < vertex_limit) r.delta r.row
      (All-contains (All (λ (row : DeltaRow). row.vertex < vertex_limit)) deltas r.delta within (Contains-slice_get deltas r.place r.delta r.at)) r.here in
      record { analysis = (omega arith); vertex = (omega arith) }));
  once = once-from 0 deltas ascending;
  moved = λ c at spec here. (let r = from-row 0 deltas c at in
      let place : c.analysis ≡ r.place = (let is = ap (λ (x : Change). x.analysis) r.is in omega arith) in
      let all = pair-at _ specs deltas moved r.place spec r.delta (subst (λ (n : ℕ). slice_get specs n ≡ Some spec) place here) r.at in
      let one = All-contains (λ (row : DeltaRow). IsTrue row.moved ↔ Moves before now spec row.vertex) r.delta r.row all r.here in
      subst (λ (x : Change). IsTrue x.moved ↔ Moves before now spec x.vertex) r.is one);
  covered = λ a x spec at m. (let other = pair-other _ specs deltas modified a spec at in
      let its = pair-at _ specs deltas modified a spec other.0 at other.1 in
      let there = (its.each x).1 m in
      let row = Contains-map (λ (r : DeltaRow). r.vertex) (filter (λ (r : DeltaRow). r.moved) other.0) x there in
      let kept = Contains-filter (λ (r : DeltaRow). r.moved) other.0 row.0 row.1 in
      (change_of (0 + a) row.0, row-change 0 deltas a other.0 row.0 other.1 kept.0, (let e : 0 + a ≡ a = omega arith in e), row.2));
}

-- Steps

-- what is left from a place on begins with its item
drop-here : {X : Type 0} (xs : List X) (k : ℕ) (x : X) → slice_get xs k ≡ Some x → drop k xs ≡ x ∷ drop (k + 1) xs
drop-here [] k x at = absurd (cc)
drop-here (y ∷ xs) zero x at = let same : y ≡ x = cc in ap (λ (z : _). z ∷ xs) same
drop-here (y ∷ xs) (suc k) x at = drop-here xs k x at ∙ ap (λ (n : ℕ). x ∷ drop n (y ∷ xs)) (let e : suc (k + 1) ≡ suc k + 1 = omega arith in e)

-- the changes of the next delta come behind those before it
pub changes-next : (a : ℕ) (made : List Change) (deltas : List (List DeltaRow)) (delta : List DeltaRow) → slice_get deltas a ≡ Some delta
    → (made ++ map (change_of a) delta) ++ changes_from (a + 1) (drop (a + 1) deltas) ≡ made ++ changes_from a (drop a deltas)
unfolding changes_from
changes-next a made deltas delta at =
    append_assoc made (map (change_of a) delta) (changes_from (a + 1) (drop (a + 1) deltas))
    ∙ ap (λ (ds : List (List DeltaRow)). made ++ changes_from a ds) (sym (drop-here deltas a delta at))

-- and those of the next row
pub row-next : (a : ℕ) (made : List Change) (delta : List DeltaRow) (k : ℕ) (row : DeltaRow) → slice_get delta k ≡ Some row
    → (made ++ change_of a row ∷ []) ++ map (change_of a) (drop (k + 1) delta) ≡ made ++ map (change_of a) (drop k delta)
row-next a made delta k row at =
    append_assoc made (change_of a row ∷ []) (map (change_of a) (drop (k + 1) delta))
    ∙ ap (λ (rows : List DeltaRow). made ++ map (change_of a) rows) (sym (drop-here delta k row at))

-- nothing is left past the last delta
pub changes-end : (made : List Change) (deltas : List (List DeltaRow)) (a : ℕ) → length deltas ≤ a → made ++ changes_from a (drop a deltas) ≡ made
unfolding changes_from
changes-end made deltas a past = ap (λ (ds : List (List DeltaRow)). made ++ changes_from a ds) (drop_of_length-le deltas past) ∙ append-nil made
