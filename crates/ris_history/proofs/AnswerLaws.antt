-- That what a history answers meets the definition of an answer, for all records that it stands for.
use Rattle.std.proofs.Common.{◌≡◌, ◌≢◌, ℕ, zero, suc, ◌+◌, ◌-◌, ◌<◌, ◌≤◌, ◌↔◌, Bool, true, false, if◌then◌else◌, ◌⊎◌, List, [], ◌∷◌, ◌++◌, length, take, Option, Some, None, Result, Ok, Err, arith, refl, inl, inr, sym, subst, ap, ◌∙◌}
use Rattle.std.specs.Prelude.{fold, nat_lt, IsTrue}
use Rattle.std.specs.List.{All, slice_get, Contains}
use Rattle.std.specs.Option.{IsSomeAnd}
use Rattle.std.proofs.lemmas.Bool.{cases_lt, eqb-true, ltb-true, ltb-false}
use Rattle.std.proofs.lemmas.List.{get_or_past, take-map, map-append}
use Rattle.std.proofs.lemmas.List.Elements.{All-nil, All-cons, All-contains}
use Rattle.std.proofs.lemmas.Map.Steps.{length-le_from_distinct_below}
use Rattle.std.proofs.lemmas.Map.Views.{Contains-from_any}
use Rattle.std.proofs.lemmas.Option.{slice_get_within}
use Rattle.std.proofs.Math.Nat.{mul-le-mul_left, mul-le-mul_right}
use Rattle.ris_algo.proofs.Rooted.{simple_path}
use Rattle.ris_algo.proofs.Vertices.{IsDistinct-from_once}
use Rattle.ris_base.specs.Answers.{Answers, IsAt, IsBarred}
use Rattle.ris_base.specs.Forest.{Forest, IsForest, IsParent, IsPath, Follows, vertex_of}
use Rattle.ris_base.specs.Lines.{front, floor}
use Rattle.ris_base.specs.Lists.{unless}
use Rattle.ris_base.proofs.LineLemmas.{after-take, after-entry, front-entry}
use Rattle.ris_base.proofs.ListLemmas.{Contains-none}
use Rattle.ris_base.specs.Records.{IsWithin, IsRightLine, lines_of, forests_at, setup_for}
use Rattle.ris_base.specs.Requests.{after, entered}
use Rattle.ris_base.specs.Value.{IsValue, AreMoved, Moves}
use Rattle.ris_base.specs.declared.analyses.Spec.{Spec}
use Rattle.ris_base.specs.declared.analyses.Value.{Value}
use Rattle.ris_base.specs.declared.analyses.Value.TheVariants.{Absent, Unreached, Num}
use Rattle.ris_base.specs.declared.forests.Parent.TheVariants as parent
use Rattle.ris_base.specs.declared.forests.Parent.{Parent}
use Rattle.ris_base.specs.declared.graphs.PlainGraph.{PlainGraph}
use Rattle.ris_base.specs.declared.lines.Entry.{Entry}
use Rattle.ris_base.specs.declared.lines.Line.{Line}
use Rattle.ris_base.specs.declared.lines.Line.TheVariants as line
use Rattle.ris_base.specs.declared.records.Change.{Change}
use Rattle.ris_base.specs.declared.records.Record.{Record}
use Rattle.ris_base.specs.declared.records.Start.{Start}
use Rattle.ris_base.specs.declared.replies.ReadAnswer.TheVariants as answer
use Rattle.ris_base.specs.declared.replies.ReadRefusal.{ReadRefusal}
use Rattle.ris_base.specs.declared.replies.ReadRefusal.TheVariants as denial
use Rattle.ris_base.specs.declared.replies.LogLine.TheVariants.{Answer}
use Rattle.ris_base.specs.declared.replies.ReadAnswer.{ReadAnswer}
use Rattle.ris_base.specs.declared.requests.Question.{Question}
use Rattle.ris_base.specs.declared.requests.Question.TheVariants as question
use Rattle.ris_history.specs.Applied.{opened, opened_table, applied, moved_by}
use Rattle.ris_history.specs.declared.moves.Moved.{Moved}
use Rattle.ris_history.specs.Chains.{ChainView, no_chain, latest, number, kept_in}
use Rattle.ris_history.specs.HistoryView.{TableView, HistoryView, shown, moved_at}
use Rattle.ris_history.specs.Reads.{refusal_at, unless_refused, climb, path_by, path_in, IsGiven, IsAskableOf, IsAsked, IsOfVertices, IsAnswer, AreVerticesOf, reply_of, value_reply, parent_reply, path_reply, modified_reply}
use Rattle.ris_history.specs.Standing.{StandsFor, kept_count}
use Rattle.ris_history.proofs.FloorLaws.{Tells, tells}
use Rattle.ris_history.proofs.KeptLaws.{kept}
use Rattle.ris_history.proofs.StandLemmas.{fit, each-at, taken-one}
use Rattle.ris_history.proofs.MovedLaws.{entered-at}
use Rattle.ris_history.proofs.MovedLemmas.{moving, moved-by}
use Rattle.ris_history.proofs.ChangeLemmas.{take-next}
use Rattle.ris_algo.proofs.Unique.{Moves-none}
use Rattle.ris_history.proofs.TableLaws.{IsShown}
use Rattle.ris_history.proofs.ValueLaws.{values, analyses-fold}

-- where no test holds, and where the first or the second does
neither : (a b : Bool) (f low : ℕ) → (let o : Option ReadRefusal = if a then Some (denial.NotYet f) else (if b then Some (denial.Released f low) else None) in o) ≡ None
    → (a ≡ false) × (b ≡ false)
neither true b f low e = absurd (cc)
neither false true f low e = absurd (cc)
neither false false f low e = (refl, refl)

either : (a b : Bool) (f low : ℕ) (r : ReadRefusal) → (let o : Option ReadRefusal = if a then Some (denial.NotYet f) else (if b then Some (denial.Released f low) else None) in o) ≡ Some r
    → ((a ≡ true) × (r ≡ denial.NotYet f)) ⊎ ((a ≡ false) × (b ≡ true) × (r ≡ denial.Released f low))
either true b f low r e = inl (refl, cc)
either false true f low r e = inr (refl, refl, cc)
either false false f low r e = absurd (cc)

pub to_some_and : {X : Type 0} (P : X → Type 0) (o : Option X) (x : X) → o ≡ Some x → P x → IsSomeAnd o P
to_some_and P None x e h = absurd (cc)
to_some_and P (Some y) x e h = let same : x ≡ y = cc in subst P same h

module _ (h : HistoryView) (opening : PlainGraph) (specs : List Spec) (start : Start) (records : List Record) (s : StandsFor h opening specs start records) where
  -- what the history says of its lines
  pub tells-of : Tells h start.sessions (lines_of records)
  tells-of = subst (λ (k : HistoryView). Tells k start.sessions (lines_of records)) (sym s.held) (tells start records (fit opening specs start records s.right).within)

  pub front-of : h.table.front ≡ front (lines_of records)
  front-of = tells-of.front

  pub floor-of : h.floor ≡ floor start.sessions (lines_of records)
  floor-of = tells-of.floor

  pub kept-of : kept_in h.table.chains ≡ kept_count start.sessions records
  kept-of =
      let f = fit opening specs start records s.right in
      ap (λ (k : HistoryView). kept_in k.table.chains) s.held ∙ kept start records f.own f.taken f.within

  -- it has as many analyses as there are
  pub analyses-of : h.table.analyses ≡ length start.forests
  unfolding opened opened_table
  analyses-of = ap (λ (k : HistoryView). k.table.analyses) s.held ∙ analyses-fold (opened start) records

  pub specs-of : h.table.analyses ≡ length specs
  specs-of = analyses-of ∙ (fit opening specs start records s.right).size

  -- a place that can be read
  at-of : (v : ℕ) → refusal_at h v ≡ None → IsAt (setup_for opening specs start) (lines_of records) v h.table.front v
  at-of v e =
      let tests = neither (nat_lt h.table.front v) (nat_lt v h.floor) h.table.front h.floor e in
      let f = front-of in
      let low = floor-of in
      let made = ltb-false h.table.front v tests.0 in
      let kept_place = ltb-false v h.floor tests.1 in
      record { of_front = f; of_place = refl; made = omega arith; kept = omega arith }

  -- a place that can't
  barred-of : (v : ℕ) (r : ReadRefusal) → refusal_at h v ≡ Some r → IsBarred (setup_for opening specs start) (lines_of records) (Some v) r
  barred-of v r e =
      let f = front-of in
      let low = floor-of in
      elim (either (nat_lt h.table.front v) (nat_lt v h.floor) h.table.front h.floor r e) [
        | inl x ↦
            let past = ltb-true h.table.front v x.0 in
            subst (IsBarred (setup_for opening specs start) (lines_of records) (Some v)) (sym x.1) (f, (omega arith))
        | inr x ↦
            let within = ltb-false h.table.front v x.0 in
            let below = ltb-true v h.floor x.1 in
            subst (IsBarred (setup_for opening specs start) (lines_of records) (Some v)) (sym x.2) (f, low, (omega arith), (omega arith))
      ]

  -- the forest of a place that can be read
  pub record Standing (v a : ℕ) : Type 0 where
    pub spec : Spec
    pub forest : Forest
    pub has_spec : slice_get specs a ≡ Some spec
    pub has_forest : slice_get (forests_at start records v) a ≡ Some forest
    pub is : IsForest (after opening (lines_of records) v) spec forest
    pub says : (x : ℕ) → IsShown forest x (shown h.table v a x)

  pub standing : (v a : ℕ) → refusal_at h v ≡ None → a < h.table.analyses → Standing v a
  standing v a e an =
      let at = at-of v e in
      let all = fit opening specs start records s.right in
      let many = analyses-of in
      let size = all.size in
      let both = each-at (IsForest (after opening (lines_of records) v)) specs (forests_at start records v) a (s.right.forests v at.made) (omega arith) in
      let low = at.kept in
      let floor_is = floor-of in
      let same = ap (λ (k : HistoryView). k.floor) s.held in
      record {
        spec = both.0;
        forest = both.1;
        has_spec = both.2;
        has_forest = both.3;
        is = both.4;
        says = λ x. subst (λ (k : HistoryView). IsShown both.1 x (shown k.table v a x)) (sym s.held)
            (values start records v a x both.1 all.taken (omega arith) both.3 (omega arith));
      }

-- Values and parents

-- the value that the history holds answers
pub value-answers : (h : HistoryView) (v a x : ℕ) → a < h.table.analyses → IsAnswer h (question.Value v a x) (value_reply h.table.front v (unless_refused h v (shown h.table v a x).value))
value-answers h v a x an opening specs start records s = go (refusal_at h v) refl
  where
    go : (o : Option ReadRefusal) → refusal_at h v ≡ o
        → Answers (setup_for opening specs start) (lines_of records) (forests_at start records) (question.Value v a x) (value_reply h.table.front v (unless o (shown h.table v a x).value))
    go None e =
        let stands = standing h opening specs start records s v a e an in
        record {
          bare = (
            at-of h opening specs start records s v e,
            to_some_and (λ spec. IsValue (after opening (lines_of records) v) spec x (shown h.table v a x).value) (slice_get specs a) stands.spec stands.has_spec
                (subst (IsValue (after opening (lines_of records) v) stands.spec x) (sym (stands.says x).value) (stands.is.values x)),
          );
          agrees = tt;
        }
    go (Some r) e = record { bare = barred-of h opening specs start records s v r e; agrees = tt }

-- the parent that the history holds answers
pub parent-answers : (h : HistoryView) (v a x : ℕ) → a < h.table.analyses → IsAnswer h (question.Parent v a x) (parent_reply h.table.front v (unless_refused h v (shown h.table v a x).parent))
parent-answers h v a x an opening specs start records s = go (refusal_at h v) refl
  where
    go : (o : Option ReadRefusal) → refusal_at h v ≡ o
        → Answers (setup_for opening specs start) (lines_of records) (forests_at start records) (question.Parent v a x) (parent_reply h.table.front v (unless o (shown h.table v a x).parent))
    go None e =
        let stands = standing h opening specs start records s v a e an in
        let within = slice_get_within specs a stands.spec stands.has_spec in
        record {
          bare = (at-of h opening specs start records s v e, within);
          agrees = to_some_and (λ F. F.parent x ≡ (shown h.table v a x).parent) (slice_get (forests_at start records v) a) stands.forest stands.has_forest (sym (stands.says x).parent);
        }
    go (Some r) e = record { bare = barred-of h opening specs start records s v r e; agrees = tt }

-- Paths

-- the parents that a history climbs are those of the path
climb-follows : (t : TableView) (v a : ℕ) (F : Forest) → ((y : ℕ) → IsShown F y (shown t v a y)) → (k x : ℕ) (stops : List ℕ) → Follows F x stops → length stops ≤ k
    → climb k t v a (shown t v a x).parent ≡ stops
climb-follows t v a F says k x [] follows few = go k (shown t v a x).parent ((says x).parent ∙ follows)
  where
    go : (n : ℕ) (p : Parent) → p ≡ parent.None → climb n t v a p ≡ []
    go zero p e = refl
    go (suc n) p e = ap (climb (suc n) t v a) e
climb-follows t v a F says zero x (y ∷ rest) follows few = absurd (omega arith)
climb-follows t v a F says (suc k) x (y ∷ rest) follows few =
    go (shown t v a x).parent refl (climb-follows t v a F says k y rest follows.1 (omega arith))
  where
    go : (p : Parent) → (shown t v a x).parent ≡ p → climb k t v a (shown t v a y).parent ≡ rest → climb (suc k) t v a p ≡ y ∷ rest
    go parent.None e more = absurd (let f = (says x).parent in let g = follows.0 in let b = ap vertex_of (sym f ∙ e) in cc)
    go (parent.From vertex source target weight) e more =
        let f = (says x).parent in
        let g = follows.0 in
        let b = ap vertex_of (sym f ∙ e) in
        let same : vertex ≡ y = cc in
        ap (λ z. z ∷ climb k t v a (shown t v a z).parent) same ∙ ap (λ (ys : List ℕ). y ∷ ys) more

-- a vertex with a number has a chain
numbered-within : (t : TableView) (v a : ℕ) (F : Forest) → a < t.analyses → ((y : ℕ) → IsShown F y (shown t v a y)) → (x c : ℕ) → F.value x ≡ Num c → x < length t.chains
numbered-within t v a F an says x c e = elim (cases_lt x (length t.chains)) [
  | inl less ↦ less
  | inr past ↦
      let up = mul-le-mul_right x (let one : 1 ≤ t.analyses = omega arith in one) in
      let none = ap (λ (s : ChainView). (latest s v).value) (get_or_past t.chains (number t.analyses a x) no_chain (beyond past)) in
      absurd (let f = (says x).value in cc)
]
  where
    beyond : length t.chains ≤ x → length t.chains ≤ number t.analyses a x
    beyond past = let up = mul-le-mul_left x (let one : 1 ≤ t.analyses = omega arith in one) in omega arith

-- all vertices on a path from one with a number have chains
path-within : (t : TableView) (v a : ℕ) (F : Forest) (g : PlainGraph) (spec : Spec) → a < t.analyses → ((y : ℕ) → IsShown F y (shown t v a y)) → IsForest g spec F
    → (x c : ℕ) (stops : List ℕ) → F.value x ≡ Num c → Follows F x stops → All (λ y. y < length t.chains) (x ∷ stops)
path-within t v a F g spec an says is x c [] e follows = All-cons (λ y. y < length t.chains) x [] (numbered-within t v a F an says x c e) (All-nil (λ y. y < length t.chains))
path-within t v a F g spec an says is x c (y ∷ rest) e follows =
    All-cons (λ z. z < length t.chains) x (y ∷ rest) (numbered-within t v a F an says x c e)
    (go (F.parent x) (is.parents x) follows.0 (λ d f. path-within t v a F g spec an says is y d rest f follows.1))
  where
    go : (p : Parent) → IsParent g spec F.value x p → vertex_of p ≡ Some y → ((d : ℕ) → F.value y ≡ Num d → All (λ z. z < length t.chains) (y ∷ rest)) → All (λ z. z < length t.chains) (y ∷ rest)
    go parent.None own f more = absurd (cc)
    go (parent.From vertex source target weight) from f more =
        let same : vertex ≡ y = cc in
        more from.number (ap F.value (sym same) ∙ from.above)

path-is : (t : TableView) (v a : ℕ) (F : Forest) (g : PlainGraph) (spec : Spec) → a < t.analyses → ((y : ℕ) → IsShown F y (shown t v a y)) → IsForest g spec F
    → (x : ℕ) → IsPath F x (path_in t v a x)
path-is t v a F g spec an says is x = go (shown t v a x).value (says x).value
  where
    go : (c : Value) → c ≡ F.value x → IsPath F x (path_by c t v a x)
    go Absent e = λ d f. absurd (cc)
    go Unreached e = λ d f. absurd (cc)
    go (Num c) e =
        let path = simple_path F (length g.vertices) x (is.rooted x c (sym e)) in
        let m = length t.chains in
        let inside = path-within t v a F g spec an says is x c path.stops (sym e) path.follows in
        let few : length (x ∷ path.stops) ≤ length t.chains =
        length-le_from_distinct_below (x ∷ path.stops) m (IsDistinct-from_once (x ∷ path.stops) path.once)
        (λ q h. All-contains (λ y. y < length t.chains) (x ∷ path.stops) q inside (Contains-from_any eqb-true q (x ∷ path.stops) h)) in
        let same = climb-follows t v a F says m x path.stops path.follows (omega arith) in
        (refl, (c, sym e), subst (Follows F x) (sym same) path.follows)

-- the path by what the history holds answers
pub path-answers : (h : HistoryView) (v a x : ℕ) → a < h.table.analyses → IsAnswer h (question.Path v a x) (path_reply h.table.front v (unless_refused h v (path_in h.table v a x)))
path-answers h v a x an opening specs start records s = go (refusal_at h v) refl
  where
    go : (o : Option ReadRefusal) → refusal_at h v ≡ o
        → Answers (setup_for opening specs start) (lines_of records) (forests_at start records) (question.Path v a x) (path_reply h.table.front v (unless o (path_in h.table v a x)))
    go None e =
        let stands = standing h opening specs start records s v a e an in
        let within = slice_get_within specs a stands.spec stands.has_spec in
        record {
          bare = (at-of h opening specs start records s v e, within);
          agrees = to_some_and (λ F. IsPath F x (path_in h.table v a x)) (slice_get (forests_at start records v) a) stands.forest stands.has_forest
              (path-is h.table v a stands.forest (after opening (lines_of records) v) stands.spec an stands.says stands.is x);
        }
    go (Some r) e = record { bare = barred-of h opening specs start records s v r e; agrees = tt }

-- Moved vertices

-- the graph before an entry, and that after it
graph-before : (opening : PlainGraph) (records : List Record) (i v : ℕ) → front (lines_of (take i records)) + 1 ≡ v
    → after opening (lines_of (take i records)) (front (lines_of (take i records))) ≡ after opening (lines_of records) (v - 1)
graph-before opening records i v place =
    let same : lines_of (take i records) ≡ take i (lines_of records) = sym (take-map (λ (r : Record). r.line) i records) in
    let last : front (lines_of (take i records)) ≡ v - 1 = omega arith in
    let size = ap front same in
    ap (λ (xs : List Line). after opening xs (front (lines_of (take i records)))) same
    ∙ after-take opening (lines_of records) i (front (lines_of (take i records))) (omega arith) ∙ ap (after opening (lines_of records)) last

graph-after : (opening : PlainGraph) (records : List Record) (i v : ℕ) (r : Record) (e : Entry) → slice_get records i ≡ Some r → r.line ≡ line.Entry e → front (lines_of (take i records)) + 1 ≡ v
    → entered (after opening (lines_of (take i records)) (front (lines_of (take i records)))) e.parts ≡ after opening (lines_of records) v
graph-after opening records i v r e at is place =
    let before = lines_of (take i records) in
    let next : lines_of (take (i + 1) records) ≡ lines_of (take i records) ++ line.Entry e ∷ [] =
    ap lines_of (take-next records i r at) ∙ map-append (λ (q : Record). q.line) (take i records) (r ∷ []) ∙ ap (λ (l : Line). before ++ l ∷ []) is in
    let same : lines_of (take (i + 1) records) ≡ take (i + 1) (lines_of records) = sym (take-map (λ (q : Record). q.line) (i + 1) records) in
    let size : front (take (i + 1) (lines_of records)) ≡ v = ap front (sym same ∙ next) ∙ front-entry before e ∙ place in
    sym (after-entry opening before e) ∙ ap (λ (xs : List Line). after opening xs (front before + 1)) (sym next ∙ same)
    ∙ ap (after opening (take (i + 1) (lines_of records))) place ∙ after-take opening (lines_of records) (i + 1) v (omega arith)

-- exactly the vertices that stand with the analysis in the list of a place are those whose values differ there
pub moved-is : (h : HistoryView) (opening : PlainGraph) (specs : List Spec) (start : Start) (records : List Record) (s : StandsFor h opening specs start records)
    (v a : ℕ) (spec : Spec) → slice_get specs a ≡ Some spec → v ≤ front (lines_of records) → h.floor ≤ v → (x : ℕ)
    → Contains (moved_at h v) (record { analysis = a; vertex = x }) ↔ Moves (after opening (lines_of records) (v - 1)) (after opening (lines_of records) v) spec x
unfolding opened opened_table
moved-is h opening specs start records s zero a spec has within low x = (
  λ c. absurd (Contains-none (let m : Moved = record { analysis = a; vertex = x } in m) c),
  λ m. absurd (Moves-none (after opening (lines_of records) 0) spec x m),
)
moved-is h opening specs start records s (suc w) a spec has within low x =
    let n = length start.forests in
    let lines = lines_of records in
    let same = ap (λ (k : HistoryView). k.floor) s.held in
    let e = entered-at (opened start) records (suc w) (omega arith) within (omega arith) in
    let place : 0 + suc w ≡ suc w = omega arith in
    let list : moved_at h (suc w) ≡ moved_by n e.rec.changes =
    ap (λ (k : HistoryView). moved_at k (suc w)) s.held ∙ ap (moved_at (fold applied (opened start) records)) (sym place) ∙ e.moved in
    let before = lines_of (take e.index records) in
    let right : IsRightLine opening specs before (line.Entry e.entry) e.rec.changes =
    subst (λ (l : Line). IsRightLine opening specs before l e.rec.changes) e.is (s.right.each e.index e.rec e.at) in
    let changes = right.1 in
    let now = graph-before opening records e.index (suc w) e.place in
    let next = graph-after opening records e.index (suc w) e.rec e.entry e.at e.is e.place in
    let moves : (c : Change) → Contains e.rec.changes c → c.analysis ≡ a → IsTrue c.moved ↔ Moves (after opening lines (suc w - 1)) (after opening lines (suc w)) spec c.vertex = λ c in_changes own.
    subst (λ (g : PlainGraph). IsTrue c.moved ↔ Moves g (after opening lines (suc w)) spec c.vertex) now
    (subst (λ (g : PlainGraph). IsTrue c.moved ↔ Moves (after opening before (front before)) g spec c.vertex) next
    (changes.moved c in_changes spec (ap (slice_get specs) own ∙ has))) in (
      λ c.
          let m = moving n e.rec.changes a x (subst (λ (ms : List Moved). Contains ms (record { analysis = a; vertex = x })) list c) in
          subst (Moves (after opening lines (suc w - 1)) (after opening lines (suc w)) spec) m.vertex ((moves m.change m.has m.analysis).0 m.moved),
      λ m.
          let c = changes.covered a x spec has (subst (λ (g : PlainGraph). Moves g (entered (after opening before (front before)) e.entry.parts) spec x) (sym now)
          (subst (λ (g : PlainGraph). Moves (after opening lines (suc w - 1)) g spec x) (sym next) m)) in
          let in_limits = All-contains (IsWithin specs) e.rec.changes c.0 changes.within c.1 in
          let taken = taken-one specs n c.0 (fit opening specs start records s.right).size in_limits in
          subst (λ (ms : List Moved). Contains ms (record { analysis = a; vertex = x })) (sym list)
          (moved-by n e.rec.changes a x c.0 c.1 taken ((moves c.0 c.1 c.2).1 (subst (Moves (after opening lines (suc w - 1)) (after opening lines (suc w)) spec) (sym c.3) m)) c.2 c.3),
    )

-- the vertices that stand in the list of a place answer
pub modified-answers : (h : HistoryView) (v a : ℕ) (result : Result (List ℕ) ReadRefusal) → a < h.table.analyses → IsGiven (refusal_at h v) result (AreVerticesOf (moved_at h v) a)
    → result ≢ Err denial.NoMemory → IsAnswer h (question.Modified v a) (modified_reply h.table.front v result)
modified-answers h v a result an held enough opening specs start records s = go (refusal_at h v) refl result held enough
  where
    go : (o : Option ReadRefusal) → refusal_at h v ≡ o → (r : Result (List ℕ) ReadRefusal) → IsGiven o r (AreVerticesOf (moved_at h v) a) → r ≢ Err denial.NoMemory
        → Answers (setup_for opening specs start) (lines_of records) (forests_at start records) (question.Modified v a) (modified_reply h.table.front v r)
    go None e (Ok vertices) given enough =
        let at = at-of h opening specs start records s v e in
        let stands = standing h opening specs start records s v a e an in
        let f = at.made in
        let low = at.kept in
        let floor_is = floor-of h opening specs start records s in
        let moved = moved-is h opening specs start records s v a stands.spec stands.has_spec at.made (omega arith) in
        record {
          bare = (
            at,
            to_some_and (λ spec. AreMoved (after opening (lines_of records) (v - 1)) (after opening (lines_of records) v) spec vertices) (slice_get specs a) stands.spec stands.has_spec (record {
              ascending = given.ascending;
              each = λ x. (λ c. (moved x).0 ((given.each x).0 c), λ m. (given.each x).1 ((moved x).1 m));
            }),
          );
          agrees = tt;
        }
    go None e (Err r) given enough = absurd (enough (ap Err given))
    go (Some r) e result given enough =
        subst (λ q. Answers (setup_for opening specs start) (lines_of records) (forests_at start records) (question.Modified v a) (modified_reply h.table.front v q)) (sym given)
        (record { bare = barred-of h opening specs start records s v r e; agrees = tt })

-- a path that is given answers
pub path-given : (h : HistoryView) (v a x : ℕ) (result : Result (List ℕ) ReadRefusal) → a < h.table.analyses → IsGiven (refusal_at h v) result (λ vertices. vertices ≡ path_in h.table v a x)
    → result ≢ Err denial.NoMemory → IsAnswer h (question.Path v a x) (path_reply h.table.front v result)
path-given h v a x result an held enough opening specs start records s =
    subst (λ (r : Result (List ℕ) ReadRefusal). Answers (setup_for opening specs start) (lines_of records) (forests_at start records) (question.Path v a x) (path_reply h.table.front v r))
    (sym (go (refusal_at h v) result held enough)) (path-answers h v a x an opening specs start records s)
  where
    go : (o : Option ReadRefusal) (r : Result (List ℕ) ReadRefusal) → IsGiven o r (λ vertices. vertices ≡ path_in h.table v a x) → r ≢ Err denial.NoMemory → r ≡ unless o (path_in h.table v a x)
    go None (Ok vertices) e enough = ap (λ (ys : List ℕ). let r : Result (List ℕ) ReadRefusal = Ok ys in r) e
    go None (Err r) e enough = absurd (enough (ap (λ (d : ReadRefusal). let r : Result (List ℕ) ReadRefusal = Err d in r) e))
    go (Some refusal) r e enough = e

-- Questions

value-reply : (o : Option ReadRefusal) (f v : ℕ) (c : Value) → value_reply f v (unless o c) ≡ reply_of (unless o (answer.Value f v c))
value-reply None f v c = refl
value-reply (Some r) f v c = refl

parent-reply : (o : Option ReadRefusal) (f v : ℕ) (p : Parent) → parent_reply f v (unless o p) ≡ reply_of (unless o (answer.Parent f v p))
parent-reply None f v p = refl
parent-reply (Some r) f v p = refl

path-reply : (o : Option ReadRefusal) (f v : ℕ) (xs : List ℕ) (r : Result ReadAnswer ReadRefusal) → IsGiven o r (λ ans. ans ≡ answer.Path f v xs) → r ≢ Err denial.NoMemory
    → path_reply f v (unless o xs) ≡ reply_of r
path-reply None f v xs (Ok ans) e enough = ap (λ (y : ReadAnswer). Answer y) (sym e)
path-reply None f v xs (Err r) e enough = absurd (enough (ap (λ (d : ReadRefusal). let r : Result ReadAnswer ReadRefusal = Err d in r) e))
path-reply (Some refusal) f v xs r e enough = ap reply_of (sym e)

-- what `ask` says by what the history holds answers
pub ask-answers : (h : HistoryView) (q : Question) (result : Result ReadAnswer ReadRefusal) → IsAskableOf h q → IsAsked h q result → result ≢ Err denial.NoMemory
    → IsAnswer h q (reply_of result)
ask-answers h (question.Value v a x) result an e enough =
    subst (IsAnswer h (question.Value v a x)) (value-reply (refusal_at h v) h.table.front v (shown h.table v a x).value ∙ ap reply_of (sym e)) (value-answers h v a x an)
ask-answers h (question.Parent v a x) result an e enough =
    subst (IsAnswer h (question.Parent v a x)) (parent-reply (refusal_at h v) h.table.front v (shown h.table v a x).parent ∙ ap reply_of (sym e)) (parent-answers h v a x an)
ask-answers h (question.Path v a x) result an e enough =
    subst (IsAnswer h (question.Path v a x)) (path-reply (refusal_at h v) h.table.front v (path_in h.table v a x) result e enough) (path-answers h v a x an)
ask-answers h (question.Modified v a) result an e enough = go (refusal_at h v) refl result e enough
  where
    go : (o : Option ReadRefusal) → refusal_at h v ≡ o → (r : Result ReadAnswer ReadRefusal) → IsGiven o r (IsOfVertices (AreVerticesOf (moved_at h v) a) h.table.front v) → r ≢ Err denial.NoMemory
        → IsAnswer h (question.Modified v a) (reply_of r)
    go None is (Ok (answer.Modified f p vertices)) given enough =
        subst (λ k. IsAnswer h (question.Modified v a) (Answer (answer.Modified k p vertices))) (sym given.0)
        (subst (λ k. IsAnswer h (question.Modified v a) (Answer (answer.Modified h.table.front k vertices))) (sym given.1)
        (modified-answers h v a (Ok vertices) an (subst (λ (o : Option ReadRefusal). IsGiven o (Ok vertices) (AreVerticesOf (moved_at h v) a)) (sym is) given.2) (λ x. cc)))
    go None is (Ok (answer.Value f p c)) given enough = absurd given
    go None is (Ok (answer.Parent f p c)) given enough = absurd given
    go None is (Ok (answer.Path f p c)) given enough = absurd given
    go None is (Ok (answer.Current f c)) given enough = absurd given
    go None is (Err r) given enough = absurd (enough (ap (λ (d : ReadRefusal). let r : Result ReadAnswer ReadRefusal = Err d in r) given))
    go (Some refusal) is r given enough =
        subst (λ (q : Result ReadAnswer ReadRefusal). IsAnswer h (question.Modified v a) (reply_of q)) (sym given)
        (λ opening specs start records s. record { bare = barred-of h opening specs start records s v refusal is; agrees = tt })
ask-answers h question.Current result an e enough =
    subst (λ (q : Result ReadAnswer ReadRefusal). IsAnswer h question.Current (reply_of q)) (sym e)
    (λ opening specs start records s. record { bare = (front-of h opening specs start records s, floor-of h opening specs start records s); agrees = tt })
