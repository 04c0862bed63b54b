-- What it takes to stand for records, and what right records are.
use Rattle.std.proofs.Common.{◌≡◌, ℕ, zero, suc, ◌<◌, true, List, [], ◌∷◌, ◌++◌, length, take, Some, arith, refl, sym, subst, ap, ◌∙◌, append_assoc}
use Rattle.std.specs.List.{All, slice_get}
use Rattle.std.proofs.lemmas.Bool.{lt-ltb}
use Rattle.std.proofs.lemmas.List.{append-nil, length-map}
use Rattle.std.proofs.lemmas.List.Elements.{All-head, All-tail}
use Rattle.ris_base.specs.Forest.{Forest, forest_in, IsForest}
use Rattle.ris_base.specs.Limits.{vertex_limit}
use Rattle.ris_base.specs.Lists.{EachPair}
use Rattle.ris_base.specs.Records.{AreRight, IsWithin, IsRightLine, lines_of, forests_after, forests_at, opening_forests}
use Rattle.ris_base.specs.Requests.{after}
use Rattle.ris_base.specs.declared.analyses.Spec.{Spec}
use Rattle.ris_base.specs.declared.graphs.PlainGraph.{PlainGraph}
use Rattle.ris_base.specs.declared.lines.Line.{Line}
use Rattle.ris_base.specs.declared.lines.Line.TheVariants as line
use Rattle.ris_base.specs.declared.records.Change.{Change}
use Rattle.ris_base.specs.declared.records.Record.{Record}
use Rattle.ris_base.specs.declared.records.Start.{Start}
use Rattle.ris_history.specs.Applied.{opened, applied}
use Rattle.ris_history.specs.Chains.{is_taken}
use Rattle.ris_history.specs.HistoryView.{HistoryView}
use Rattle.ris_history.specs.Standing.{StandsFor}
use Rattle.ris_history.proofs.ChangeLemmas.{fold-push}
use Rattle.ris_history.proofs.FloorLaws.{IsMarkWithin, AllWithin}
use Rattle.ris_history.proofs.KeptLaws.{IsOwn, AllOwn}
use Rattle.ris_history.proofs.TableLaws.{AreTaken}
use Rattle.ris_history.proofs.ValueLaws.{AllTaken}

-- what is left by one more record stands for one more
pub stands-push : (old new : HistoryView) (opening : PlainGraph) (specs : List Spec) (start : Start) (records : List Record) (r : Record) → StandsFor old opening specs start records
    → AreRight opening specs start (records ++ r ∷ []) → new ≡ applied old r → StandsFor new opening specs start (records ++ r ∷ [])
stands-push old new opening specs start records r s right is = record {
  right = right;
  held = is ∙ ap (λ (h : HistoryView). applied h r) s.held ∙ sym (fold-push applied (opened start) records r);
}

-- Right records

-- what right records are, as the laws of a history ask it
pub record AreFit (opening : PlainGraph) (specs : List Spec) (start : Start) (records : List Record) : Type 0 where
  pub size : length start.forests ≡ length specs
  pub taken : AllTaken (length start.forests) records
  pub own : AllOwn records
  pub within : AllWithin [] records

-- two lists that are related item by item have the same length
pub EachPair-length : {X Y : Type 0} (R : X → Y → Type 0) (xs : List X) (ys : List Y) → EachPair R xs ys → length xs ≡ length ys
EachPair-length R [] [] h = refl
EachPair-length R [] (y ∷ ys) h = absurd h
EachPair-length R (x ∷ xs) [] h = absurd h
EachPair-length R (x ∷ xs) (y ∷ ys) h = let more = EachPair-length R xs ys h.1 in omega arith

-- a pair of two lists that are related item by item
pub each-at : {X Y : Type 0} (R : X → Y → Type 0) (xs : List X) (ys : List Y) (k : ℕ) → EachPair R xs ys → k < length xs → (x : X) × (y : Y) × (slice_get xs k ≡ Some x) × (slice_get ys k ≡ Some y) × R x y
each-at R [] ys k h l = absurd (omega arith)
each-at R (x ∷ xs) [] k h l = absurd h
each-at R (x ∷ xs) (y ∷ ys) zero h l = (x, y, refl, refl, h.0)
each-at R (x ∷ xs) (y ∷ ys) (suc k) h l = each-at R xs ys k h.1 (omega arith)

forests-zero : (forests : List Forest) (records : List Record) → forests_after forests records 0 ≡ forests
unfolding forests_after
forests-zero forests [] = refl
forests-zero forests (r ∷ records) = refl

-- a change within the limits is taken
pub taken-one : (specs : List Spec) (n : ℕ) (c : Change) → n ≡ length specs → IsWithin specs c → is_taken n c ≡ true
taken-one specs n c e w =
    let low = w.analysis in
    let one = lt-ltb c.analysis n (omega arith) in
    let two = lt-ltb c.vertex vertex_limit w.vertex in
    rw (one, two) refl

taken-within : (specs : List Spec) (n : ℕ) (ds : List Change) → n ≡ length specs → All (IsWithin specs) ds → AreTaken n ds
taken-within specs n [] e h k d at = absurd (cc)
taken-within specs n (c ∷ ds) e h zero d at =
    let same : c ≡ d = cc in
    subst (λ (x : Change). is_taken n x ≡ true) same (taken-one specs n c e (All-head (IsWithin specs) c ds h))
taken-within specs n (c ∷ ds) e h (suc k) d at = taken-within specs n ds e (All-tail (IsWithin specs) c ds h) k d at

-- one right line
fit-taken : (opening : PlainGraph) (specs : List Spec) (n : ℕ) (before : List Line) (l : Line) (ds : List Change) → n ≡ length specs → IsRightLine opening specs before l ds → AreTaken n ds
fit-taken opening specs n before (line.Entry e) ds same h = taken-within specs n ds same h.1.within
fit-taken opening specs n before (line.Mark s q u) ds same h = λ k d at. absurd (let e = h.1 in cc)
fit-taken opening specs n before (line.Leave s q) ds same h = λ k d at. absurd (let e = h in cc)

fit-own : (opening : PlainGraph) (specs : List Spec) (before : List Line) (l : Line) (ds : List Change) → IsRightLine opening specs before l ds → IsOwn l ds
fit-own opening specs before (line.Entry e) ds h = tt
fit-own opening specs before (line.Mark s q u) ds h = h.1
fit-own opening specs before (line.Leave s q) ds h = h

fit-within : (opening : PlainGraph) (specs : List Spec) (before : List Line) (l : Line) (ds : List Change) → IsRightLine opening specs before l ds → IsMarkWithin before l
fit-within opening specs before (line.Entry e) ds h = tt
fit-within opening specs before (line.Mark s q u) ds h = h.0
fit-within opening specs before (line.Leave s q) ds h = tt

-- each of these records is right behind the lines before it
AreRightFrom : PlainGraph → List Spec → List Line → List Record → Type 0
AreRightFrom opening specs before records = (i : ℕ) (r : Record) → slice_get records i ≡ Some r → IsRightLine opening specs (before ++ lines_of (take i records)) r.line r.changes

right-rest : (opening : PlainGraph) (specs : List Spec) (before : List Line) (r : Record) (records : List Record) → AreRightFrom opening specs before (r ∷ records)
    → AreRightFrom opening specs (before ++ r.line ∷ []) records
unfolding AreRightFrom
right-rest opening specs before r records h i q at =
    subst (λ (xs : List Line). IsRightLine opening specs xs q.line q.changes) (sym (append_assoc before (r.line ∷ []) (lines_of (take i records)))) (h (suc i) q at)

right-first : (opening : PlainGraph) (specs : List Spec) (before : List Line) (r : Record) (records : List Record) → AreRightFrom opening specs before (r ∷ records)
    → IsRightLine opening specs before r.line r.changes
unfolding AreRightFrom
right-first opening specs before r records h = subst (λ (xs : List Line). IsRightLine opening specs xs r.line r.changes) (append-nil before) (h zero r refl)

all-taken : (opening : PlainGraph) (specs : List Spec) (n : ℕ) (before : List Line) (records : List Record) → n ≡ length specs → AreRightFrom opening specs before records → AllTaken n records
all-taken opening specs n before [] e h = tt
all-taken opening specs n before (r ∷ records) e h =
    (fit-taken opening specs n before r.line r.changes e (right-first opening specs before r records h), all-taken opening specs n (before ++ r.line ∷ []) records e (right-rest opening specs before r records h))

all-own : (opening : PlainGraph) (specs : List Spec) (before : List Line) (records : List Record) → AreRightFrom opening specs before records → AllOwn records
all-own opening specs before [] h = tt
all-own opening specs before (r ∷ records) h =
    (fit-own opening specs before r.line r.changes (right-first opening specs before r records h), all-own opening specs (before ++ r.line ∷ []) records (right-rest opening specs before r records h))

all-within : (opening : PlainGraph) (specs : List Spec) (before : List Line) (records : List Record) → AreRightFrom opening specs before records → AllWithin before records
all-within opening specs before [] h = tt
all-within opening specs before (r ∷ records) h =
    (fit-within opening specs before r.line r.changes (right-first opening specs before r records h), all-within opening specs (before ++ r.line ∷ []) records (right-rest opening specs before r records h))

pub fit : (opening : PlainGraph) (specs : List Spec) (start : Start) (records : List Record) → AreRight opening specs start records → AreFit opening specs start records
unfolding AreRightFrom
fit opening specs start records right =
    let first = right.forests 0 (omega arith) in
    let many = EachPair-length (IsForest (after opening (lines_of records) 0)) specs (forests_at start records 0) first in
    let all = ap length (forests-zero (opening_forests start) records) in
    let mapped = length-map start.forests forest_in in
    let size : length start.forests ≡ length specs = omega arith in
    let each : (i : ℕ) (r : Record) → slice_get records i ≡ Some r → IsRightLine opening specs ([] ++ lines_of (take i records)) r.line r.changes = right.each in
    record {
      size = size;
      taken = all-taken opening specs (length start.forests) [] records size each;
      own = all-own opening specs [] records each;
      within = all-within opening specs [] records each;
    }
