-- One record more: the forests of each place, and when records stay right.
use Rattle.std.proofs.Common.{◌≡◌, ℕ, zero, suc, ◌+◌, ◌-◌, ◌<◌, ◌≤◌, if◌then◌else◌, List, [], ◌∷◌, ◌++◌, map, Option, unwrap_or, arith, refl, sym, subst, ap, ◌∙◌}
use Rattle.std.specs.List.{slice_get}
use Rattle.std.specs.Option.{option_map}
use Rattle.std.proofs.lemmas.List.{map-append}
use Rattle.std.proofs.lemmas.Option.{slice_get-map}
use Rattle.ris_base.specs.Epoch.{places_of}
use Rattle.ris_base.specs.Forest.{Forest}
use Rattle.ris_base.specs.Graph.{IsProper}
use Rattle.ris_base.specs.Lines.{front}
use Rattle.ris_base.specs.Lists.{numbers_below}
use Rattle.ris_base.specs.Records.{changed_forests, forests_after, forests_at, is_entry, lines_of, opening_forests, overwritten, overwritten_from}
use Rattle.ris_base.specs.Requests.{after, entered}
use Rattle.ris_base.specs.declared.graphs.PlainGraph.{PlainGraph}
use Rattle.ris_base.specs.declared.lines.Entry.{Entry}
use Rattle.ris_base.specs.declared.lines.Line.{Line}
use Rattle.ris_base.specs.declared.lines.Line.TheVariants as line
use Rattle.ris_base.specs.declared.records.Change.{Change}
use Rattle.ris_base.specs.declared.records.Record.{Record}
use Rattle.ris_base.specs.declared.records.Start.{Start}
use Rattle.ris_base.proofs.LineLemmas.{front-entry}
use Rattle.ris_base.proofs.NumbersBelow.{slice_get-numbers_below}
use Rattle.ris_base.proofs.RequestLemmas.{proper-after}

-- Lines

-- the lines of records in turn
pub lines_of-append : (xs ys : List Record) → lines_of (xs ++ ys) ≡ lines_of xs ++ lines_of ys
lines_of-append xs ys = map-append (λ r. r.line) xs ys

-- the graph of a place behind first lines
after-behind : (g : PlainGraph) (xs ys : List Line) (v : ℕ) → after g (xs ++ ys) (front xs + v) ≡ after (after g xs (front xs)) ys v
unfolding front after
after-behind g [] ys v = let e : 0 + v ≡ v = omega arith in rw e refl
after-behind g (line.Entry e ∷ xs) ys v =
    let up : front xs + 1 + v ≡ suc (front xs + v) = omega arith in
    let one : front xs + 1 ≡ suc (front xs) = omega arith in
    rw (up, one) (after-behind (entered g e.parts) xs ys v)
after-behind g (line.Mark s q u ∷ xs) ys v = after-behind g xs ys v
after-behind g (line.Leave s q ∷ xs) ys v = after-behind g xs ys v

-- behind records whose graph is proper, each graph is
pub proper-later : (opening : PlainGraph) (records extra more : List Record) (v : ℕ) → IsProper (after opening (lines_of records) (front (lines_of records)))
    → more ≡ records ++ extra → front (lines_of records) ≤ v → IsProper (after opening (lines_of more) v)
proper-later opening records extra more v proper is past =
    let n = front (lines_of records) in
    let rest : n + (v - n) ≡ v = omega arith in
    subst IsProper
    (sym (ap (λ (rs : List Record). after opening (lines_of rs) v) is
    ∙ ap (λ (ls : List Line). after opening ls v) (lines_of-append records extra)
    ∙ ap (after opening (lines_of records ++ lines_of extra)) (sym rest)
    ∙ after-behind opening (lines_of records) (lines_of extra) (v - n)))
    (proper-after (after opening (lines_of records) n) (lines_of extra) (v - n) proper)

-- Forests

-- the forests of place 0 are the first ones
pub forests-zero : (forests : List Forest) (records : List Record) → forests_after forests records 0 ≡ forests
unfolding forests_after
forests-zero forests [] = refl
forests-zero forests (r ∷ records) = refl

-- changes of nothing
no-changes : (a : ℕ) (forests : List Forest) → overwritten_from a forests [] ≡ forests
unfolding overwritten overwritten_from
no-changes a [] = refl
no-changes a (F ∷ forests) = ap (λ fs. F ∷ fs) (no-changes (a + 1) forests)

pub changed_forests-none : (forests : List Forest) → changed_forests forests [] ≡ forests
changed_forests-none forests = no-changes 0 forests

-- the places that there were are as they were
pub forests_after-append : (forests : List Forest) (xs ys : List Record) (v : ℕ) → v ≤ front (lines_of xs) → forests_after forests (xs ++ ys) v ≡ forests_after forests xs v
unfolding forests_after front
forests_after-append forests [] ys zero h = forests-zero forests ys
forests_after-append forests [] ys (suc v) h = absurd (omega arith)
forests_after-append forests (r ∷ xs) ys zero h = refl
forests_after-append forests (r ∷ xs) ys (suc v) h = go r.line h (λ fs w less. forests_after-append fs xs ys w less)
  where
    go : (l : Line) → suc v ≤ front (l ∷ lines_of xs)
        → ((fs : List Forest) (w : ℕ) → w ≤ front (lines_of xs) → forests_after fs (xs ++ ys) w ≡ forests_after fs xs w)
        → (if is_entry l then forests_after (changed_forests forests r.changes) (xs ++ ys) v else forests_after forests (xs ++ ys) (suc v))
        ≡ (if is_entry l then forests_after (changed_forests forests r.changes) xs v else forests_after forests xs (suc v))
    go (line.Entry e) h rest = rest (changed_forests forests r.changes) v (omega arith)
    go (line.Mark session seq upto) h rest = rest forests (suc v) h
    go (line.Leave session seq) h rest = rest forests (suc v) h

-- the forests of the place of an entry at the end
pub forests_after-entry : (forests : List Forest) (xs : List Record) (e : Entry) (changes : List Change) (v : ℕ) → v ≡ front (lines_of xs)
    → forests_after forests (xs ++ record { line = line.Entry e; changes = changes } ∷ []) (suc v) ≡ changed_forests (forests_after forests xs v) changes
unfolding forests_after front
forests_after-entry forests [] e changes zero h = refl
forests_after-entry forests [] e changes (suc v) h = absurd (omega arith)
forests_after-entry forests (r ∷ xs) e changes v h = go r.line v h (λ fs w is. forests_after-entry fs xs e changes w is)
  where
    go : (l : Line) (v : ℕ) → v ≡ front (l ∷ lines_of xs)
        → ((fs : List Forest) (w : ℕ) → w ≡ front (lines_of xs)
        → forests_after fs (xs ++ record { line = line.Entry e; changes = changes } ∷ []) (suc w) ≡ changed_forests (forests_after fs xs w) changes)
        → (if is_entry l then forests_after (changed_forests forests r.changes) (xs ++ record { line = line.Entry e; changes = changes } ∷ []) v
        else forests_after forests (xs ++ record { line = line.Entry e; changes = changes } ∷ []) (suc v))
        ≡ changed_forests (forests_after forests (record { line = l; changes = r.changes } ∷ xs) v) changes
    go (line.Entry e2) zero h rest = absurd (omega arith)
    go (line.Entry e2) (suc v) h rest = rest (changed_forests forests r.changes) v (omega arith)
    go (line.Mark session seq upto) zero h rest = rest forests zero h ∙ ap (λ fs. changed_forests fs changes) (forests-zero forests xs)
    go (line.Mark session seq upto) (suc v) h rest = rest forests (suc v) h
    go (line.Leave session seq) zero h rest = rest forests zero h ∙ ap (λ fs. changed_forests fs changes) (forests-zero forests xs)
    go (line.Leave session seq) (suc v) h rest = rest forests (suc v) h

-- Places

-- functions that are the same below a bound
map-same : {Y : Type 0} (f g : ℕ → Y) (n : ℕ) → ((v : ℕ) → v < n → f v ≡ g v) → map f (numbers_below n) ≡ map g (numbers_below n)
unfolding numbers_below
map-same f g zero h = refl
map-same f g (suc n) h =
    map-append f (numbers_below n) (n ∷ []) ∙ ap (λ ys. ys ++ f n ∷ []) (map-same f g n (λ v less. h v (omega arith)))
    ∙ ap (λ y. map g (numbers_below n) ++ y ∷ []) (h n (omega arith)) ∙ sym (map-append g (numbers_below n) (n ∷ []))

-- one more number
map-next : {Y : Type 0} (f : ℕ → Y) (n : ℕ) → map f (numbers_below (n + 1)) ≡ map f (numbers_below n) ++ f n ∷ []
unfolding numbers_below
map-next f n = let e : n + 1 ≡ suc n = omega arith in rw e (map-append f (numbers_below n) (n ∷ []))

-- the forests of the last place
pub last-place : (start : Start) (records : List Record)
    → unwrap_or (slice_get (places_of start records) (front (lines_of records))) [] ≡ forests_at start records (front (lines_of records))
last-place start records =
    let n = front (lines_of records) in
    let f : ℕ → List Forest = forests_at start records in
    ap (λ (o : Option (List Forest)). unwrap_or o []) (slice_get-map f (numbers_below (n + 1)) n ∙ ap (option_map f) (slice_get-numbers_below (n + 1) n (omega arith)))

-- an entry more makes a place more
pub places-entry : (start : Start) (records : List Record) (e : Entry) (changes : List Change)
    → places_of start (records ++ record { line = line.Entry e; changes = changes } ∷ [])
    ≡ places_of start records ++ changed_forests (forests_at start records (front (lines_of records))) changes ∷ []
places-entry start records e changes =
    let r : Record = record { line = line.Entry e; changes = changes } in
    let n = front (lines_of records) in
    let more : front (lines_of (records ++ r ∷ [])) ≡ n + 1 = ap front (lines_of-append records (r ∷ [])) ∙ front-entry (lines_of records) e in
    let f : ℕ → List Forest = forests_at start (records ++ r ∷ []) in
    let g : ℕ → List Forest = forests_at start records in
    let up : n + 1 ≡ suc n = omega arith in
    ap (λ m. map f (numbers_below (m + 1))) more
    ∙ map-next f (n + 1)
    ∙ ap (λ ps. ps ++ f (n + 1) ∷ []) (map-same f g (n + 1) (λ v less. forests_after-append (opening_forests start) records (r ∷ []) v (omega arith)))
    ∙ ap (λ (fs : List Forest). map g (numbers_below (n + 1)) ++ fs ∷ []) (ap f up ∙ forests_after-entry (opening_forests start) records e changes n refl)

-- a line that is no entry makes none
pub places-same : (start : Start) (records : List Record) (r : Record) → front (lines_of (records ++ r ∷ [])) ≡ front (lines_of records)
    → places_of start (records ++ r ∷ []) ≡ places_of start records
places-same start records r same =
    let n = front (lines_of records) in
    let f : ℕ → List Forest = forests_at start (records ++ r ∷ []) in
    ap (λ m. map f (numbers_below (m + 1))) same
    ∙ map-same f (forests_at start records) (n + 1) (λ v less. forests_after-append (opening_forests start) records (r ∷ []) v (omega arith))
