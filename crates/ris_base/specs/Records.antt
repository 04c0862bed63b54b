-- Records of a serial list: lines with the changes of the forests that they make, and when they are right.
use Rattle.std.specs.Prelude.{◌≡◌, ◌↔◌, ℕ, zero, suc, ◌+◌, ◌<◌, ◌≤◌, Bool, true, false, IsTrue, ◌==◌, if◌then◌else◌, List, [], ◌∷◌, length, map, take, slice_get, Some, None}
use Rattle.std.specs.List.{All, Contains, AllPairs}
use Rattle.ris_base.specs.Answers.{Setup}
use Rattle.ris_base.specs.Forest.{Forest, forest_in, AreForests}
use Rattle.ris_base.specs.Limits.{vertex_limit, session_limit}
use Rattle.ris_base.specs.Lines.{front, session_of}
use Rattle.ris_base.specs.Requests.{after, entered, refusal_of}
use Rattle.ris_base.specs.Value.{Moves}
use Rattle.ris_base.specs.declared.analyses.Spec.{Spec}
use Rattle.ris_base.specs.declared.graphs.PlainGraph.{PlainGraph}
use Rattle.ris_base.specs.declared.lines.Line.{Line}
use Rattle.ris_base.specs.declared.lines.Line.TheVariants as line
use Rattle.ris_base.specs.declared.records.Change.{Change}
use Rattle.ris_base.specs.declared.records.Record.{Record}
use Rattle.ris_base.specs.declared.records.Start.{Start}

-- the lines of records
abbrev pub lines_of : List Record → List Line
lines_of records = map (λ r. r.line) records

-- the forests of place 0
abbrev pub opening_forests : Start → List Forest
opening_forests start = map forest_in start.forests

-- a forest with a change of one vertex
abbrev pub with_change : Forest → Change → Forest
with_change F c = record {
  value = λ x. if c.vertex == x then c.value else F.value x;
  parent = λ x. if c.vertex == x then c.parent else F.parent x;
}

-- a forest overwritten by those changes that are of the analysis a, one after another
unfoldable pub overwritten : ℕ → Forest → List Change → Forest
overwritten a F [] = F
overwritten a F (c ∷ changes) = overwritten a (if c.analysis == a then with_change F c else F) changes

-- the forests of the analyses from number a on, overwritten by changes
unfoldable pub overwritten_from : ℕ → List Forest → List Change → List Forest
overwritten_from a [] changes = []
overwritten_from a (F ∷ forests) changes = overwritten a F changes ∷ overwritten_from (a + 1) forests changes

-- the forests of all analyses, overwritten by changes
abbrev pub changed_forests : List Forest → List Change → List Forest
changed_forests forests changes = overwritten_from 0 forests changes

-- whether a line is an entry
abbrev pub is_entry : Line → Bool
is_entry (line.Entry e) = true
is_entry (line.Mark session seq upto) = false
is_entry (line.Leave session seq) = false

-- the forests of place v: these ones, overwritten by the changes of the records up to the entry at v
unfoldable pub forests_after : List Forest → List Record → ℕ → List Forest
forests_after forests [] v = forests
forests_after forests (r ∷ records) zero = forests
forests_after forests (r ∷ records) (suc v) =
    if is_entry r.line then forests_after (changed_forests forests r.changes) records v else forests_after forests records (suc v)

-- the forests of place v of records behind a start
abbrev pub forests_at : Start → List Record → ℕ → List Forest
forests_at start records v = forests_after (opening_forests start) records v

-- a change names one of the analyses and a vertex number within the limit
pub record IsWithin (specs : List Spec) (c : Change) : Type 0 where
  pub analysis : c.analysis < length specs
  pub vertex : c.vertex < vertex_limit

-- two changes are of different vertices or analyses
abbrev pub IsOther : Change → Change → Type 0
IsOther c d = ¬ ((c.analysis ≡ d.analysis) × (c.vertex ≡ d.vertex))

-- the changes between two graphs: each within the limits, no analysis and vertex twice, `moved` true exactly where the value
-- differs, and one for each vertex and analysis whose value differs
pub record AreChanges (specs : List Spec) (before now : PlainGraph) (changes : List Change) : Type 0 where
  pub within : All (IsWithin specs) changes
  pub once : AllPairs IsOther changes
  pub moved : (c : Change) → Contains changes c → (spec : Spec) → slice_get specs c.analysis ≡ Some spec
      → IsTrue c.moved ↔ Moves before now spec c.vertex
  pub covered : (a x : ℕ) (spec : Spec) → slice_get specs a ≡ Some spec → Moves before now spec x
      → (c : Change) × Contains changes c × (c.analysis ≡ a) × (c.vertex ≡ x)

-- a record is right behind these records: its entry is accepted, and its changes are those that it makes; a mark or a leave has
-- no changes, and a mark's place is at most the number of entries before it
abbrev pub IsRightLine : PlainGraph → List Spec → List Line → Line → List Change → Type 0
IsRightLine opening specs before (line.Entry e) changes =
    let now = after opening before (front before) in
    (refusal_of now e.parts ≡ None) × AreChanges specs now (entered now e.parts) changes
IsRightLine opening specs before (line.Mark session seq upto) changes = (upto ≤ front before) × (changes ≡ [])
IsRightLine opening specs before (line.Leave session seq) changes = changes ≡ []

abbrev pub IsRightRecord : PlainGraph → List Spec → List Record → Record → Type 0
IsRightRecord opening specs before r = IsRightLine opening specs (lines_of before) r.line r.changes

-- Records are right for a plain graph of place 0, some analyses and a start: at each place the start's forests, overwritten by the
-- changes up to it, are right forests of its graph; each record is right behind those before it; the start has 1 to 64 sessions,
-- and each line is of one of them
pub record AreRight (opening : PlainGraph) (specs : List Spec) (start : Start) (records : List Record) : Type 0 where
  pub some : 1 ≤ start.sessions
  pub few : start.sessions ≤ session_limit
  pub sessions : All (λ r. session_of r.line < start.sessions) records
  pub each : (i : ℕ) (r : Record) → slice_get records i ≡ Some r → IsRightRecord opening specs (take i records) r
  pub forests : (v : ℕ) → v ≤ front (lines_of records)
      → AreForests (after opening (lines_of records) v) specs (forests_at start records v)

-- the setup of records behind a start
abbrev pub setup_for : PlainGraph → List Spec → Start → Setup
setup_for opening specs start = record { opening = opening; specs = specs; sessions = start.sessions }
