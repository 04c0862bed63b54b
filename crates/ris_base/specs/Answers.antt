-- What a read asks of a serial list, and which replies answer it.
use Rattle.std.specs.Prelude.{◌≡◌, ℕ, ◌-◌, ◌<◌, ◌≤◌, List, length, slice_get, Option, Some, None, IsSomeAnd, ⊤}
use Rattle.ris_base.specs.Forest.{Forest, IsPath}
use Rattle.ris_base.specs.Lines.{front, floor}
use Rattle.ris_base.specs.Requests.{after}
use Rattle.ris_base.specs.Value.{IsValue, AreMoved}
use Rattle.ris_base.specs.declared.graphs.PlainGraph.{PlainGraph}
use Rattle.ris_base.specs.declared.analyses.Spec.{Spec}
use Rattle.ris_base.specs.declared.commands.Command.{Command}
use Rattle.ris_base.specs.declared.commands.Command.TheVariants as command
use Rattle.ris_base.specs.declared.commands.Version.{Version}
use Rattle.ris_base.specs.declared.commands.Version.TheVariants.{Last, At}
use Rattle.ris_base.specs.declared.forests.Parent.{Parent}
use Rattle.ris_base.specs.declared.lines.Line.{Line}
use Rattle.ris_base.specs.declared.replies.LogLine.{LogLine}
use Rattle.ris_base.specs.declared.replies.LogLine.TheVariants.{Answer, Denied}
use Rattle.ris_base.specs.declared.replies.ReadAnswer.TheVariants as answer
use Rattle.ris_base.specs.declared.replies.ReadRefusal.{ReadRefusal}
use Rattle.ris_base.specs.declared.replies.ReadRefusal.TheVariants as denial
use Rattle.ris_base.specs.declared.requests.Question.{Question}
use Rattle.ris_base.specs.declared.requests.Question.TheVariants as question

-- what a run is given: the plain graph of place 0, the analyses, and the number of sessions
pub record Setup : Type 0 where
  pub opening : PlainGraph
  pub specs : List Spec
  pub sessions : ℕ

-- Questions

-- the place that a read asks for, where the last accepted entry of its session has the place `last`
abbrev pub place_asked : Version → ℕ → ℕ
place_asked Last last = last
place_asked (At v) last = v

-- the question of a command, where it is a read
abbrev pub question_of : Command → ℕ → Option Question
question_of (command.Change parts) last = None
question_of (command.Release upto) last = None
question_of command.Leave last = None
question_of (command.Value version a x) last = Some (question.Value (place_asked version last) a x)
question_of (command.Parent version a x) last = Some (question.Parent (place_asked version last) a x)
question_of (command.Path version a x) last = Some (question.Path (place_asked version last) a x)
question_of (command.Modified version a) last = Some (question.Modified (place_asked version last) a)
question_of command.Current last = Some question.Current

-- the place and the analysis of a question, where it has them
abbrev pub place_of : Question → Option ℕ
place_of (question.Value v a x) = Some v
place_of (question.Parent v a x) = Some v
place_of (question.Path v a x) = Some v
place_of (question.Modified v a) = Some v
place_of question.Current = None

abbrev pub analysis_of : Question → Option ℕ
analysis_of (question.Value v a x) = Some a
analysis_of (question.Parent v a x) = Some a
analysis_of (question.Path v a x) = Some a
analysis_of (question.Modified v a) = Some a
analysis_of question.Current = None

-- P holds of the analysis of this number, which exists
abbrev pub OfAnalysis : Setup → ℕ → (Spec → Type 0) → Type 0
OfAnalysis setup a P = IsSomeAnd (slice_get setup.specs a) P

-- the analysis of a question exists, where it has one
abbrev pub ExistsIn : Setup → Option ℕ → Type 0
ExistsIn setup None = ⊤
ExistsIn setup (Some a) = a < length setup.specs

abbrev pub IsAskable : Setup → Question → Type 0
IsAskable setup asked = ExistsIn setup (analysis_of asked)

-- Answers without regard to forests

-- a place can be read on a list of lines: it isn't past the front and not below the floor; and the printed front and place are
-- the list's front and this place
pub record IsAt (setup : Setup) (lines : List Line) (v printed_front printed_place : ℕ) : Type 0 where
  pub of_front : printed_front ≡ front lines
  pub of_place : printed_place ≡ v
  pub made : v ≤ front lines
  pub kept : floor setup.sessions lines ≤ v

-- why a place can't be read: it is past the front; or it isn't, and is below the floor. Both numbers are printed
abbrev pub IsBarred : Setup → List Line → Option ℕ → ReadRefusal → Type 0
IsBarred setup lines (Some v) (denial.NotYet f) = (f ≡ front lines) × (front lines < v)
IsBarred setup lines (Some v) (denial.Released f low) =
    (f ≡ front lines) × (low ≡ floor setup.sessions lines) × (v ≤ front lines) × (v < floor setup.sessions lines)
IsBarred setup lines (Some v) denial.NoMemory = ⊥
IsBarred setup lines (Some v) denial.Shut = ⊥
IsBarred setup lines None denied = ⊥

-- A reply answers a question on a list of lines, save that a printed parent and the vertices of a printed path are left open:
-- the value at the place, the vertices that its entry moved, or the front and the floor; or why the place can't be read
abbrev pub IsBare : Setup → List Line → Question → LogLine → Type 0
IsBare setup lines (question.Value v a x) (Answer (answer.Value f p value)) =
    IsAt setup lines v f p × OfAnalysis setup a (λ spec. IsValue (after setup.opening lines v) spec x value)
IsBare setup lines (question.Parent v a x) (Answer (answer.Parent f p parent)) = IsAt setup lines v f p × (a < length setup.specs)
IsBare setup lines (question.Path v a x) (Answer (answer.Path f p vertices)) = IsAt setup lines v f p × (a < length setup.specs)
IsBare setup lines (question.Modified v a) (Answer (answer.Modified f p vertices)) =
    IsAt setup lines v f p
    × OfAnalysis setup a (λ spec. AreMoved (after setup.opening lines (v - 1)) (after setup.opening lines v) spec vertices)
IsBare setup lines question.Current (Answer (answer.Current f low)) = (f ≡ front lines) × (low ≡ floor setup.sessions lines)
IsBare setup lines asked (Denied denied) = IsBarred setup lines (place_of asked) denied
IsBare setup lines asked reply = ⊥

-- Answers of forests

-- what is printed of a vertex in a forest: its parent, or its path
pub data Shown : Type 0 where
  ShownParent : (parent : Parent) → Shown
  ShownPath : (vertices : List ℕ) → Shown

-- it is so in this forest
abbrev pub IsOfForest : Forest → ℕ → Shown → Type 0
IsOfForest F x (ShownParent parent) = F.parent x ≡ parent
IsOfForest F x (ShownPath vertices) = IsPath F x vertices

-- what a reply prints of the forest of a place and an analysis
pub record Print : Type 0 where
  pub place : ℕ
  pub analysis : ℕ
  pub vertex : ℕ
  pub shown : Shown

-- what a reply to a question prints of a forest
abbrev pub print_in : Question → LogLine → Option Print
print_in (question.Parent v a x) (Answer (answer.Parent f p parent)) =
    Some (record { place = v; analysis = a; vertex = x; shown = ShownParent parent })
print_in (question.Path v a x) (Answer (answer.Path f p vertices)) =
    Some (record { place = v; analysis = a; vertex = x; shown = ShownPath vertices })
print_in asked reply = None

-- where something is printed of a forest, it is so in the forest of its place and analysis
abbrev pub AgreesWith : (ℕ → List Forest) → Option Print → Type 0
AgreesWith forests None = ⊤
AgreesWith forests (Some p) = IsSomeAnd (slice_get (forests p.place) p.analysis) (λ F. IsOfForest F p.vertex p.shown)

-- a reply answers a question on a list of lines with these forests of each place
pub record Answers (setup : Setup) (lines : List Line) (forests : ℕ → List Forest) (asked : Question) (reply : LogLine) : Type 0 where
  pub bare : IsBare setup lines asked reply
  pub agrees : AgreesWith forests (print_in asked reply)
