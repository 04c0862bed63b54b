-- What a history answers, by what it holds.
use Rattle.std.specs.List.{Contains}
use Rattle.std.specs.List.Sorted.{IsStrictlyIncreasing}
use Rattle.std.specs.Prelude.{◌≡◌, ◌↔◌, ℕ, zero, suc, nat_lt, if◌then◌else◌, ◌<◌, List, [], ◌∷◌, length, Option, Some, None, Result, Ok, Err, ⊤}
use Rattle.ris_base.specs.Answers.{Answers, analysis_of}
use Rattle.ris_base.specs.Lists.{unless}
use Rattle.ris_base.specs.Records.{lines_of, forests_at, setup_for}
use Rattle.ris_base.specs.declared.analyses.Spec.{Spec}
use Rattle.ris_base.specs.declared.analyses.Value.{Value}
use Rattle.ris_base.specs.declared.analyses.Value.TheVariants.{Absent, Unreached, Num}
use Rattle.ris_base.specs.declared.forests.Parent.{Parent}
use Rattle.ris_base.specs.declared.forests.Parent.TheVariants as parent
use Rattle.ris_base.specs.declared.graphs.PlainGraph.{PlainGraph}
use Rattle.ris_base.specs.declared.records.Record.{Record}
use Rattle.ris_base.specs.declared.records.Start.{Start}
use Rattle.ris_base.specs.declared.replies.LogLine.{LogLine}
use Rattle.ris_base.specs.declared.replies.LogLine.TheVariants.{Answer, Denied}
use Rattle.ris_base.specs.declared.replies.ReadAnswer.{ReadAnswer}
use Rattle.ris_base.specs.declared.replies.ReadAnswer.TheVariants as answer
use Rattle.ris_base.specs.declared.replies.ReadRefusal.{ReadRefusal}
use Rattle.ris_base.specs.declared.replies.ReadRefusal.TheVariants as denial
use Rattle.ris_base.specs.declared.requests.Question.{Question}
use Rattle.ris_base.specs.declared.requests.Question.TheVariants as question
use Rattle.ris_history.specs.HistoryView.{TableView, HistoryView, shown, moved_at}
use Rattle.ris_history.specs.declared.moves.Moved.{Moved}
use Rattle.ris_history.specs.Standing.{StandsFor}

-- why place v can't be read, where it can't: it is past the front, or below the floor
abbrev pub refusal_at : HistoryView → ℕ → Option ReadRefusal
refusal_at h v =
    if nat_lt h.table.front v then Some (denial.NotYet h.table.front)
    else (if nat_lt v h.floor then Some (denial.Released h.table.front h.floor) else None)

-- a result, unless place v can't be read
abbrev pub unless_refused : {X : Type 0} → HistoryView → ℕ → X → Result X ReadRefusal
unless_refused h v x = unless (refusal_at h v) x

-- the vertices of at most n parents, from this parent upwards
abbrev pub climb : ℕ → TableView → ℕ → ℕ → Parent → List ℕ
climb zero t v a p = []
climb (suc n) t v a parent.None = []
climb (suc n) t v a (parent.From vertex source target weight) = vertex ∷ climb n t v a (shown t v a vertex).parent

-- the path of x at place v: none where x has no number, else x and its parents, at most as many as there are chains
abbrev pub path_by : Value → TableView → ℕ → ℕ → ℕ → List ℕ
path_by Absent t v a x = []
path_by Unreached t v a x = []
path_by (Num c) t v a x = x ∷ climb (length t.chains) t v a (shown t v a x).parent

abbrev pub path_in : TableView → ℕ → ℕ → ℕ → List ℕ
path_in t v a x = path_by (shown t v a x).value t v a x

-- a question's analysis is one that the history has, where it has one
abbrev pub HasAnalysis : TableView → Option ℕ → Type 0
HasAnalysis t None = ⊤
HasAnalysis t (Some a) = a < t.analyses

abbrev pub IsAskableOf : HistoryView → Question → Type 0
IsAskableOf h asked = HasAnalysis h.table (analysis_of asked)

-- what a call that takes memory answers: the refusal of the place where there is one, else P holds of the answer, or memory was
-- wanted
abbrev pub IsGiven : {X : Type 0} → Option ReadRefusal → Result X ReadRefusal → (X → Type 0) → Type 0
IsGiven (Some refusal) result P = result ≡ Err refusal
IsGiven None (Ok x) P = P x
IsGiven None (Err refusal) P = refusal ≡ denial.NoMemory

-- the ascending list of exactly the vertices that stand with this analysis
pub record AreVerticesOf (moved : List Moved) (a : ℕ) (vertices : List ℕ) : Type 0 where
  pub ascending : IsStrictlyIncreasing vertices
  pub each : (x : ℕ) → Contains vertices x ↔ Contains moved (record { analysis = a; vertex = x })

-- it is the answer of these vertices
abbrev pub IsOfVertices : (List ℕ → Type 0) → ℕ → ℕ → ReadAnswer → Type 0
IsOfVertices P f v (answer.Modified front place vertices) = (front ≡ f) × (place ≡ v) × P vertices
IsOfVertices P f v answered = ⊥

-- what an answer to a question says by what the history holds
abbrev pub IsAsked : HistoryView → Question → Result ReadAnswer ReadRefusal → Type 0
IsAsked h (question.Value v a x) result = result ≡ unless_refused h v (answer.Value h.table.front v (shown h.table v a x).value)
IsAsked h (question.Parent v a x) result = result ≡ unless_refused h v (answer.Parent h.table.front v (shown h.table v a x).parent)
IsAsked h (question.Path v a x) result = IsGiven (refusal_at h v) result (λ r. r ≡ answer.Path h.table.front v (path_in h.table v a x))
IsAsked h (question.Modified v a) result = IsGiven (refusal_at h v) result (IsOfVertices (AreVerticesOf (moved_at h v) a) h.table.front v)
IsAsked h question.Current result = result ≡ Ok (answer.Current h.table.front h.floor)

-- a result as a reply
abbrev pub reply_of : Result ReadAnswer ReadRefusal → LogLine
reply_of (Ok answered) = Answer answered
reply_of (Err refusal) = Denied refusal

abbrev pub value_reply : ℕ → ℕ → Result Value ReadRefusal → LogLine
value_reply f v (Ok value) = Answer (answer.Value f v value)
value_reply f v (Err refusal) = Denied refusal

abbrev pub parent_reply : ℕ → ℕ → Result Parent ReadRefusal → LogLine
parent_reply f v (Ok found) = Answer (answer.Parent f v found)
parent_reply f v (Err refusal) = Denied refusal

abbrev pub path_reply : ℕ → ℕ → Result (List ℕ) ReadRefusal → LogLine
path_reply f v (Ok vertices) = Answer (answer.Path f v vertices)
path_reply f v (Err refusal) = Denied refusal

abbrev pub modified_reply : ℕ → ℕ → Result (List ℕ) ReadRefusal → LogLine
modified_reply f v (Ok vertices) = Answer (answer.Modified f v vertices)
modified_reply f v (Err refusal) = Denied refusal

-- a reply answers a question, for all records that the history stands for
abbrev pub IsAnswer : HistoryView → Question → LogLine → Type 0
IsAnswer h asked reply =
    (opening : PlainGraph) (specs : List Spec) (start : Start) (records : List Record) → StandsFor h opening specs start records
    → Answers (setup_for opening specs start) (lines_of records) (forests_at start records) asked reply
