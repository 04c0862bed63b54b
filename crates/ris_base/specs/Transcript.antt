-- A transcript of a script: what its lines say, and how they are spelled.
use Rattle.std.specs.Prelude.{◌≡◌, ℕ, IsTrue, sum_by, count_by, ◌+◌, ◌<◌, ◌^◌, List, [], ◌∷◌, ◌++◌, length, map, slice_get, slice_index_or, Option, Some, None, IsSome, ⊤, codes, decimal}
use Rattle.std.specs.Option.{option_and_then}
use Rattle.std.specs.List.{AllByRecursion, join_with_byte, filter_map}
use Rattle.ris_base.specs.Answers.{Setup}
use Rattle.ris_base.specs.Legal.{Asked, IsLegal}
use Rattle.ris_base.specs.Lists.{EachPair}
use Rattle.ris_base.specs.Lines.{front, mark_count}
use Rattle.ris_base.specs.Replies.{can_have, is_refused}
use Rattle.ris_base.specs.Script.{opening_of}
use Rattle.ris_base.specs.declared.analyses.Spec.{Spec}
use Rattle.ris_base.specs.declared.analyses.Value.{Value}
use Rattle.ris_base.specs.declared.analyses.Value.TheVariants.{Absent, Unreached, Num}
use Rattle.ris_base.specs.declared.commands.Command.{Command}
use Rattle.ris_base.specs.declared.commands.Command.TheVariants as command
use Rattle.ris_base.specs.declared.forests.Parent.{Parent}
use Rattle.ris_base.specs.declared.forests.Parent.TheVariants as parent
use Rattle.ris_base.specs.declared.lines.Line.{Line}
use Rattle.ris_base.specs.declared.lines.Line.TheVariants as line
use Rattle.ris_base.specs.declared.replies.LogLine.{LogLine}
use Rattle.ris_base.specs.declared.replies.LogLine.TheVariants.{Reply, Answer, Denied}
use Rattle.ris_base.specs.declared.replies.Outcome.{Outcome}
use Rattle.ris_base.specs.declared.replies.Outcome.TheVariants as outcome
use Rattle.ris_base.specs.declared.replies.ReadAnswer.{ReadAnswer}
use Rattle.ris_base.specs.declared.replies.ReadAnswer.TheVariants as answer
use Rattle.ris_base.specs.declared.replies.ReadRefusal.{ReadRefusal}
use Rattle.ris_base.specs.declared.replies.ReadRefusal.TheVariants as denial
use Rattle.ris_base.specs.declared.replies.Refusal.{Refusal}
use Rattle.ris_base.specs.declared.replies.Refusal.TheVariants as refusal
use Rattle.ris_base.specs.declared.scripts.Script.{Script}

-- a journal line, `journal,entry,<place>,<session>,<seq>`: the entry at a place is this command of this session; and
-- `journal,mark,<front>,<session>,<seq>` and `journal,leave,<front>,<session>,<seq>`: a mark and a leave, with so many entries
-- before it
pub data JournalLine : Type 0 where
  EntryLine : (place session seq : ℕ) → JournalLine
  MarkLine : (front session seq : ℕ) → JournalLine
  LeaveLine : (front session seq : ℕ) → JournalLine

-- the last line: how many entries, marks, refused replies and visits there were
pub record Summary : Type 0 where
  pub entries : ℕ
  pub marks : ℕ
  pub refused : ℕ
  pub visits : ℕ

-- the lines of a transcript: the replies of each session, in the order of its commands; the journal; the summary
pub record Transcript : Type 0 where
  pub replies : List (List LogLine)
  pub journal : List JournalLine
  pub summary : Summary

-- The fields of the lines

-- a field of a line: a fixed word, or a number
pub data Field : Type 0 where
  Word : (bytes : List ℕ) → Field
  Number : (number : ℕ) → Field

abbrev pub value_field : Value → Field
value_field Absent = Word (codes "absent")
value_field Unreached = Word (codes "unreached")
value_field (Num c) = Number c

abbrev pub parent_fields : Parent → List Field
parent_fields parent.None = Word (codes "none") ∷ []
parent_fields (parent.From vertex source target weight) = Number vertex ∷ Number source ∷ Number target ∷ Number weight ∷ []

-- how many vertices, and then the vertices
abbrev pub vertex_fields : List ℕ → List Field
vertex_fields vertices = Number (length vertices) ∷ map Number vertices

abbrev pub refusal_fields : Refusal → List Field
refusal_fields (refusal.NoVertex front part id) = Word (codes "novertex") ∷ Number front ∷ Number part ∷ Number id ∷ []
refusal_fields (refusal.NoEdge front part) = Word (codes "noedge") ∷ Number front ∷ Number part ∷ []
refusal_fields (refusal.Limit front part given) = Word (codes "limit") ∷ Number front ∷ Number part ∷ Number given ∷ []
refusal_fields refusal.NoMemory = Word (codes "nomem") ∷ []

-- what no command can have as its reply has no fields
abbrev pub outcome_fields : Outcome → List Field
outcome_fields (outcome.Placed place) = Word (codes "place") ∷ Number place ∷ []
outcome_fields (outcome.Marked front upto) = Word (codes "marked") ∷ Number front ∷ Number upto ∷ []
outcome_fields (outcome.Left front) = Word (codes "left") ∷ Number front ∷ []
outcome_fields (outcome.Refused refused) = refusal_fields refused
outcome_fields (outcome.NotYet front) = Word (codes "notyet") ∷ Number front ∷ []
outcome_fields outcome.Closed = []

abbrev pub answer_fields : ReadAnswer → List Field
answer_fields (answer.Value front place value) = Word (codes "value") ∷ Number front ∷ Number place ∷ value_field value ∷ []
answer_fields (answer.Parent front place parent) = Word (codes "parent") ∷ Number front ∷ Number place ∷ parent_fields parent
answer_fields (answer.Path front place vertices) = Word (codes "path") ∷ Number front ∷ Number place ∷ vertex_fields vertices
answer_fields (answer.Modified front place vertices) = Word (codes "modified") ∷ Number front ∷ Number place ∷ vertex_fields vertices
answer_fields (answer.Current front floor) = Word (codes "current") ∷ Number front ∷ Number floor ∷ []

abbrev pub denial_fields : ReadRefusal → List Field
denial_fields (denial.NotYet front) = Word (codes "notyet") ∷ Number front ∷ []
denial_fields (denial.Released front floor) = Word (codes "released") ∷ Number front ∷ Number floor ∷ []
denial_fields denial.NoMemory = Word (codes "nomem") ∷ []
denial_fields denial.Shut = []

-- the fields of a reply behind the session and the number of the command
abbrev pub fields : LogLine → List Field
fields (Reply outcome) = outcome_fields outcome
fields (Answer answered) = answer_fields answered
fields (Denied denied) = denial_fields denied

-- the reply lines of session s to its commands from number q on
unfoldable pub log_lines : ℕ → ℕ → List LogLine → List (List Field)
log_lines s q [] = []
log_lines s q (reply ∷ replies) = (Number s ∷ Number q ∷ fields reply) ∷ log_lines s (q + 1) replies

-- the reply lines of the sessions from number s on
unfoldable pub reply_lines : ℕ → List (List LogLine) → List (List Field)
reply_lines s [] = []
reply_lines s (log ∷ logs) = log_lines s 0 log ++ reply_lines (s + 1) logs

abbrev pub journal_fields : JournalLine → List Field
journal_fields (EntryLine place session seq) = Word (codes "journal") ∷ Word (codes "entry") ∷ Number place ∷ Number session ∷ Number seq ∷ []
journal_fields (MarkLine front session seq) = Word (codes "journal") ∷ Word (codes "mark") ∷ Number front ∷ Number session ∷ Number seq ∷ []
journal_fields (LeaveLine front session seq) = Word (codes "journal") ∷ Word (codes "leave") ∷ Number front ∷ Number session ∷ Number seq ∷ []

abbrev pub summary_fields : Summary → List Field
summary_fields s = Word (codes "summary") ∷ Number s.entries ∷ Number s.marks ∷ Number s.refused ∷ Number s.visits ∷ []

-- all lines: the reply lines, then the journal lines, then the summary
abbrev pub all_lines : Transcript → List (List Field)
all_lines t = reply_lines 0 t.replies ++ map journal_fields t.journal ++ summary_fields t.summary ∷ []

-- The spelling

-- a word stands as it is, and a number in decimal
abbrev pub field_text : Field → List ℕ
field_text (Word bytes) = bytes
field_text (Number n) = decimal n

-- fields joined by commas, and a line feed
abbrev pub line_text : List Field → List ℕ
line_text line = join_with_byte 44 (map field_text line) ++ 10 ∷ []

-- one line after another
unfoldable pub text_of : List (List Field) → List ℕ
text_of [] = []
text_of (line ∷ lines) = line_text line ++ text_of lines

-- the text of a transcript
abbrev pub spelling : Transcript → List ℕ
spelling t = text_of (all_lines t)

-- a number is below 2^64
abbrev pub IsSmall : Field → Type 0
IsSmall (Word bytes) = ⊤
IsSmall (Number n) = n < 2 ^ 64

-- Form

-- the commands of each session, which a script numbers from 0 on
unfoldable pub numbered_from : ℕ → List Command → List Asked
numbered_from q [] = []
numbered_from q (command ∷ commands) = record { seq = q; command = command } ∷ numbered_from (q + 1) commands

abbrev pub asked_in : List (List Command) → ℕ → List Asked
asked_in lists s = numbered_from 0 (slice_index_or lists s [])

-- the replies of each session
abbrev pub replies_in : List (List LogLine) → ℕ → List LogLine
replies_in logs s = slice_index_or logs s []

-- the number of refused replies of all sessions
abbrev pub refused_count : List (List LogLine) → ℕ
refused_count logs = sum_by (count_by is_refused) logs

-- the line of the serial list that a command of session s makes as an entry, as a mark and as a leave, where it can make one
abbrev pub entry_by : ℕ → ℕ → Command → Option Line
entry_by s q (command.Change parts) = Some (line.Entry (record { session = s; seq = q; parts = parts }))
entry_by s q _ = None

abbrev pub mark_by : ℕ → ℕ → Command → Option Line
mark_by s q (command.Release upto) = Some (line.Mark s q upto)
mark_by s q _ = None

abbrev pub leave_by : ℕ → ℕ → Command → Option Line
leave_by s q command.Leave = Some (line.Leave s q)
leave_by s q _ = None

-- the command number q of session s
abbrev pub command_at : List (List Command) → ℕ → ℕ → Option Command
command_at lists s q = slice_get (slice_index_or lists s []) q

-- the line of the serial list that a journal line names, where its session and number name a command that can make one
abbrev pub line_named : List (List Command) → JournalLine → Option Line
line_named lists (EntryLine place session seq) = option_and_then (entry_by session seq) (command_at lists session seq)
line_named lists (MarkLine front session seq) = option_and_then (mark_by session seq) (command_at lists session seq)
line_named lists (LeaveLine front session seq) = option_and_then (leave_by session seq) (command_at lists session seq)

-- the serial list that a journal names
abbrev pub lines_named : List (List Command) → List JournalLine → List Line
lines_named lists journal = filter_map (line_named lists) journal

-- there is one reply per command, of a kind that the command can have; each journal line names a command that can make such a
-- line; the summary counts the entries, the marks and the refused replies; and each number is below 2^64
pub record HasForm (lists : List (List Command)) (t : Transcript) : Type 0 where
  pub replies : EachPair (EachPair (λ command reply. IsTrue (can_have command reply))) lists t.replies
  pub journal : AllByRecursion (λ j. IsSome (line_named lists j)) t.journal
  pub entries : t.summary.entries ≡ front (lines_named lists t.journal)
  pub marks : t.summary.marks ≡ mark_count (lines_named lists t.journal)
  pub refused : t.summary.refused ≡ refused_count t.replies
  pub small : AllByRecursion (AllByRecursion IsSmall) (all_lines t)

-- Places

-- behind n entries, the entries of a journal have the places after that, one by one, and a mark or a leave has the number of
-- entries before it
unfoldable pub PlacesFrom : ℕ → List JournalLine → Type 0
PlacesFrom n [] = ⊤
PlacesFrom n (EntryLine place session seq ∷ journal) = (place ≡ n + 1) × PlacesFrom (n + 1) journal
PlacesFrom n (MarkLine front session seq ∷ journal) = (front ≡ n) × PlacesFrom n journal
PlacesFrom n (LeaveLine front session seq ∷ journal) = (front ≡ n) × PlacesFrom n journal

-- The whole

-- these lines are those of a transcript of the commands of each session: they have the form, the places are counted, and the
-- replies are legal for the serial list that the journal names
pub record IsTranscriptOf (setup : Setup) (lists : List (List Command)) (t : Transcript) : Type 0 where
  pub form : HasForm lists t
  pub places : PlacesFrom 0 t.journal
  pub legal : IsLegal setup (asked_in lists) (replies_in t.replies) (lines_named lists t.journal)

-- the text is a transcript, and its last number is this one: it spells lines that are those of one
pub record IsTranscriptIn (setup : Setup) (lists : List (List Command)) (visits : ℕ) (text : List ℕ) : Type 0 where
  pub lines : Transcript
  pub spelled : text ≡ spelling lines
  pub right : IsTranscriptOf setup lists lines
  pub last : lines.summary.visits ≡ visits

-- what a script and some analyses give a run
abbrev pub setup_of : Script → List Spec → Setup
setup_of script specs = record { opening = opening_of script; specs = specs; sessions = script.sessions }

-- the text is a transcript of the script with these analyses, and its last number is this one
abbrev pub IsTranscript : Script → List Spec → ℕ → List ℕ → Type 0
IsTranscript script specs visits text = IsTranscriptIn (setup_of script specs) script.commands visits text
