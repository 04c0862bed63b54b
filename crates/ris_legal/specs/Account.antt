-- An account: a serial list with the forests of its places, and each session's commands with their replies, each of which says on
-- how many first lines it rests.
use Rattle.std.specs.Prelude.{◌≡◌, ℕ, ◌+◌, ◌-◌, ◌<◌, ◌≤◌, true, List, [], ◌∷◌, ◌++◌, length, map, take, slice_get, Option, Some, None, IfSome, unwrap_or, ⊤}
use Rattle.std.specs.Option.{option_map}
use Rattle.ris_base.specs.Answers.{Setup, Answers, question_of}
use Rattle.ris_base.specs.Forest.{Forest, IsForest}
use Rattle.ris_base.specs.Legal.{Asked}
use Rattle.ris_base.specs.Lines.{front, entry_at, session_of}
use Rattle.ris_base.specs.Machine.{Known, entry_of, last_placed, may_want}
use Rattle.ris_base.specs.Replies.{number}
use Rattle.ris_base.specs.Requests.{after, refusal_of, refused_at}
use Rattle.ris_base.specs.declared.analyses.Spec.{Spec}
use Rattle.ris_base.specs.declared.commands.Command.{Command}
use Rattle.ris_base.specs.declared.commands.Command.TheVariants as command
use Rattle.ris_base.specs.declared.graphs.PlainGraph.{PlainGraph}
use Rattle.ris_base.specs.declared.lines.Entry.{Entry}
use Rattle.ris_base.specs.declared.lines.Line.{Line}
use Rattle.ris_base.specs.declared.lines.Line.TheVariants as line
use Rattle.ris_base.specs.declared.replies.LogLine.{LogLine}
use Rattle.ris_base.specs.declared.replies.LogLine.TheVariants.{Reply, Denied}
use Rattle.ris_base.specs.declared.replies.Outcome.TheVariants as outcome
use Rattle.ris_base.specs.declared.replies.ReadRefusal.TheVariants as denial
use Rattle.ris_base.specs.declared.replies.Refusal.{Refusal}
use Rattle.ris_base.specs.declared.replies.Refusal.TheVariants as refusal
use Rattle.ris_base.specs.declared.requests.Question.{Question}
use Rattle.ris_base.specs.declared.updates.Update.{Update}

-- each of these forests is a right one of the analysis at its place in the list; of the last analyses there may be none
abbrev pub AreRight : PlainGraph → List Spec → List Forest → Type 0
AreRight g specs forests = (k : ℕ) (spec : Spec) (F : Forest) → slice_get specs k ≡ Some spec → slice_get forests k ≡ Some F → IsForest g spec F

-- what is accounted for
pub record Account : Type 0 where
  pub commands : ℕ → List Asked
  pub replies : ℕ → List Known
  pub lines : List Line
  pub places : List (List Forest)

-- the lines that a command of session s with its reply makes: one or none
abbrev pub made_by : ℕ → ℕ → Command → LogLine → List Line
made_by s seq (command.Change parts) (Reply (outcome.Placed place)) = line.Entry (entry_of s seq parts) ∷ []
made_by s seq (command.Release upto) (Reply (outcome.Marked front given)) = line.Mark s seq upto ∷ []
made_by s seq command.Leave (Reply (outcome.Left front)) = line.Leave s seq ∷ []
made_by s seq asked reply = []

abbrev pub made : ℕ → Asked → LogLine → List Line
made s asked reply = made_by s asked.seq asked.command reply

-- what a refusal of a change says of the lines that it rests on
abbrev pub SaysRefused : Setup → List Line → List Update → Refusal → Type 0
SaysRefused setup known parts refusal.NoMemory = ⊤
SaysRefused setup known parts refused =
    option_map (refused_at (front known)) (refusal_of (after setup.opening known (front known)) parts) ≡ Some refused

-- what the reply to a read says: want of memory, where the question may be answered so, or an answer on the lines that it rests on
abbrev pub SaysRead : Setup → List Line → (ℕ → List Forest) → Question → LogLine → Type 0
SaysRead setup known forests question (Denied denial.NoMemory) = may_want question ≡ true
SaysRead setup known forests question reply = Answers setup known forests question reply

-- the one table of what each reply to a command says of the lines that it rests on, where the session's last accepted entry has
-- the place `last`; a reply that the command can't have says what is false
abbrev pub Says : Setup → List Line → (ℕ → List Forest) → Command → Option Question → LogLine → Type 0
Says setup known forests asked (Some question) reply = SaysRead setup known forests question reply
Says setup known forests (command.Change parts) None (Reply (outcome.Placed place)) = ⊤
Says setup known forests (command.Change parts) None (Reply (outcome.Refused refused)) = SaysRefused setup known parts refused
Says setup known forests (command.Release upto) None (Reply (outcome.Marked n u)) = (u ≡ upto) × (upto ≤ n)
Says setup known forests (command.Release upto) None (Reply (outcome.NotYet n)) = n < upto
Says setup known forests (command.Release upto) None (Reply (outcome.Refused refusal.NoMemory)) = ⊤
Says setup known forests command.Leave None (Reply (outcome.Left n)) = ⊤
Says setup known forests command.Leave None (Reply (outcome.Refused refusal.NoMemory)) = ⊤
Says setup known forests asked None reply = ⊥

-- a reply is right for its command of session s: it rests on first lines that end with what it makes, its number is their front, and
-- it says what is so there
pub record IsRight (setup : Setup) (lines : List Line) (forests : ℕ → List Forest) (s last : ℕ) (asked : Asked) (known : Known) : Type 0 where
  pub within : known.knew ≤ length lines
  pub before : List Line
  pub ends : take known.knew lines ≡ before ++ made s asked known.reply
  pub number : IfSome (number known.reply) (λ n. n ≡ front (take known.knew lines))
  pub says : Says setup (take known.knew lines) forests asked.command (question_of asked.command last) known.reply

-- the commands of session s with their replies: their numbers rise, each reply is right, and it rests on all that the replies before
-- it rest on, and then what it makes
pub record IsSeated (setup : Setup) (lines : List Line) (forests : ℕ → List Forest) (s : ℕ) (commands : List Asked) (replies : List Known) : Type 0 where
  pub few : length replies ≤ length commands
  pub numbered : (p q : ℕ) (a b : Asked) → p < q → slice_get commands p ≡ Some a → slice_get commands q ≡ Some b → a.seq < b.seq
  pub right : (q : ℕ) (asked : Asked) (known : Known) → slice_get commands q ≡ Some asked → slice_get replies q ≡ Some known
      → IsRight setup lines forests s (last_placed 0 (take q replies)) asked known
  pub rising : (p q : ℕ) (a : Known) (asked : Asked) (b : Known) → p < q → slice_get replies p ≡ Some a → slice_get commands q ≡ Some asked
      → slice_get replies q ≡ Some b → a.knew + length (made s asked b.reply) ≤ b.knew

-- the line number i was made by one of these commands with its reply
pub record IsMade (i : ℕ) (l : Line) (commands : List Asked) (replies : List Known) : Type 0 where
  pub at : ℕ
  pub asked : Asked
  pub known : Known
  pub here : slice_get commands at ≡ Some asked
  pub told : slice_get replies at ≡ Some known
  pub makes : made (session_of l) asked known.reply ≡ l ∷ []
  pub knew : known.knew ≡ i + 1

-- the forests of a place of an account
abbrev pub forests_in : Account → ℕ → List Forest
forests_in a v = unwrap_or (slice_get a.places v) []

-- an account: each session's replies are right, each line is made by one command, each entry was accepted on the graph before it,
-- and the forests of each place are right
pub record IsAccount (setup : Setup) (a : Account) : Type 0 where
  pub seats : (s : ℕ) → IsSeated setup a.lines (forests_in a) s (a.commands s) (a.replies s)
  pub lines : (i : ℕ) (l : Line) → slice_get a.lines i ≡ Some l → IsMade i l (a.commands (session_of l)) (a.replies (session_of l))
  pub accepted : (v : ℕ) (e : Entry) → entry_at a.lines v ≡ Some e → refusal_of (after setup.opening a.lines (v - 1)) e.parts ≡ None
  pub places : length a.places ≡ front a.lines + 1
  pub forests : (v : ℕ) → v ≤ front a.lines → AreRight (after setup.opening a.lines v) setup.specs (forests_in a v)

-- the replies of an account alone
abbrev pub replies_in : Account → ℕ → List LogLine
replies_in a s = map (λ k. k.reply) (a.replies s)
