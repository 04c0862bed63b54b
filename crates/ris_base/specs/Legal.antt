-- When replies and a serial list of lines are legal for the commands of some sessions. The replies of a session may be fewer than
-- its commands: those behind them have none yet.
use Rattle.std.specs.Prelude.{◌≡◌, ◌↔◌, ℕ, ◌-◌, ◌<◌, ◌≤◌, Bool, true, false, IsTrue, List, [], ◌∷◌, length, take, slice_get, Option, Some, None, IfSome, IsSomeAnd, ⊤}
use Rattle.std.specs.Option.{option_map}
use Rattle.ris_base.specs.Answers.{Setup, OfAnalysis, Print, question_of, print_in, IsBare, IsOfForest}
use Rattle.ris_base.specs.Forest.{Forest, IsForest}
use Rattle.ris_base.specs.Lists.{IsLeast}
use Rattle.ris_base.specs.Lines.{front, floor, entry_at, session_of, seq_of}
use Rattle.ris_base.specs.Replies.{number, printed_floor, placed_or, wants_memory, may_want_memory, can_have}
use Rattle.ris_base.specs.Requests.{after, refusal_of, refused_at}
use Rattle.ris_base.specs.declared.commands.Command.{Command}
use Rattle.ris_base.specs.declared.commands.Command.TheVariants as command
use Rattle.ris_base.specs.declared.lines.Entry.{Entry}
use Rattle.ris_base.specs.declared.lines.Line.{Line}
use Rattle.ris_base.specs.declared.lines.Line.TheVariants as line
use Rattle.ris_base.specs.declared.replies.LogLine.{LogLine}
use Rattle.ris_base.specs.declared.replies.LogLine.TheVariants.{Reply}
use Rattle.ris_base.specs.declared.replies.Outcome.TheVariants as outcome
use Rattle.ris_base.specs.declared.replies.Refusal.{Refusal}
use Rattle.ris_base.specs.declared.requests.Question.{Question}
use Rattle.ris_base.specs.declared.updates.Update.{Update}

-- a command with the number that it carries in its session
pub record Asked : Type 0 where
  pub seq : ℕ
  pub command : Command

-- the commands of each session, and the replies to the first of them
abbrev pub Commands : Type 0
Commands = ℕ → List Asked

abbrev pub Replies : Type 0
Replies = ℕ → List LogLine

-- the command number q of session s, counted from 0, is this one; and the reply to it is this one
abbrev pub HasCommand : Commands → ℕ → ℕ → Asked → Type 0
HasCommand commands s q asked = slice_get (commands s) q ≡ Some asked

abbrev pub HasReply : Replies → ℕ → ℕ → LogLine → Type 0
HasReply replies s q reply = slice_get (replies s) q ≡ Some reply

-- Form

-- a session has no more replies than commands, and each is of a kind that its command can have
pub record HasKinds (commands : Commands) (replies : Replies) : Type 0 where
  pub few : (s : ℕ) → length (replies s) ≤ length (commands s)
  pub kinds : (s q : ℕ) (asked : Asked) (reply : LogLine) → HasCommand commands s q asked → HasReply replies s q reply
      → IsTrue (can_have asked.command reply)

-- Each once

-- a line is this command of session s
abbrev pub IsLineOf : ℕ → Asked → Line → Type 0
IsLineOf s asked (line.Entry e) = (e.session ≡ s) × (e.seq ≡ asked.seq) × (asked.command ≡ command.Change e.parts)
IsLineOf s asked (line.Mark session seq upto) = (session ≡ s) × (seq ≡ asked.seq) × (asked.command ≡ command.Release upto)
IsLineOf s asked (line.Leave session seq) = (session ≡ s) × (seq ≡ asked.seq) × (asked.command ≡ command.Leave)

-- so many entries stand before a line of the list
pub record StandsBehind (lines : List Line) (l : Line) (f : ℕ) : Type 0 where
  pub index : ℕ
  pub here : slice_get lines index ≡ Some l
  pub behind : front (take index lines) ≡ f

-- A command has the reply `place,v` exactly where the entry at v is this command; `marked,f,u` exactly where a mark of it is in the
-- list, u is the place that it releases and f entries stand before the mark; `left,f` exactly where a leave of it is in the list
-- and f entries stand before that. Each line is of a command, and the lines of one session stand in the order of its commands,
-- so that no command has two
pub record IsEachOnce (commands : Commands) (replies : Replies) (lines : List Line) : Type 0 where
  pub placed : (s q v : ℕ) (asked : Asked) → HasCommand commands s q asked
      → HasReply replies s q (Reply (outcome.Placed v)) ↔ IsSomeAnd (entry_at lines v) (λ e. IsLineOf s asked (line.Entry e))
  pub marked : (s q f u : ℕ) (asked : Asked) → HasCommand commands s q asked
      → HasReply replies s q (Reply (outcome.Marked f u)) ↔ (StandsBehind lines (line.Mark s asked.seq u) f × (asked.command ≡ command.Release u))
  pub left : (s q f : ℕ) (asked : Asked) → HasCommand commands s q asked
      → HasReply replies s q (Reply (outcome.Left f)) ↔ (StandsBehind lines (line.Leave s asked.seq) f × (asked.command ≡ command.Leave))
  pub of_commands : (i : ℕ) (l : Line) → slice_get lines i ≡ Some l
      → (q : ℕ) × (asked : Asked) × HasCommand commands (session_of l) q asked × IsLineOf (session_of l) asked l
  pub in_order : (i j : ℕ) (first second : Line) → i < j → slice_get lines i ≡ Some first → slice_get lines j ≡ Some second
      → session_of first ≡ session_of second → seq_of first < seq_of second

-- Session order

-- a reply may stand behind one with this number: numbers don't fall, and a place is greater than every number before it
abbrev pub MayFollow : ℕ → LogLine → Type 0
MayFollow before (Reply (outcome.Placed place)) = before < place
MayFollow before reply = IfSome (number reply) (λ n. before ≤ n)

-- in one session the numbers of the replies don't fall, and a place is greater than every number before it
abbrev pub IsInSessionOrder : Replies → Type 0
IsInSessionOrder replies = (s p q : ℕ) (before reply : LogLine) → p < q → HasReply replies s p before → HasReply replies s q reply
    → IfSome (number before) (λ n. MayFollow n reply)

-- Accepted and refused

-- No part of an accepted entry is refused on the graph of the place before it. A refusal of a change with a front says exactly what
-- is refused on the graph of that place, which is made. A release of u is marked where u is at most its front, and `notyet` where
-- it is greater
pub record AreJudged (setup : Setup) (commands : Commands) (replies : Replies) (lines : List Line) : Type 0 where
  pub accepted : (v : ℕ) (e : Entry) → entry_at lines v ≡ Some e → refusal_of (after setup.opening lines (v - 1)) e.parts ≡ None
  pub refused : (s q f : ℕ) (asked : Asked) (parts : List Update) (refused : Refusal) → HasCommand commands s q asked
      → asked.command ≡ command.Change parts → HasReply replies s q (Reply (outcome.Refused refused))
      → number (Reply (outcome.Refused refused)) ≡ Some f
      → (f ≤ front lines) × (option_map (refused_at f) (refusal_of (after setup.opening lines f) parts) ≡ Some refused)
  pub marked : (s q f u upto : ℕ) (asked : Asked) → HasCommand commands s q asked → asked.command ≡ command.Release upto
      → HasReply replies s q (Reply (outcome.Marked f u)) → (u ≡ upto) × (u ≤ f)
  pub not_yet : (s q f upto : ℕ) (asked : Asked) → HasCommand commands s q asked → asked.command ≡ command.Release upto
      → HasReply replies s q (Reply (outcome.NotYet f)) → (f < upto) × (f ≤ front lines)

-- Reads

-- The first n lines may be what a read knew: the command with this number of session s, which got this reply, after reads that
-- knew `held` lines. They have the reply's front and its floor, where it prints one, and they hold each line of an earlier
-- command of the session and all that its earlier reads knew
pub record MayKnow (setup : Setup) (lines : List Line) (s seq held : ℕ) (reply : LogLine) (n : ℕ) : Type 0 where
  pub within : n ≤ length lines
  pub of_front : IfSome (number reply) (λ f. front (take n lines) ≡ f)
  pub of_floor : IfSome (printed_floor reply) (λ low. floor setup.sessions (take n lines) ≡ low)
  pub own : (i : ℕ) (l : Line) → slice_get lines i ≡ Some l → session_of l ≡ s → seq_of l < seq → i < n
  pub earlier : held ≤ n

-- a read is answered on its reading list, the least number of first lines that it may have known, and what follows stands behind
-- these; want of memory has no reading list
abbrev pub IsReadOr : Bool → Setup → List Line → ℕ → ℕ → ℕ → Question → LogLine → (ℕ → Type 0) → Type 0
IsReadOr true setup lines s seq held question reply rest = rest held
IsReadOr false setup lines s seq held question reply rest =
    (n : ℕ) × IsLeast (MayKnow setup lines s seq held reply) n × IsBare setup (take n lines) question reply × rest n

-- a command that is a read is judged so, and any other passes on what is held
abbrev pub IsJudgedOr : Option Question → Setup → List Line → ℕ → ℕ → ℕ → LogLine → (ℕ → Type 0) → Type 0
IsJudgedOr None setup lines s seq held reply rest = rest held
IsJudgedOr (Some question) setup lines s seq held reply rest = IsReadOr (wants_memory reply) setup lines s seq held question reply rest

-- The reads of session s are answered on their reading lists, where its last accepted entry has the place `last`, and its reads
-- before them knew `held` lines. A command without a reply isn't judged
unfoldable pub AreRead : Setup → List Line → ℕ → ℕ → ℕ → List Asked → List LogLine → Type 0
AreRead setup lines s last held [] replies = ⊤
AreRead setup lines s last held (asked ∷ commands) [] = ⊤
AreRead setup lines s last held (asked ∷ commands) (reply ∷ replies) =
    IsJudgedOr (question_of asked.command last) setup lines s asked.seq held reply
    (λ n. AreRead setup lines s (placed_or last reply) n commands replies)

-- the reads of every session are answered on their reading lists
abbrev pub ReadsAreRight : Setup → Commands → Replies → List Line → Type 0
ReadsAreRight setup commands replies lines = (s : ℕ) → AreRead setup lines s 0 0 (commands s) (replies s)

-- One forest per place

-- what a reply to a read prints of a forest; the reply to any other command prints nothing of one
abbrev pub print_by : Option Question → LogLine → Option Print
print_by None reply = None
print_by (Some question) reply = print_in question reply

-- what the replies of a session print of forests, where its last accepted entry has the place `last`
unfoldable pub prints_from : ℕ → List Asked → List LogLine → List (Option Print)
prints_from last [] replies = []
prints_from last (asked ∷ commands) [] = []
prints_from last (asked ∷ commands) (reply ∷ replies) =
    print_by (question_of asked.command last) reply ∷ prints_from (placed_or last reply) commands replies

-- some reply prints this of a forest
pub record HasPrint (commands : Commands) (replies : Replies) (p : Print) : Type 0 where
  pub session : ℕ
  pub index : ℕ
  pub here : slice_get (prints_from 0 (commands session) (replies session)) index ≡ Some (Some p)

-- two are printed of the forest of one place and one analysis
abbrev pub AreOfOne : Print → Print → Type 0
AreOfOne p other = (other.place ≡ p.place) × (other.analysis ≡ p.analysis)

-- for each place and analysis of which something is printed there is one right forest with which all that is printed of them
-- agrees
abbrev pub IsOfOneForest : Setup → Commands → Replies → List Line → Type 0
IsOfOneForest setup commands replies lines = (p : Print) → HasPrint commands replies p
    → OfAnalysis setup p.analysis (λ spec. (F : Forest) × IsForest (after setup.opening lines p.place) spec F
    × ((other : Print) → HasPrint commands replies other → AreOfOne p other → IsOfForest F other.vertex other.shown))

-- Want of memory

-- want of memory is the reply only to a command that may be answered so
abbrev pub IsWantingRightly : Commands → Replies → Type 0
IsWantingRightly commands replies = (s q : ℕ) (asked : Asked) (reply : LogLine) → HasCommand commands s q asked → HasReply replies s q reply
    → IsTrue (wants_memory reply) → IsTrue (may_want_memory asked.command)

-- the replies of each session and the serial list are legal for the commands
pub record IsLegal (setup : Setup) (commands : Commands) (replies : Replies) (lines : List Line) : Type 0 where
  pub kinds : HasKinds commands replies
  pub each_once : IsEachOnce commands replies lines
  pub session_order : IsInSessionOrder replies
  pub judged : AreJudged setup commands replies lines
  pub reads : ReadsAreRight setup commands replies lines
  pub one_forest : IsOfOneForest setup commands replies lines
  pub want_of_memory : IsWantingRightly commands replies
