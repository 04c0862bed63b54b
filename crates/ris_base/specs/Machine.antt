-- The core machine: sessions with their commands and replies, a turn of the driver, and the serial list. A step is one atomic
-- action of one actor.
use Rattle.std.specs.Prelude.{◌≡◌, ◌≢◌, ℕ, ◌+◌, ◌-◌, ◌%◌, ◌<◌, ◌==◌, Bool, true, false, not, ◌&&◌, nat_lt, if◌then◌else◌, ◌⊎◌, List, [], ◌∷◌, ◌++◌, length, map, take, filter, slice_get, Option, Some, None, is_some, unwrap_or}
use Rattle.std.specs.List.{list_any}
use Rattle.ris_base.specs.Answers.{Setup, Answers, question_of, IsAskable}
use Rattle.ris_base.specs.Forest.{Forest, forest_in, AreForests}
use Rattle.ris_base.specs.Graph.{copies, is_equal, triple}
use Rattle.ris_base.specs.Legal.{Asked}
use Rattle.ris_base.specs.Limits.{open_limit}
use Rattle.ris_base.specs.Lines.{front}
use Rattle.ris_base.specs.Replies.{placed_or}
use Rattle.ris_base.specs.Requests.{RefusedPart, after, entered, refusal_of, refused_at}
use Rattle.ris_base.specs.Safe.{is_candidate, is_used}
use Rattle.ris_base.specs.declared.commands.Command.{Command}
use Rattle.ris_base.specs.declared.commands.Command.TheVariants as command
use Rattle.ris_base.specs.declared.events.Event.{Event}
use Rattle.ris_base.specs.declared.events.Event.TheVariants as event
use Rattle.ris_base.specs.declared.events.Verdict.{Verdict}
use Rattle.ris_base.specs.declared.events.Verdict.TheVariants as verdict
use Rattle.ris_base.specs.declared.graphs.PlainGraph.{PlainGraph}
use Rattle.ris_base.specs.declared.graphs.Triple.{Triple}
use Rattle.ris_base.specs.declared.lines.Entry.{Entry}
use Rattle.ris_base.specs.declared.lines.Line.{Line}
use Rattle.ris_base.specs.declared.lines.Line.TheVariants as line
use Rattle.ris_base.specs.declared.replies.LogLine.{LogLine}
use Rattle.ris_base.specs.declared.replies.LogLine.TheVariants.{Reply, Denied}
use Rattle.ris_base.specs.declared.replies.Outcome.TheVariants as outcome
use Rattle.ris_base.specs.declared.replies.ReadRefusal.TheVariants as denial
use Rattle.ris_base.specs.declared.replies.Refusal.TheVariants as refusal
use Rattle.ris_base.specs.declared.requests.Question.{Question}
use Rattle.ris_base.specs.declared.requests.Question.TheVariants as question
use Rattle.ris_base.specs.declared.requests.Request.{Request}
use Rattle.ris_base.specs.declared.requests.Request.TheVariants as request
use Rattle.ris_base.specs.declared.updates.Update.{Update}
use Rattle.ris_base.specs.declared.updates.Update.TheVariants.{AddV, DelV, AddE, DelE, SetW}

-- The state

-- the phases of a turn: requests are collected; candidates are decided; the rest is done one by one
pub data Phase : Type 0 where
  Collect : Phase
  Cells : Phase
  Serially : Phase

-- where the oldest request of a session without a reply stands: in the session's queue, in the batch, among the candidates that
-- are left, in its stripe's log, or in the tail. All later ones are in the queue
pub data Stand : Type 0 where
  Queued : Stand
  InBatch : Stand
  Undecided : Stand
  InLog : Stand
  InTail : Stand

-- a reply, and on how many first lines of the serial list it rests, its own line included
pub record Known : Type 0 where
  pub reply : LogLine
  pub knew : ℕ

-- a session's seat: its commands so far; the replies to the first of them, of which so many are given, the others being withheld
-- until the next publishing; where the next one stands; and how many lines the session has seen
pub record Seat : Type 0 where
  pub commands : List Asked
  pub replies : List Known
  pub given : ℕ
  pub stand : Stand
  pub seen : ℕ

-- a candidate that was decided
pub record Decided : Type 0 where
  pub entry : Entry
  pub verdict : Verdict

-- the seats, the serial list, and the forests of each place from 0 on
pub record Book : Type 0 where
  pub seats : ℕ → Seat
  pub lines : List Line
  pub places : List (List Forest)

-- the whole: what the run is given, the book, the phase of the turn, the log of each stripe, and how many lines are published
pub record State : Type 0 where
  pub setup : Setup
  pub book : Book
  pub phase : Phase
  pub logs : ℕ → List Decided
  pub published : ℕ

-- the graph now: that of the last place
abbrev pub graph_of : Setup → Book → PlainGraph
graph_of setup book = after setup.opening book.lines (front book.lines)

-- the forests of a place, and those of now, which are those of the last place
abbrev pub forests_of : Book → ℕ → List Forest
forests_of book v = unwrap_or (slice_get book.places v) []

abbrev pub forests_now : Book → List Forest
forests_now book = forests_of book (front book.lines)

-- Requests

-- the session of a request, and its command
abbrev pub session_by : Request → ℕ
session_by (request.Submit e) = e.session
session_by (request.Release session seq upto) = session
session_by (request.Leave session seq) = session

abbrev pub asked_by : Request → Asked
asked_by (request.Submit e) = record { seq = e.seq; command = command.Change e.parts }
asked_by (request.Release session seq upto) = record { seq = seq; command = command.Release upto }
asked_by (request.Leave session seq) = record { seq = seq; command = command.Leave }

-- the entry that a change of session s makes
abbrev pub entry_of : ℕ → ℕ → List Update → Entry
entry_of s seq parts = record { session = s; seq = seq; parts = parts }

-- the oldest command of a seat without a reply
abbrev pub next_of : Seat → Option Asked
next_of seat = slice_get seat.commands (length seat.replies)

-- whether a command is a leave
abbrev pub leaves : Command → Bool
leaves command.Leave = true
leaves other = false

abbrev pub is_leave : Asked → Bool
is_leave asked = leaves asked.command

-- one more than the number of the last command, or 0
unfoldable pub next_seq : List Asked → ℕ
next_seq [] = 0
next_seq (asked ∷ []) = asked.seq + 1
next_seq (asked ∷ next ∷ commands) = next_seq (next ∷ commands)

-- the place of the last accepted entry among replies, behind those where it was `last`
unfoldable pub last_placed : ℕ → List Known → ℕ
last_placed last [] = last
last_placed last (known ∷ replies) = last_placed (placed_or last known.reply) replies

-- Cells

-- the stripe of an update: the number of its source, or of its vertex, modulo 64
abbrev pub stripe_by : Update → ℕ
stripe_by (AddV x) = x % 64
stripe_by (DelV x) = x % 64
stripe_by (AddE u v w) = u % 64
stripe_by (DelE u v w) = u % 64
stripe_by (SetW u v w w2) = u % 64

-- the stripe of a candidate, which has one part
abbrev pub stripe_of : List Update → ℕ
stripe_of [] = 0
stripe_of (part ∷ parts) = stripe_by part

-- so many copies of a triple, after one applied update of one part
abbrev pub copies_by : Triple → ℕ → Update → ℕ
copies_by t n (AddV x) = n
copies_by t n (DelV x) = n
copies_by t n (AddE u v w) = if is_equal t (triple u v w) then n + 1 else n
copies_by t n (DelE u v w) = if is_equal t (triple u v w) then n - 1 else n
copies_by t n (SetW u v w w2) = n

abbrev pub copies_of_parts : Triple → ℕ → List Update → ℕ
copies_of_parts t n [] = n
copies_of_parts t n (part ∷ parts) = copies_by t n part

-- whether a candidate was applied
abbrev pub applies : Verdict → Bool
applies verdict.Applied = true
applies other = false

abbrev pub is_applied : Decided → Bool
is_applied d = applies d.verdict

-- the copies of a triple, changed by the applied candidates of a log
unfoldable pub copies_after : Triple → ℕ → List Decided → ℕ
copies_after t n [] = n
copies_after t n (d ∷ log) = copies_after t (if is_applied d then copies_of_parts t n d.entry.parts else n) log

-- the verdict on a `DelE` where its triple is used or not and has so many copies: without one it is refused, the last one of a
-- used triple is left to the tail, and any other is applied
abbrev pub verdict_by : Bool → ℕ → Verdict
verdict_by used n = if n == 0 then verdict.NoEdge else (if (n == 1) && used then verdict.Bounced else verdict.Applied)

-- the same where these are the forests of now
abbrev pub verdict_at : List Forest → Triple → ℕ → Verdict
verdict_at forests t n = verdict_by (is_used forests t) n

-- the verdict of a cell on a candidate of one part, whose stripe has this log
abbrev pub verdict_on : PlainGraph → List Forest → List Decided → Update → Verdict
verdict_on g forests log (AddV x) = verdict.Applied
verdict_on g forests log (DelV x) = verdict.Bounced
verdict_on g forests log (AddE u v w) = verdict.Applied
verdict_on g forests log (DelE u v w) = verdict_at forests (triple u v w) (copies_after (triple u v w) (copies g (triple u v w)) log)
verdict_on g forests log (SetW u v w w2) = verdict.Bounced

abbrev pub verdict_of : PlainGraph → List Forest → List Decided → List Update → Verdict
verdict_of g forests log [] = verdict.Bounced
verdict_of g forests log (part ∷ parts) = verdict_on g forests log part

-- What a step changes

-- the seats with another one for session s
abbrev pub with_seat : (ℕ → Seat) → ℕ → Seat → ℕ → Seat
with_seat seats s seat n = if n == s then seat else seats n

abbrev pub seated : Book → ℕ → Seat → Book
seated book s seat = record book { seats = with_seat book.seats s seat }

-- a seat with one command more
abbrev pub asked_more : Seat → Asked → Seat
asked_more seat asked = record seat { commands = seat.commands ++ asked ∷ [] }

-- the seat with one reply more, which rests on so many lines and is withheld; the next command is in the queue
abbrev pub told_seat : Seat → LogLine → ℕ → Seat
told_seat seat reply knew = record seat { replies = seat.replies ++ record { reply = reply; knew = knew } ∷ []; stand = Queued }

-- session s has one reply more, on all lines
abbrev pub told : Book → ℕ → LogLine → Book
told book s reply = seated book s (told_seat (book.seats s) reply (length book.lines))

-- one line more at the end
abbrev pub lined : Book → Line → Book
lined book l = record book { lines = book.lines ++ l ∷ [] }

-- an entry more, with the forests of its place, and its reply
abbrev pub placed : Book → Entry → List Forest → Book
placed book e forests =
    told (record book { lines = book.lines ++ line.Entry e ∷ []; places = book.places ++ forests ∷ [] })
    e.session (Reply (outcome.Placed (front book.lines + 1)))

-- what a decided candidate makes of a book: an entry with the forests of now, or the reply that it has no copy to take
abbrev pub sealed_by : Book → Decided → Book
sealed_by book d =
    if is_applied d then placed book d.entry (forests_now book)
    else told book d.entry.session (Reply (outcome.Refused (refusal.NoEdge (front book.lines) 1)))

-- what decided candidates make of a book, one after another
unfoldable pub sealed : Book → List Decided → Book
sealed book [] = book
sealed book (d ∷ order) = sealed (sealed_by book d) order

-- Events

-- a request is submitted: it carries the session's number, which exists, and a number greater than those before it; fewer than 16
-- are open, and the session hasn't submitted a leave. It goes to the back of the queue
pub record Submits (old : State) (s : ℕ) (r : Request) (new : State) : Type 0 where
  pub here : s < old.setup.sessions
  pub named : session_by r ≡ s
  pub greater : (q : ℕ) (asked : Asked) → slice_get (old.book.seats s).commands q ≡ Some asked → asked.seq < (asked_by r).seq
  pub few : length (old.book.seats s).commands < (old.book.seats s).given + open_limit
  pub stays : list_any is_leave (old.book.seats s).commands ≡ false
  pub after : new ≡ record old { book = seated old.book s (asked_more (old.book.seats s) (asked_by r)) }

-- the front request of a session's queue goes to the batch, which has none of this session
pub record Takes (old : State) (s : ℕ) (new : State) : Type 0 where
  pub here : s < old.setup.sessions
  pub phase : old.phase ≡ Collect
  pub stand : (old.book.seats s).stand ≡ Queued
  pub some : is_some (next_of (old.book.seats s)) ≡ true
  pub after : new ≡ record old { book = seated old.book s (record (old.book.seats s) { stand = InBatch }) }

-- whether a command is a candidate
abbrev pub is_candidate_command : State → Command → Bool
is_candidate_command s (command.Change parts) = is_candidate (graph_of s.setup s.book) s.setup.specs (forests_now s.book) parts
is_candidate_command s other = false

abbrev pub is_candidate_now : State → Option Asked → Bool
is_candidate_now s None = false
is_candidate_now s (Some asked) = is_candidate_command s asked.command

-- where a request of the batch goes: candidates to their stripes, save those of the sessions that are held, and others to the tail
abbrev pub begun : State → List ℕ → ℕ → Stand → Stand
begun s held n InBatch =
    if is_candidate_now s (next_of (s.book.seats n)) && not (list_any (λ h. h == n) held) then Undecided else InTail
begun s held n stand = stand

-- the turn begins, with these sessions held
pub record Begins (old : State) (held : List ℕ) (new : State) : Type 0 where
  pub phase : old.phase ≡ Collect
  pub after : new ≡ record old {
    book = record old.book { seats = λ n. record (old.book.seats n) { stand = begun old held n (old.book.seats n).stand } };
    phase = Cells;
    logs = λ k. [];
  }

-- a candidate of the stripe k with this verdict goes to the stripe's log or, bounced, to the tail
abbrev pub decided : State → ℕ → Entry → Verdict → State
decided old k e verdict.Bounced = record old { book = seated old.book e.session (record (old.book.seats e.session) { stand = InTail }) }
decided old k e v = record old {
  book = seated old.book e.session (record (old.book.seats e.session) { stand = InLog });
  logs = λ n. if n == k then old.logs n ++ record { entry = e; verdict = v } ∷ [] else old.logs n;
}

-- the cell of session s, whose candidate is left in the stripe k
pub record Decides (old : State) (k s : ℕ) (new : State) : Type 0 where
  pub asked : Asked
  pub parts : List Update
  pub phase : old.phase ≡ Cells
  pub stand : (old.book.seats s).stand ≡ Undecided
  pub next : next_of (old.book.seats s) ≡ Some asked
  pub is : asked.command ≡ command.Change parts
  pub of_stripe : stripe_of parts ≡ k
  pub after : new ≡ decided old k (entry_of s asked.seq parts)
      (verdict_of (graph_of old.setup old.book) (forests_now old.book) (old.logs k) parts)

-- no candidate is left, and the logs are merged in this order of sessions: the applied ones become entries
pub record Seals (old : State) (order : List ℕ) (new : State) : Type 0 where
  pub merged : List Decided
  pub phase : old.phase ≡ Cells
  pub all : (s : ℕ) → (old.book.seats s).stand ≢ Undecided
  pub sessions : map (λ d. d.entry.session) merged ≡ order
  pub logs : (k : ℕ) → filter (λ d. stripe_of d.entry.parts == k) merged ≡ old.logs k
  pub after : new ≡ record old { book = sealed old.book merged; phase = Serially; logs = λ k. [] }

-- the next command of session s stands in the tail, and the phase is that of the tail
pub record IsInTail (old : State) (s : ℕ) (asked : Asked) : Type 0 where
  pub phase : old.phase ≡ Serially
  pub stand : (old.book.seats s).stand ≡ InTail
  pub next : next_of (old.book.seats s) ≡ Some asked

-- a change is refused, with the forests of now, or becomes an entry with right forests
abbrev pub EntersOr : State → Entry → List Forest → State → Option RefusedPart → Type 0
EntersOr old e forests new (Some refused) =
    (forests ≡ forests_now old.book)
    × (new ≡ record old { book = told old.book e.session (Reply (outcome.Refused (refused_at (front old.book.lines) refused))) })
EntersOr old e forests new None =
    AreForests (entered (graph_of old.setup old.book) e.parts) old.setup.specs forests
    × (new ≡ record old { book = placed old.book e forests })

pub record Enters (old : State) (s : ℕ) (forests : List Forest) (new : State) : Type 0 where
  pub asked : Asked
  pub parts : List Update
  pub tail : IsInTail old s asked
  pub is : asked.command ≡ command.Change parts
  pub after : EntersOr old (entry_of s asked.seq parts) forests new (refusal_of (graph_of old.setup old.book) parts)

-- a release is refused where it is past the front, or becomes a mark
abbrev pub marked : Book → ℕ → ℕ → ℕ → Book
marked book s seq upto =
    if nat_lt (front book.lines) upto then told book s (Reply (outcome.NotYet (front book.lines)))
    else told (lined book (line.Mark s seq upto)) s (Reply (outcome.Marked (front book.lines) upto))

pub record Marks (old : State) (s : ℕ) (new : State) : Type 0 where
  pub asked : Asked
  pub upto : ℕ
  pub tail : IsInTail old s asked
  pub is : asked.command ≡ command.Release upto
  pub after : new ≡ record old { book = marked old.book s asked.seq upto }

-- a session leaves
pub record Leaves (old : State) (s : ℕ) (new : State) : Type 0 where
  pub asked : Asked
  pub tail : IsInTail old s asked
  pub is : asked.command ≡ command.Leave
  pub after : new ≡ record old {
    book = told (lined old.book (line.Leave s asked.seq)) s (Reply (outcome.Left (front old.book.lines)));
  }

-- the turn ends: its lines are published, the withheld replies go out, and each session has seen the list
pub record Publishes (old new : State) : Type 0 where
  pub phase : old.phase ≡ Serially
  pub done : (s : ℕ) → (old.book.seats s).stand ≢ InTail
  pub after : new ≡ record old {
    book = record old.book {
      seats = λ n. record (old.book.seats n) { given = length (old.book.seats n).replies; seen = length old.book.lines };
    };
    phase = Collect;
    published = length old.book.lines;
  }

-- a session, which exists and has no request open, reads: its next command has this question, whose analysis exists
pub record MayRead (old : State) (s : ℕ) (asked : Asked) (question : Question) : Type 0 where
  pub here : s < old.setup.sessions
  pub none_open : (old.book.seats s).given ≡ length (old.book.seats s).commands
  pub seq : asked.seq ≡ next_seq (old.book.seats s).commands
  pub asks : question_of asked.command (last_placed 0 (old.book.seats s).replies) ≡ Some question
  pub askable : IsAskable old.setup question

-- the seat after a read with this reply, on the published lines
abbrev pub read_seat : State → Seat → Asked → LogLine → Seat
read_seat old seat asked reply = record seat {
  commands = seat.commands ++ asked ∷ [];
  replies = seat.replies ++ record { reply = reply; knew = old.published } ∷ [];
  given = seat.given + 1;
  seen = old.published;
}

-- a read is answered on the published lines with their forests
pub record Reads (old : State) (s : ℕ) (question : Question) (new : State) : Type 0 where
  pub asked : Asked
  pub reply : LogLine
  pub may : MayRead old s asked question
  pub answers : Answers old.setup (take old.published old.book.lines) (forests_of old.book) question reply
  pub after : new ≡ record old { book = seated old.book s (read_seat old (old.book.seats s) asked reply) }

-- Want of memory

-- a request of the batch before the turn begins, or of the tail, is answered by want of memory
pub record Wants (old : State) (s : ℕ) (new : State) : Type 0 where
  pub asked : Asked
  pub next : next_of (old.book.seats s) ≡ Some asked
  pub where_ : ((old.phase ≡ Collect) × ((old.book.seats s).stand ≡ InBatch)) ⊎ ((old.phase ≡ Serially) × ((old.book.seats s).stand ≡ InTail))
  pub after : new ≡ record old { book = told old.book s (Reply (outcome.Refused refusal.NoMemory)) }

-- whether a question may be answered by want of memory
abbrev pub may_want : Question → Bool
may_want (question.Path v a x) = true
may_want (question.Modified v a) = true
may_want other = false

pub record WantsToRead (old : State) (s : ℕ) (question : Question) (new : State) : Type 0 where
  pub asked : Asked
  pub may : MayRead old s asked question
  pub may_want : may_want question ≡ true
  pub after : new ≡ record old { book = seated old.book s (read_seat old (old.book.seats s) asked (Denied denial.NoMemory)) }

-- Steps

-- a step of the machine: one of its events, where a turn may begin with held sessions and forests are functions; or want of memory
pub data Step : Type 0 where
  Submit : (session : ℕ) (request : Request) → Step
  Take : (session : ℕ) → Step
  Begin : (held : List ℕ) → Step
  Cell : (stripe session : ℕ) → Step
  Seal : (order : List ℕ) → Step
  Serial : (session : ℕ) (forests : List Forest) → Step
  Mark : (session : ℕ) → Step
  Leave : (session : ℕ) → Step
  Publish : Step
  Read : (session : ℕ) (question : Question) → Step
  Want : (session : ℕ) → Step
  WantToRead : (session : ℕ) (question : Question) → Step

-- the step that an event is
abbrev pub step_of : Event → Step
step_of (event.Submit session request) = Submit session request
step_of (event.Take session) = Take session
step_of event.Begin = Begin []
step_of (event.Cell stripe session) = Cell stripe session
step_of (event.Seal order) = Seal order
step_of (event.Serial session rows) = Serial session (map forest_in rows)
step_of (event.Mark session) = Mark session
step_of (event.Leave session) = Leave session
step_of event.Publish = Publish
step_of (event.Read session question) = Read session question

-- from a state, a step may lead to another
abbrev pub Happens : State → Step → State → Type 0
Happens old (Submit s r) new = Submits old s r new
Happens old (Take s) new = Takes old s new
Happens old (Begin held) new = Begins old held new
Happens old (Cell k s) new = Decides old k s new
Happens old (Seal order) new = Seals old order new
Happens old (Serial s forests) new = Enters old s forests new
Happens old (Mark s) new = Marks old s new
Happens old (Leave s) new = Leaves old s new
Happens old Publish new = Publishes old new
Happens old (Read s question) new = Reads old s question new
Happens old (Want s) new = Wants old s new
Happens old (WantToRead s question) new = WantsToRead old s question new

-- these steps happen, one after another
unfoldable pub Run : State → List Step → State → Type 0
Run old [] new = new ≡ old
Run old (step ∷ steps) new = (mid : State) × Happens old step mid × Run mid steps new

-- a step is enabled where it can lead to some state
abbrev pub IsEnabled : State → Step → Type 0
IsEnabled old step = (new : State) × Happens old step new

-- the seat of a session that has said nothing
abbrev pub empty_seat : Seat
empty_seat = record { commands = []; replies = []; given = 0; stand = Queued; seen = 0 }

-- the state in which nothing has happened, with these forests of place 0
abbrev pub opened : Setup → List Forest → State
opened setup forests = record {
  setup = setup;
  book = record { seats = λ n. empty_seat; lines = []; places = forests ∷ [] };
  phase = Collect;
  logs = λ k. [];
  published = 0;
}

-- the commands and the replies of a state, given or withheld
abbrev pub commands_of : State → ℕ → List Asked
commands_of s n = (s.book.seats n).commands

abbrev pub replies_of : State → ℕ → List LogLine
replies_of s n = map (λ k. k.reply) (s.book.seats n).replies
