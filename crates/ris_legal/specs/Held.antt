-- What a state of the core machine keeps, whatever steps lead to it.
use Rattle.std.specs.Prelude.{◌≡◌, ◌≢◌, ℕ, ◌<◌, true, ◌≤◌, List, [], ◌∷◌, ◌++◌, length, slice_get, Some, None, ⊤}
use Rattle.ris_base.specs.Answers.{Setup, question_of}
use Rattle.ris_base.specs.Effect.Objection.{NoEdge}
use Rattle.ris_base.specs.Forest.{Forest, AreForests}
use Rattle.ris_base.specs.Graph.{IsProper}
use Rattle.ris_base.specs.Legal.{Asked, IsLegal}
use Rattle.ris_base.specs.Machine.{Book, Cells, Decided, InLog, Known, Queued, Seat, State, Undecided, commands_of, forests_now, graph_of, is_candidate_now, next_of, replies_of, stripe_of, verdict_of}
use Rattle.ris_base.specs.Safe.{is_candidate}
use Rattle.ris_base.specs.Requests.{refusal_of}
use Rattle.ris_base.specs.declared.analyses.Spec.{Spec}
use Rattle.ris_base.specs.declared.commands.Command.TheVariants as command
use Rattle.ris_base.specs.declared.events.Verdict.{Verdict}
use Rattle.ris_base.specs.declared.events.Verdict.TheVariants as verdict
use Rattle.ris_base.specs.declared.graphs.PlainGraph.{PlainGraph}
use Rattle.ris_base.specs.declared.lines.Entry.{Entry}
use Rattle.ris_base.specs.declared.updates.Update.{Update}
use Rattle.ris_legal.specs.Account.{Account, IsAccount}

-- what a book accounts for
abbrev pub account_in : Book → Account
account_in book = record {
  commands = λ n. (book.seats n).commands;
  replies = λ n. (book.seats n).replies;
  lines = book.lines;
  places = book.places;
}

-- Seats

-- a seat, so many lines being published: replies are given after they are made, each on published lines; a command that doesn't
-- stand in the queue is there; commands without a reply are requests and no reads; and what the session has seen is published
pub record IsSeatKept (published : ℕ) (seat : Seat) : Type 0 where
  pub given : seat.given ≤ length seat.replies
  pub flight : seat.stand ≢ Queued → length seat.replies < length seat.commands
  pub waiting : (q : ℕ) (asked : Asked) → length seat.replies ≤ q → slice_get seat.commands q ≡ Some asked → question_of asked.command 0 ≡ None
  pub known : (q : ℕ) (known : Known) → q < seat.given → slice_get seat.replies q ≡ Some known → known.knew ≤ published
  pub seen : seat.seen ≤ published

-- a book is an account with right forests of all analyses now, the published lines are its first ones, and each of its seats is kept
pub record IsBookKept (setup : Setup) (published : ℕ) (book : Book) : Type 0 where
  pub account : IsAccount setup (account_in book)
  pub right : AreForests (graph_of setup book) setup.specs (forests_now book)
  pub within : published ≤ length book.lines
  pub seats : (n : ℕ) → IsSeatKept published (book.seats n)

-- Cells

-- the command that an entry is
abbrev pub asked_in : Entry → Asked
asked_in e = record { seq = e.seq; command = command.Change e.parts }

-- a decision of the log of stripe k: it is one on the next command of its session, which stands in a log, is of this stripe and is
-- a candidate on the graph now
pub record IsLogged (s : State) (k : ℕ) (d : Decided) : Type 0 where
  pub stripe : stripe_of d.entry.parts ≡ k
  pub stand : (s.book.seats d.entry.session).stand ≡ InLog
  pub next : next_of (s.book.seats d.entry.session) ≡ Some (asked_in d.entry)
  pub candidate : is_candidate (graph_of s.setup s.book) s.setup.specs (forests_now s.book) d.entry.parts ≡ true
  pub ruled : d.verdict ≢ verdict.Bounced

-- some log has a decision of session n
pub record HasDecision (s : State) (n : ℕ) : Type 0 where
  pub stripe : ℕ
  pub place : ℕ
  pub decision : Decided
  pub here : slice_get (s.logs stripe) place ≡ Some decision
  pub session : decision.entry.session ≡ n

-- no session has two decisions in a list
abbrev pub NoTwo : List Decided → Type 0
NoTwo log = (i j : ℕ) (a b : Decided) → i < j → slice_get log i ≡ Some a → slice_get log j ≡ Some b → a.entry.session ≢ b.entry.session

-- each verdict of a log is the one that a cell gives where those before it stand, behind some others
unfoldable pub AreVerdicts : PlainGraph → List Forest → List Decided → List Decided → Type 0
AreVerdicts g forests before [] = ⊤
AreVerdicts g forests before (d ∷ log) = (d.verdict ≡ verdict_of g forests before d.entry.parts) × AreVerdicts g forests (before ++ d ∷ []) log

-- each log has decisions on next commands, of each session one at most, with the verdicts of its order on the graph now
pub record AreLogs (s : State) : Type 0 where
  pub logged : (k i : ℕ) (d : Decided) → slice_get (s.logs k) i ≡ Some d → IsLogged s k d
  pub single : (k : ℕ) → NoTwo (s.logs k)
  pub verdicts : (k : ℕ) → AreVerdicts (graph_of s.setup s.book) (forests_now s.book) [] (s.logs k)

-- in the cells the logs are right, who is undecided has a candidate for the next command, and who stands in a log has a decision there
pub record AreCells (s : State) : Type 0 where
  pub logs : AreLogs s
  pub undecided : (n : ℕ) → (s.book.seats n).stand ≡ Undecided → is_candidate_now s (next_of (s.book.seats n)) ≡ true
  pub in_log : (n : ℕ) → (s.book.seats n).stand ≡ InLog → HasDecision s n

-- States

-- session n has nothing in the cells
abbrev pub IsOutside : State → ℕ → Type 0
IsOutside s n = ((s.book.seats n).stand ≢ Undecided) × ((s.book.seats n).stand ≢ InLog)

-- a state keeps its book and the proper graph of place 0; outside the cells nobody has anything in them and the logs are empty, and in
-- the cells they are right
pub record IsKept (s : State) : Type 0 where
  pub book : IsBookKept s.setup s.published s.book
  pub proper : IsProper s.setup.opening
  pub outside : s.phase ≢ Cells → (n : ℕ) → IsOutside s n
  pub empty : s.phase ≢ Cells → (k : ℕ) → s.logs k ≡ []
  pub cells : s.phase ≡ Cells → AreCells s

-- the commands, the replies (given or withheld) and the lines of a state are legal
abbrev pub IsLegalState : State → Type 0
IsLegalState s = IsLegal s.setup (commands_of s) (replies_of s) s.book.lines

-- what a verdict says of these parts on a graph with these forests: an applied candidate is accepted and is still one, and a refused
-- one lacks its copy
abbrev pub SaysVerdict : PlainGraph → List Spec → List Forest → List Update → Verdict → Type 0
SaysVerdict g specs forests parts verdict.Applied = (refusal_of g parts ≡ None) × (is_candidate g specs forests parts ≡ true)
SaysVerdict g specs forests parts verdict.NoEdge = refusal_of g parts ≡ Some (record { part = 1; why = NoEdge })
SaysVerdict g specs forests parts verdict.Bounced = ⊥
SaysVerdict g specs forests parts verdict.Waiting = ⊥
