-- A run in rounds: its sessions go on until they wait, then a turn takes the oldest request of each, and each is told its outcome.
use Rattle.std.specs.Prelude.{◌≡◌, ◌≢◌, ℕ, ◌<◌, ◌≤◌, ◌+◌, ◌==◌, true, ◌⊎◌, List, [], ◌∷◌, ◌++◌, length, map, drop, fold, slice_get, slice_index_or, slice_set, Result}
use Rattle.std.specs.List.{All, filter_map, find}
use Rattle.ris_base.specs.Answers.{Answers}
use Rattle.ris_base.specs.Epoch.{Ground, Resolved, places_of}
use Rattle.ris_base.specs.Graph.{EachOnce}
use Rattle.ris_base.specs.Limits.{session_limit}
use Rattle.ris_base.specs.Machine.{Collect, Queued, Run, Seat, State, Step, asked_by, may_want, opened, session_by}
use Rattle.ris_base.specs.Records.{AreRight, forests_at, lines_of, opening_forests, setup_for}
use Rattle.ris_base.specs.Shape.{EndsByLeave, IsCommandFor}
use Rattle.ris_base.specs.declared.commands.Command.{Command}
use Rattle.ris_base.specs.declared.records.Record.{Record}
use Rattle.ris_base.specs.declared.replies.LogLine.{LogLine}
use Rattle.ris_base.specs.declared.replies.LogLine.TheVariants.{Denied}
use Rattle.ris_base.specs.declared.replies.Outcome.TheVariants as outcome
use Rattle.ris_base.specs.declared.replies.ReadAnswer.{ReadAnswer}
use Rattle.ris_base.specs.declared.replies.ReadRefusal.{ReadRefusal}
use Rattle.ris_base.specs.declared.replies.ReadRefusal.TheVariants as denial
use Rattle.ris_base.specs.declared.requests.Question.{Question}
use Rattle.ris_base.specs.declared.requests.Request.{Request}
use Rattle.ris_legal.specs.Laws.{IsOpening}
use Rattle.ris_session.specs.PlayerView.{PlayerView, Plays, after_answer, after_next, after_reply, given_of, player_of}

-- A run as it stands

-- the records so far, what each session has played, and the requests of each session that no turn has taken, oldest first
pub record RunView : Type 0 where
  pub records : List Record
  pub players : List PlayerView
  pub queues : List (List Request)

-- the player of session n; that of a session which isn't there has no commands
abbrev pub player_in : List PlayerView → ℕ → PlayerView
player_in players n = slice_index_or players n (player_of n [])

abbrev pub player_at : RunView → ℕ → PlayerView
player_at run n = player_in run.players n

-- the requests of session n that no turn has taken
abbrev pub queue_at : RunView → ℕ → List Request
queue_at run n = slice_index_or run.queues n []

-- the commands of session n
abbrev pub commands_at : List (List Command) → ℕ → List Command
commands_at lists n = slice_index_or lists n []

-- What each part of a round makes of a run

-- fresh players of these lists of commands, from session n on
unfoldable pub players_from : ℕ → List (List Command) → List PlayerView
players_from n [] = []
players_from n (commands ∷ lists) = player_of n commands ∷ players_from (n + 1) lists

-- the run in which nothing has happened
abbrev pub started : List (List Command) → RunView
started lists = record { records = []; players = players_from 0 lists; queues = map (λ commands. []) lists }

-- a run with another player of session n, and with another queue
abbrev pub with_player : RunView → ℕ → PlayerView → RunView
with_player run n player = record run { players = slice_set run.players n player }

abbrev pub with_queue : RunView → ℕ → List Request → RunView
with_queue run n queue = record run { queues = slice_set run.queues n queue }

-- session n submits a request, which goes to the back of its queue
abbrev pub submitted : RunView → ℕ → Request → RunView
submitted run n r = with_queue (with_player run n (after_next (player_at run n))) n (queue_at run n ++ r ∷ [])

-- session n gets the answer to its question
abbrev pub answered : RunView → ℕ → Result ReadAnswer ReadRefusal → RunView
answered run n answer = with_player run n (after_answer (player_at run n) answer)

-- the batch of a turn: the oldest request of each session that has one
abbrev pub batch_of : List (List Request) → List Request
batch_of queues = filter_map (λ queue. slice_get queue 0) queues

-- a player is told the outcome of its oldest request
abbrev pub told_player : List PlayerView → Resolved → List PlayerView
told_player players o = slice_set players o.session (after_reply (player_in players o.session) o.outcome)

-- a turn made more records and these outcomes: each session is told its own, and its oldest request is gone
abbrev pub told : RunView → List Record → List Resolved → RunView
told run more outcomes = record { records = more; players = fold told_player run.players outcomes; queues = map (drop 1) run.queues }

-- What a run keeps

-- session n plays these commands, and its queue has the commands that it gave and that have no reply, in their order
pub record IsSession (commands : List Command) (n : ℕ) (player : PlayerView) (queue : List Request) : Type 0 where
  pub session : player.session ≡ n
  pub plays : Plays commands player
  pub queued : map asked_by queue ≡ drop (length player.log) (given_of commands player)
  pub own : All (λ r. session_by r ≡ n) queue

-- a seat is that of a player between turns: it has the commands that are given, and the replies of the log, which all are given too;
-- the next command is in the queue
pub record IsSeatOf (commands : List Command) (player : PlayerView) (seat : Seat) : Type 0 where
  pub asked : seat.commands ≡ given_of commands player
  pub replies : map (λ k. k.reply) seat.replies ≡ player.log
  pub given : seat.given ≡ length player.log
  pub stand : seat.stand ≡ Queued

-- a state of the core machine is that of a run between turns: all lines of the records are published
pub record IsStateOf (ground : Ground) (lists : List (List Command)) (run : RunView) (s : State) : Type 0 where
  pub setup : s.setup ≡ setup_for ground.opening ground.specs ground.start
  pub seats : (n : ℕ) → IsSeatOf (commands_at lists n) (player_at run n) (s.book.seats n)
  pub lines : s.book.lines ≡ lines_of run.records
  pub places : s.book.places ≡ places_of ground.start run.records
  pub phase : s.phase ≡ Collect
  pub published : s.published ≡ length (lines_of run.records)

-- what a run is given: a proper graph of place 0 with right forests, and for each of its 1 to 64 sessions a list of commands for these
-- analyses, in which no command stands behind a leave
pub record IsGiven (ground : Ground) (lists : List (List Command)) : Type 0 where
  pub opening : IsOpening (setup_for ground.opening ground.specs ground.start) (opening_forests ground.start)
  pub some : 1 ≤ ground.start.sessions
  pub few : ground.start.sessions ≤ session_limit
  pub one_each : length lists ≡ ground.start.sessions
  pub askable : All (All (IsCommandFor (length ground.specs))) lists
  pub leaving : All EndsByLeave lists

-- A run is played: its records are right, each session plays its list of commands, and steps of the core machine lead from the opened
-- state to the run's
pub record IsPlayed (ground : Ground) (lists : List (List Command)) (run : RunView) : Type 0 where
  pub given : IsGiven ground lists
  pub right : AreRight ground.opening ground.specs ground.start run.records
  pub players : length run.players ≡ ground.start.sessions
  pub queues : length run.queues ≡ ground.start.sessions
  pub sessions : (n : ℕ) → IsSession (commands_at lists n) n (player_at run n) (queue_at run n)
  pub steps : List Step
  pub state : State
  pub ran : Run (opened (setup_for ground.opening ground.specs ground.start) (opening_forests ground.start)) steps state
  pub stands : IsStateOf ground lists run state

-- What comes to a run

-- a reply to a question is an answer on all lines of the records with their forests, or want of memory where the question may be
-- answered so
abbrev pub IsReadOf : Ground → List Record → Question → LogLine → Type 0
IsReadOf ground records question reply =
    Answers (setup_for ground.opening ground.specs ground.start) (lines_of records) (forests_at ground.start records) question reply
    ⊎ ((reply ≡ Denied denial.NoMemory) × (may_want question ≡ true))

-- a batch has exactly the oldest request of each session that has one
pub record IsBatchOf (queues : List (List Request)) (batch : List Request) : Type 0 where
  pub once : EachOnce (map session_by batch)
  pub fronts : (n : ℕ) → find (λ r. session_by r == n) batch ≡ slice_get (slice_index_or queues n []) 0

-- an outcome fits these players: it is the reply to the oldest open request of one of them
pub record Fits (players : List PlayerView) (o : Resolved) : Type 0 where
  pub here : o.session < length players
  pub oldest : o.seq ≡ length (player_in players o.session).log
  pub some : 1 ≤ (player_in players o.session).open_requests
  pub kept : o.outcome ≢ outcome.Closed
