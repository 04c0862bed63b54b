-- The laws of runs in rounds: what each part of a round keeps, and what holds at the end.
use Rattle.std.specs.Prelude.{◌≡◌, ◌≢◌, ℕ, ◌+◌, ◌<◌, ◌≤◌, IsTrue, List, ◌∷◌, ◌++◌, length, map, fold, sum_by, Result, Err}
use Rattle.std.specs.List.{All, Contains}
use Rattle.ris_base.specs.Answers.{IsAskable}
use Rattle.ris_base.specs.Epoch.{Ground, IsHeldEpoch, Resolved}
use Rattle.ris_base.specs.Legal.{IsLegal}
use Rattle.ris_base.specs.Lists.{EachPair}
use Rattle.ris_base.specs.Machine.{session_by}
use Rattle.ris_base.specs.Records.{AreRight, lines_of, setup_for}
use Rattle.ris_base.specs.Replies.{can_have}
use Rattle.ris_base.specs.Transcript.{asked_in, replies_in}
use Rattle.ris_base.specs.declared.commands.Command.{Command}
use Rattle.ris_base.specs.declared.records.Record.{Record}
use Rattle.ris_base.specs.declared.replies.ReadAnswer.{ReadAnswer}
use Rattle.ris_base.specs.declared.replies.ReadRefusal.{ReadRefusal}
use Rattle.ris_base.specs.declared.replies.ReadRefusal.TheVariants as denial
use Rattle.ris_base.specs.declared.requests.Question.{Question}
use Rattle.ris_base.specs.declared.requests.Request.{Request}
use Rattle.ris_session.specs.PlayerView.{step_of, line_of}
use Rattle.ris_session.specs.declared.players.Next.TheVariants as next
use Rattle.ris_rounds.specs.Rounds.{Fits, IsBatchOf, IsGiven, IsPlayed, IsReadOf, RunView, answered, batch_of, player_at, started, submitted, told, told_player}

-- a run in which nothing has happened is played
abbrev pub StartsArePlayed : Type 0
StartsArePlayed = (ground : Ground) (lists : List (List Command)) → IsGiven ground lists → IsPlayed ground lists (started lists)

-- and so is one where a session submits the request that is its next step
abbrev pub SubmitsKeep : Type 0
SubmitsKeep = (ground : Ground) (lists : List (List Command)) (run : RunView) (n : ℕ) (r : Request) → IsPlayed ground lists run
    → n < ground.start.sessions → step_of (player_at run n) ≡ next.Submit r → IsPlayed ground lists (submitted run n r)

-- and one where a session gets a right answer to the question that is its next step
abbrev pub AnswersKeep : Type 0
AnswersKeep = (ground : Ground) (lists : List (List Command)) (run : RunView) (n : ℕ) (question : Question)
    (answer : Result ReadAnswer ReadRefusal) → IsPlayed ground lists run → n < ground.start.sessions
    → step_of (player_at run n) ≡ next.Ask question → IsReadOf ground run.records question (line_of answer)
    → IsPlayed ground lists (answered run n answer)

-- the question that is a session's next step asks for an analysis that exists, and a right answer to it is none that is shut out
abbrev pub QuestionsFit : Type 0
QuestionsFit = (ground : Ground) (lists : List (List Command)) (run : RunView) (n : ℕ) (question : Question)
    → IsPlayed ground lists run → n < ground.start.sessions → step_of (player_at run n) ≡ next.Ask question
    → IsAskable (setup_for ground.opening ground.specs ground.start) question
    × ((answer : Result ReadAnswer ReadRefusal) → IsReadOf ground run.records question (line_of answer) → answer ≢ Err denial.Shut)

-- the oldest requests of a run's sessions are a batch, which no session has two requests in; its sessions exist; and its requests and
-- the lines so far are no more than the commands
abbrev pub FrontsAreBatches : Type 0
FrontsAreBatches = (ground : Ground) (lists : List (List Command)) (run : RunView) → IsPlayed ground lists run
    → IsBatchOf run.queues (batch_of run.queues)
    × All (λ r. session_by r < ground.start.sessions) (batch_of run.queues)
    × (length (lines_of run.records) + length (batch_of run.queues) ≤ sum_by length lists)

-- a session that awaits a reply has a request in the batch
abbrev pub AwaitsAreTaken : Type 0
AwaitsAreTaken = (ground : Ground) (lists : List (List Command)) (run : RunView) (n : ℕ) → IsPlayed ground lists run
    → step_of (player_at run n) ≡ next.Await → (r : Request) × (session_by r ≡ n) × Contains (batch_of run.queues) r

-- and a run is played where a turn of such a batch leads to right records, and each session is told its outcome
abbrev pub TurnsKeep : Type 0
TurnsKeep = (ground : Ground) (lists : List (List Command)) (run : RunView) (batch : List Request) (held : List ℕ) (more : List Record)
    (outcomes : List Resolved) → IsPlayed ground lists run → IsBatchOf run.queues batch
    → IsHeldEpoch ground run.records batch held more outcomes → AreRight ground.opening ground.specs ground.start more
    → IsPlayed ground lists (told run more outcomes)

-- each outcome of such a turn fits the players, those before it being told
abbrev pub OutcomesFit : Type 0
OutcomesFit = (ground : Ground) (lists : List (List Command)) (run : RunView) (batch : List Request) (held : List ℕ) (more : List Record)
    (outcomes before rest : List Resolved) (o : Resolved) → IsPlayed ground lists run → IsBatchOf run.queues batch
    → IsHeldEpoch ground run.records batch held more outcomes → outcomes ≡ before ++ o ∷ rest
    → Fits (fold told_player run.players before) o

-- where all players are done, their logs and the lines of the records are legal for the commands, and each command has one reply, of a
-- kind that it can have
abbrev pub EndsAreLegal : Type 0
EndsAreLegal = (ground : Ground) (lists : List (List Command)) (run : RunView) → IsPlayed ground lists run
    → ((n : ℕ) → n < ground.start.sessions → step_of (player_at run n) ≡ next.Done)
    → IsLegal (setup_for ground.opening ground.specs ground.start) (asked_in lists) (replies_in (map (λ p. p.log) run.players))
    (lines_of run.records)
    × EachPair (EachPair (λ command reply. IsTrue (can_have command reply))) lists (map (λ p. p.log) run.players)
