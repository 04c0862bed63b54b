-- A state in which a turn of its batch goes on, as the state of that turn alone says.
use Rattle.std.specs.Prelude.{◌≡◌, ℕ, ◌==◌, List, [], ◌∷◌, ◌++◌, map, Option, Some, None}
use Rattle.std.specs.List.{find}
use Rattle.ris_base.specs.Epoch.{Ground, IsHeldEpoch, Resolved, places_of}
use Rattle.ris_base.specs.Machine.{Collect, InBatch, Queued, Seat, State, Step, asked_by, next_of, session_by}
use Rattle.ris_base.specs.Machine.Step.{Begin, Seal, Want}
use Rattle.ris_base.specs.Records.{lines_of, setup_for}
use Rattle.ris_base.specs.declared.records.Record.{Record}
use Rattle.ris_base.specs.declared.requests.Request.{Request}

-- a seat whose next command is in a turn: it has the replies that the turn made so far behind its own, and stands where the turn says
abbrev pub joined : Seat → Seat → Seat
joined seat turn = record seat { replies = seat.replies ++ turn.replies; stand = turn.stand }

-- a state whose batch is in a turn: the lines, the places, the phase and the logs are those of the turn
abbrev pub turned : State → State → State
turned s turn = record {
  setup = turn.setup;
  book = record { seats = λ n. joined (s.book.seats n) (turn.book.seats n); lines = turn.book.lines; places = turn.book.places };
  phase = turn.phase;
  logs = turn.logs;
  published = s.published;
}

-- a seat has this request in the batch, or nothing out of the queue
abbrev pub HasInBatch : Seat → Option Request → Type 0
HasInBatch seat None = seat.stand ≡ Queued
HasInBatch seat (Some r) = (seat.stand ≡ InBatch) × (next_of seat ≡ Some (asked_by r))

-- a state on these records, before a turn, has this batch
pub record HasBatch (ground : Ground) (records : List Record) (batch : List Request) (s : State) : Type 0 where
  pub phase : s.phase ≡ Collect
  pub setup : s.setup ≡ setup_for ground.opening ground.specs ground.start
  pub lines : s.book.lines ≡ lines_of records
  pub places : s.book.places ≡ places_of ground.start records
  pub seats : (n : ℕ) → HasInBatch (s.book.seats n) (find (λ r. session_by r == n) batch)

-- the steps of an epoch
abbrev pub steps_of : {ground : Ground} {records : List Record} {batch : List Request} {held : List ℕ} {more : List Record} {outcomes : List Resolved}
    → IsHeldEpoch ground records batch held more outcomes → List Step
steps_of {held = held} e = (map Want e.wanting ++ Begin held ∷ e.cells ++ Seal e.order ∷ []) ++ e.tail
