-- An epoch: what one turn of the driver makes of records and a batch of requests, and how many visits it may take.
use Rattle.std.specs.Prelude.{◌≡◌, ◌≢◌, ℕ, ◌+◌, ◌≤◌, ◌==◌, Bool, true, false, List, [], ◌∷◌, ◌++◌, length, map, sum, slice_get, Option, Some, None, IsSomeAnd}
use Rattle.std.specs.List.{All, Contains, filter_map, find}
use Rattle.ris_base.specs.Falling.{IsReach}
use Rattle.ris_base.specs.Forest.{Forest}
use Rattle.ris_base.specs.Graph.{EachOnce}
use Rattle.ris_base.specs.Lines.{front, entry_at}
use Rattle.ris_base.specs.Lists.{EachPair, numbers_below}
use Rattle.ris_base.specs.Machine.{Seat, State, Step, Run, InBatch, InTail, Collect, empty_seat, session_by, asked_by, is_candidate_now, next_of}
use Rattle.ris_base.specs.Machine.Step.{Begin, Cell, Seal, Serial, Mark, Leave, Want}
use Rattle.ris_base.specs.Records.{lines_of, forests_at, setup_for}
use Rattle.ris_base.specs.Requests.{after}
use Rattle.ris_base.specs.declared.analyses.Spec.{Spec}
use Rattle.ris_base.specs.declared.graphs.PlainGraph.{PlainGraph}
use Rattle.ris_base.specs.declared.records.Record.{Record}
use Rattle.ris_base.specs.declared.records.Start.{Start}
use Rattle.ris_base.specs.declared.replies.LogLine.TheVariants.{Reply}
use Rattle.ris_base.specs.declared.replies.Outcome.{Outcome}
use Rattle.ris_base.specs.declared.requests.Request.{Request}
use Rattle.ris_base.specs.declared.requests.Request.TheVariants as request
use Rattle.ris_base.specs.declared.updates.Update.{Update}

-- what records stand on: the plain graph of place 0, the analyses, and the start
pub record Ground : Type 0 where
  pub opening : PlainGraph
  pub specs : List Spec
  pub start : Start

-- The turn

-- a session's seat with the request that it has in the batch, if it has one
abbrev pub seat_with : Option Request → Seat
seat_with None = empty_seat
seat_with (Some r) = record { commands = asked_by r ∷ []; replies = []; given = 0; stand = InBatch; seen = 0 }

abbrev pub batch_seat : List Request → ℕ → Seat
batch_seat batch s = seat_with (find (λ r. session_by r == s) batch)

-- the forests of each place of records, from 0 on
abbrev pub places_of : Start → List Record → List (List Forest)
places_of start records = map (forests_at start records) (numbers_below (front (lines_of records) + 1))

-- the state of the machine at the begin of a turn: the lines and forests are those of the records, and the batch is taken
abbrev pub turn_of : Ground → List Record → List Request → State
turn_of ground records batch = record {
  setup = setup_for ground.opening ground.specs ground.start;
  book = record { seats = batch_seat batch; lines = lines_of records; places = places_of ground.start records };
  phase = Collect;
  logs = λ k. [];
  published = length (lines_of records);
}

-- whether a step is one of the cells, and whether it is one of the tail
abbrev pub is_cell : Step → Bool
is_cell (Cell stripe session) = true
is_cell step = false

abbrev pub is_of_tail : Step → Bool
is_of_tail (Serial session forests) = true
is_of_tail (Mark session) = true
is_of_tail (Leave session) = true
is_of_tail (Want session) = true
is_of_tail step = false

-- what became of the request with this number of a session
pub record Resolved : Type 0 where
  pub session : ℕ
  pub seq : ℕ
  pub outcome : Outcome

-- an outcome is that of this request
abbrev pub IsOf : Request → Resolved → Type 0
IsOf r o = (o.session ≡ session_by r) × (o.seq ≡ (asked_by r).seq)

-- an outcome is what the state says to its session
pub record IsSaid (s : State) (o : Resolved) : Type 0 where
  pub knew : ℕ
  pub replies : (s.book.seats o.session).replies ≡ record { reply = Reply o.outcome; knew = knew } ∷ []

-- Records and a batch go to more records with these outcomes by one turn, in which the candidates of the sessions `held` go to the
-- tail: some candidates are answered by want of memory; the turn begins; cells decide the others; their logs are merged; and
-- the tail is handled one by one until nothing is left of it. Each request of the batch has one outcome
pub record IsHeldEpoch (ground : Ground) (records : List Record) (batch : List Request) (held : List ℕ) (more : List Record)
    (outcomes : List Resolved) : Type 0 where
  pub wanting : List ℕ
  pub cells : List Step
  pub order : List ℕ
  pub tail : List Step
  pub sealed : State
  pub final : State
  pub are_candidates : All (λ s. is_candidate_now (turn_of ground records batch) (next_of (batch_seat batch s)) ≡ true) wanting
  pub are_cells : All (λ step. is_cell step ≡ true) cells
  pub are_of_tail : All (λ step. is_of_tail step ≡ true) tail
  pub to_sealed : Run (turn_of ground records batch) (map Want wanting ++ Begin held ∷ cells ++ Seal order ∷ []) sealed
  pub to_final : Run sealed tail final
  pub done : (s : ℕ) → (final.book.seats s).stand ≢ InTail
  pub new : List Record
  pub behind : more ≡ records ++ new
  pub lines : final.book.lines ≡ lines_of more
  pub places : final.book.places ≡ places_of ground.start more
  pub once : EachOnce (map (λ o. o.session) outcomes)
  pub all : (r : Request) → Contains batch r → (o : Resolved) × Contains outcomes o × IsOf r o
  pub each : (o : Resolved) → Contains outcomes o → ((r : Request) × Contains batch r × IsOf r o) × IsSaid final o

-- the same where no session is held
abbrev pub IsEpoch : Ground → List Record → List Request → List Record → List Resolved → Type 0
IsEpoch ground records batch more outcomes = IsHeldEpoch ground records batch [] more outcomes

-- The visits of a turn

-- the graph and the forests of a place of records
abbrev pub graph_at : Ground → List Record → ℕ → PlainGraph
graph_at ground records v = after ground.opening (lines_of records) v

-- the reach of these parts at a place of records is n
abbrev pub IsReachAt : Ground → List Record → ℕ → List Update → ℕ → Type 0
IsReachAt ground records v parts n = IsReach (graph_at ground records v) ground.specs (forests_at ground.start records v) parts n

-- the reach of the entry behind a place of records is n
abbrev pub IsEntryReach : Ground → List Record → ℕ → ℕ → Type 0
IsEntryReach ground records v n = IsSomeAnd (entry_at (lines_of records) (v + 1)) (λ e. IsReachAt ground records v e.parts n)

-- n is the greatest of the reaches that these parts have at the places from one to another
pub record IsGreatestReach (ground : Ground) (records : List Record) (from to : ℕ) (parts : List Update) (n : ℕ) : Type 0 where
  pub place : ℕ
  pub above : from ≤ place
  pub below : place ≤ to
  pub here : IsReachAt ground records place parts n
  pub greatest : (v m : ℕ) → from ≤ v → v ≤ to → IsReachAt ground records v parts m → m ≤ n

-- the reach of a request that is answered by want of memory: the greatest that its parts have at the places of the tail; that of a
-- release or a leave is 0
abbrev pub IsWantReach : Ground → List Record → ℕ → ℕ → Request → ℕ → Type 0
IsWantReach ground records from to (request.Submit e) n = IsGreatestReach ground records from to e.parts n
IsWantReach ground records from to (request.Release session seq upto) n = n ≡ 0
IsWantReach ground records from to (request.Leave session seq) n = n ≡ 0

-- the request of the batch that a step of the tail answers by want of memory
abbrev pub wanted_by : List Request → Step → Option Request
wanted_by batch (Want s) = find (λ r. session_by r == s) batch
wanted_by batch step = None

-- the visits that an epoch may take are n: the sum of the reaches of its entries, and of its requests of the tail that were answered
-- by want of memory
pub record IsTurnReach (ground : Ground) (records : List Record) (batch : List Request) (held : List ℕ) (more : List Record)
    (outcomes : List Resolved) (epoch : IsHeldEpoch ground records batch held more outcomes) (n : ℕ) : Type 0 where
  pub entries : List ℕ
  pub wants : List ℕ
  pub all_entries : front (lines_of records) + length entries ≡ front (lines_of more)
  pub each_entry : (i m : ℕ) → slice_get entries i ≡ Some m → IsEntryReach ground more (front (lines_of records) + i) m
  pub each_want : EachPair (IsWantReach ground more (front epoch.sealed.book.lines) (front (lines_of more)))
      (filter_map (wanted_by batch) epoch.tail) wants
  pub total : n ≡ sum entries + sum wants
