-- The sessions of a run in rounds as they stand, with the driver of their requests and the history that answers their reads.
use Rattle.std.specs.Prelude.{◌≡◌, ◌≢◌, ℕ, ◌+◌, ◌<◌, ◌≤◌, Bool, true, false, List, [], ◌∷◌, length, map, sum_by, slice_index_or, Option, Some, None, ⊤}
use Rattle.std.specs.List.{All, list_all, list_any}
use Rattle.ris_base.specs.Epoch.{Ground, Resolved}
use Rattle.ris_base.specs.Limits.{script_limit}
use Rattle.ris_base.specs.Machine.{session_by}
use Rattle.ris_base.specs.Replies.{wants_memory}
use Rattle.ris_base.specs.Visits.{IsReachOfGrowth}
use Rattle.ris_base.specs.declared.commands.Command.{Command}
use Rattle.ris_base.specs.declared.records.Record.{Record}
use Rattle.ris_base.specs.declared.requests.Request.{Request}
use Rattle.ris_epoch.specs.DriverView as driver
use Rattle.ris_epoch.specs.DriverView.{DriverView}
use Rattle.ris_history.specs.HistoryView.{HistoryView}
use Rattle.ris_history.specs.Standing as history
use Rattle.ris_rounds.specs.Rounds.{Fits, IsPlayed, RunView, player_in, told_player}
use Rattle.ris_session.specs.PlayerView.{PlayerView, step_of}
use Rattle.ris_session.specs.declared.players.Next.{Next}
use Rattle.ris_session.specs.declared.players.Next.TheVariants.{Await, Done}
use Rattle.ris_replay.specs.Visits.{grows}
use Rattle.ris_replay.specs.declared.rounds.Rounds.{Rounds}

-- the driver, the history, the player of each session, the requests of each session that no turn has taken, oldest first, and the
-- batch of the next turn
pub record RoundsView : Type 0 where
  pub driver : DriverView
  pub history : HistoryView
  pub players : List PlayerView
  pub queues : List (List Request)
  pub batch : List Request

-- what the sessions of a run are seen as
abbrev pub view_of : {M : Type 0} → Rounds M → RoundsView
view_of r = record { driver = r.driver; history = r.history; players = r.players.items; queues = r.queues.items; batch = r.batch }

-- the run of these sessions behind records
abbrev pub run_behind : List Record → RoundsView → RunView
run_behind records r = record { records = records; players = r.players; queues = r.queues }

-- The sessions play these lists of commands behind these records: so far the run is one of the core machine; the driver and the
-- history stand for the records; and nothing of a turn is left
pub record StandsFor (ground : Ground) (lists : List (List Command)) (records : List Record) (r : RoundsView) : Type 0 where
  pub played : IsPlayed ground lists (run_behind records r)
  pub driver_stands : driver.StandsFor r.driver ground records
  pub history_stands : history.StandsFor r.history ground.opening ground.specs ground.start records
  pub none : r.driver.records ≡ []
  pub told : r.driver.replies ≡ []
  pub empty : r.batch ≡ []

-- they do behind some records
pub record Stands (ground : Ground) (lists : List (List Command)) (r : RoundsView) : Type 0 where
  pub records : List Record
  pub of : StandsFor ground lists records r

-- they play some lists, of no more commands than a script has bytes
pub record IsRunning (r : RoundsView) : Type 0 where
  pub ground : Ground
  pub lists : List (List Command)
  pub of : Stands ground lists r
  pub few : sum_by length lists ≤ script_limit

-- the lists that were played are still played
abbrev pub Keeps : RoundsView → RoundsView → Type 0
Keeps old new = (ground : Ground) (lists : List (List Command)) → Stands ground lists old → Stands ground lists new

-- Visits

-- no reply of these players wants memory
abbrev pub AreQuiet : List PlayerView → Type 0
AreQuiet players = list_any (list_any wants_memory) (map (λ p. p.log) players) ≡ false

-- where no line so far takes anything away and no reply wants memory, a count rose from the first number to now by at most the reach
-- of the entries
abbrev pub IsCounted : Ground → RoundsView → ℕ → ℕ → Type 0
IsCounted ground r first now = list_all grows r.driver.journal.lines ≡ true → AreQuiet r.players
    → (n : ℕ) → IsReachOfGrowth ground.opening ground.specs r.driver.journal.lines n → now ≤ first + n

-- where that was so of a count before, it is so of the count now
abbrev pub Counts : RoundsView → RoundsView → ℕ → ℕ → Type 0
Counts old new before now = (ground : Ground) (lists : List (List Command)) → Stands ground lists old
    → (first : ℕ) → IsCounted ground old first before → IsCounted ground new first now

-- Steps

-- what session n does next
abbrev pub next_at : RoundsView → ℕ → Next
next_at r n = step_of (player_in r.players n)

-- what a session that rests does next: it is done, or it awaits a reply
abbrev pub rest_of : Bool → Next
rest_of true = Done
rest_of false = Await

-- every session is done
abbrev pub AreDone : RoundsView → Type 0
AreDone r = (n : ℕ) → n < length r.players → next_at r n ≡ Done

-- some session awaits a reply
pub record Awaits (r : RoundsView) : Type 0 where
  pub session : ℕ
  pub here : session < length r.players
  pub awaits : next_at r session ≡ Await

-- whether all are done: else some session awaits a reply
abbrev pub Rests : RoundsView → Bool → Type 0
Rests r true = AreDone r
Rests r false = Awaits r

-- how many commands of a player have no reply, and how many of all players
abbrev pub unreplied : PlayerView → ℕ
unreplied p = p.open_requests + length p.left

abbrev pub unreplied_count : RoundsView → ℕ
unreplied_count r = sum_by unreplied r.players

-- session n alone went on: the players of the others are as before, and so are the driver, the history's records and the batch; no more
-- commands are without a reply; and a reply that wants memory still does
pub record GoesAlone (n : ℕ) (old new : RoundsView) : Type 0 where
  pub driver : new.driver ≡ old.driver
  pub history : new.history ≡ old.history
  pub batch : new.batch ≡ old.batch
  pub many : length new.players ≡ length old.players
  pub others : (m : ℕ) → m ≢ n → player_in new.players m ≡ player_in old.players m
  pub waiting : (m : ℕ) → m ≢ n → slice_index_or new.queues m [] ≡ slice_index_or old.queues m []
  pub unreplied : unreplied_count new ≤ unreplied_count old
  pub quiet : AreQuiet new.players → AreQuiet old.players

-- session n did something, which took its first command; or it rests, and nothing changed
abbrev pub HasStepped : ℕ → Option Bool → RoundsView → RoundsView → Type 0
HasStepped n None old new = length (player_in new.players n).left + 1 ≡ length (player_in old.players n).left
HasStepped n (Some done) old new = (new ≡ old) × (next_at old n ≡ rest_of done)

-- Turns

-- each queue has requests of its own session
abbrev pub AreOwn : List (List Request) → Type 0
AreOwn queues = (n : ℕ) → All (λ r. session_by r ≡ n) (slice_index_or queues n [])

-- each outcome fits the players, to whom those before it are told
unfoldable pub AllFit : List PlayerView → List Resolved → Type 0
AllFit players [] = ⊤
AllFit players (o ∷ outcomes) = Fits players o × AllFit (told_player players o) outcomes

-- a driver has given its records, and nothing else changed
pub record IsDrained (old new : DriverView) : Type 0 where
  pub none : new.records ≡ []
  pub graph : new.graph ≡ old.graph
  pub jobs : new.jobs ≡ old.jobs
  pub analyses : new.analyses ≡ old.analyses
  pub journal : new.journal ≡ old.journal
  pub opening : new.opening ≡ old.opening
  pub replies : new.replies ≡ old.replies
