-- What a driver has done of a turn.
use Rattle.std.specs.Prelude.{◌≡◌, ◌↔◌, ℕ, ◌<◌, ◌≤◌, ◌⊎◌, List, [], ◌∷◌, ◌++◌, length, map, slice_index_or}
use Rattle.std.specs.List.{All, AllPairs, Contains}
use Rattle.ris_base.specs.Epoch.{Ground, Resolved}
use Rattle.ris_base.specs.Machine.{Decided, session_by, stripe_of}
use Rattle.ris_base.specs.declared.lines.Entry.{Entry}
use Rattle.ris_base.specs.declared.records.Record.{Record}
use Rattle.ris_base.specs.declared.replies.Outcome.{Outcome}
use Rattle.ris_base.specs.declared.requests.Request.{Request}
use Rattle.ris_graph.specs.Jobs.{EachJob, job_count}
use Rattle.ris_graph.specs.Phase.{IsReady}
use Rattle.ris_graph.specs.Ticks.{ticked}
use Rattle.ris_epoch.specs.Account.{IsHandled, IsMerge, IsSplit, IsTail, IsWithinReach, bounced, decisions_on, front_of, is_candidate_behind, outcomes_of, records_of, resolved}
use Rattle.ris_epoch.specs.Driving.{job_of, no_memory_for, of_stripe}
use Rattle.ris_epoch.specs.DriverView.{DriverView, StandsFor}
use Rattle.ris_epoch.specs.Ordering.{AreOrdered}
use Rattle.ris_epoch.specs.TurnOrder.{IsSealedBefore}

-- candidates, and decisions on them, stand in the order of their stripes, and those of one stripe in that of their sessions
abbrev pub AreByStripes : List Entry → Type 0
AreByStripes entries = AllPairs (λ e later. IsSealedBefore (stripe_of e.parts) e.session (stripe_of later.parts) later.session) entries

abbrev pub AreSealed : List Decided → Type 0
AreSealed decisions = AllPairs (λ d later. IsSealedBefore (stripe_of d.entry.parts) d.entry.session (stripe_of later.entry.parts) later.entry.session) decisions

-- A batch is split: the candidates that got memory stand in the order of their stripes, each with its job, with room for so many inserts
-- and with room for its line; the others wait in the order of their sessions; and those that got none are told so
pub record HasBegun (ground : Ground) (records : List Record) (inserts : ℕ) (batch : List Request) (d : DriverView) (order : List Entry) (rest : List Request) : Type 0 where
  pub wanting : List Entry
  pub candidates : List Entry
  pub taken : AreOrdered 0 batch
  pub split : IsSplit (is_candidate_behind ground records) batch wanting candidates rest
  pub ordered : AreOrdered 0 rest
  pub by_stripe : (k : ℕ) → of_stripe k order ≡ of_stripe k candidates
  pub many : length order ≡ length candidates
  pub rises : AreByStripes order
  pub stands : StandsFor d ground records
  pub stripes : length d.jobs ≡ 64
  pub jobs : (m : ℕ) → m < 64 → slice_index_or d.jobs m [] ≡ map job_of (of_stripe m candidates)
  pub counted : job_count d.jobs ≡ length order
  pub ready : EachJob (IsReady inserts d.graph) d.jobs
  pub lines : length order ≤ d.journal.spare
  pub room : length order ≤ d.record_room
  pub none : d.records ≡ []
  pub told : d.replies ≡ map no_memory_for wanting

-- it is so of some records
pub record IsBegun (inserts : ℕ) (batch : List Request) (d : DriverView) (order : List Entry) (rest : List Request) : Type 0 where
  pub base : Ground
  pub records : List Record
  pub of : HasBegun base records inserts batch d order rest

-- a request comes behind those of lesser sessions
pub record IsNext (done : List Request) (r : Request) : Type 0 where
  pub behind : All (λ x. session_by x < session_by r) done
  pub within : session_by r < 64

-- The candidates are decided and sealed: the applied ones are entries, the refused ones are told so, and the others wait with the rest
pub record HasSealed (ground : Ground) (records : List Record) (batch : List Request) (d : DriverView) (tail : List Request) : Type 0 where
  pub wanting : List Entry
  pub candidates : List Entry
  pub others : List Request
  pub merged : List Decided
  pub split : IsSplit (is_candidate_behind ground records) batch wanting candidates others
  pub merge : IsMerge (decisions_on ground records candidates) merged
  pub rises : AreSealed merged
  pub ordered : AreOrdered 0 tail
  pub each : (r : Request) → Contains tail r ↔ (Contains others r ⊎ Contains (bounced (decisions_on ground records candidates)) r)
  pub stands : StandsFor d ground (records ++ records_of merged)
  pub made : d.records ≡ records_of merged
  pub told : d.replies ≡ map no_memory_for wanting ++ outcomes_of (front_of records) merged

-- A request of the tail is handled behind records and is told this: the driver stands for more records, which it gives; and a count
-- of visits rose by no more than the reach
pub record Does (ground : Ground) (records : List Record) (r : Request) (told : Outcome) (old new : DriverView) (before after : ℕ) : Type 0 where
  pub made : List Record
  pub own : ℕ
  pub handled : IsHandled ground records r (records ++ made) told
  pub within : IsWithinReach ground records r own
  pub rose : after ≡ ticked before own
  pub stands : StandsFor new ground (records ++ made)
  pub records_are : new.records ≡ old.records ++ made

-- the same, with the outcome as one more reply
pub record Handles (ground : Ground) (records : List Record) (r : Request) (old new : DriverView) (before after : ℕ) : Type 0 where
  pub told : Outcome
  pub does : Does ground records r told old new before after
  pub replies_are : new.replies ≡ old.replies ++ resolved r told ∷ []

-- Requests of the tail are handled, one after another
pub record HandlesAll (ground : Ground) (records : List Record) (tail : List Request) (old new : DriverView) (before after : ℕ) : Type 0 where
  pub made : List Record
  pub outcomes : List Resolved
  pub own : ℕ
  pub handled : IsTail ground records tail (records ++ made) outcomes own
  pub rose : after ≡ ticked before own
  pub stands : StandsFor new ground (records ++ made)
  pub records_are : new.records ≡ old.records ++ made
  pub replies_are : new.replies ≡ old.replies ++ outcomes
