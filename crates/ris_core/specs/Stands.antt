-- The code's words for stands and phases, and the state of the machine as lists.
use Rattle.std.specs.Prelude.{◌≡◌, ℕ, ◌==◌, Bool, true, false, List, length, map, filter, slice_get, unwrap_or, Result, Ok, Err}
use Rattle.ris_base.specs.Forest.{forest_in}
use Rattle.ris_base.specs.Machine
use Rattle.ris_base.specs.Machine.{Decided, IsEnabled, Happens, State, Step, empty_seat, stripe_of}
use Rattle.ris_base.specs.declared.analyses.Spec.{Spec}
use Rattle.ris_base.specs.declared.forests.ForestRow.{ForestRow}
use Rattle.ris_base.specs.declared.graphs.PlainGraph.{PlainGraph}
use Rattle.ris_base.specs.declared.lines.Line.{Line}
use Rattle.ris_base.specs.declared.memory.NoMemory.{NoMemory}
use Rattle.ris_core.specs.declared.phases.Phase as declared_phase
use Rattle.ris_core.specs.declared.phases.Phase.TheVariants as phase
use Rattle.ris_core.specs.declared.phases.Stand as declared_stand
use Rattle.ris_core.specs.declared.phases.Stand.TheVariants as stand

-- the stand that the code's word means
abbrev pub stand_of : declared_stand.Stand → Machine.Stand
stand_of stand.Queued = Machine.Queued
stand_of stand.InBatch = Machine.InBatch
stand_of stand.Undecided = Machine.Undecided
stand_of stand.InLog = Machine.InLog
stand_of stand.InTail = Machine.InTail

-- the phase that the code's word means
abbrev pub phase_of : declared_phase.Phase → Machine.Phase
phase_of phase.Collect = Machine.Collect
phase_of phase.Cells = Machine.Cells
phase_of phase.Serially = Machine.Serially

-- the state as lists: the seats in the order of the sessions, the forests of each place as rows, and all decisions of the turn in the
-- order in which they were made
pub record Listing : Type 0 where
  pub opening : PlainGraph
  pub specs : List Spec
  pub seats : List Machine.Seat
  pub lines : List Line
  pub places : List (List (List ForestRow))
  pub phase : Machine.Phase
  pub decided : List Decided
  pub published : ℕ

-- the seat past the last session: nothing was said to it, and it has seen what is published
abbrev pub absent_seat : ℕ → Machine.Seat
absent_seat published = record empty_seat { seen = published }

-- the state that lists are: the log of a stripe has the decisions of that stripe
abbrev pub seats_of : ℕ → List Machine.Seat → ℕ → Machine.Seat
seats_of published seats n = unwrap_or (slice_get seats n) (absent_seat published)

abbrev pub logs_of : List Decided → ℕ → List Decided
logs_of decided k = filter (λ d. stripe_of d.entry.parts == k) decided

abbrev pub state_of : Listing → State
state_of l = record {
  setup = record { opening = l.opening; specs = l.specs; sessions = length l.seats };
  book = record { seats = seats_of l.published l.seats; lines = l.lines; places = map (λ forests. map forest_in forests) l.places };
  phase = l.phase;
  logs = logs_of l.decided;
  published = l.published;
}

-- a step was tried: it happened, or it isn't enabled and nothing changed, or memory was wanted and nothing changed
abbrev pub IsTried : Listing → Step → Listing → Result Bool NoMemory → Type 0
IsTried old step new (Ok true) = Happens (state_of old) step (state_of new)
IsTried old step new (Ok false) = (new ≡ old) × ¬ (IsEnabled (state_of old) step)
IsTried old step new (Err fault) = new ≡ old
