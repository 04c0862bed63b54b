-- What a list of events makes of a state, and the replies to requests.
use Rattle.std.specs.Prelude.{◌≡◌, ℕ, ◌+◌, ◌<◌, ◌==◌, if◌then◌else◌, ◌⊎◌, List, [], ◌∷◌, length, take, replicate, Option, Some, None, Result, Ok, Err}
use Rattle.ris_base.specs.Legal.{Asked}
use Rattle.ris_base.specs.Machine.{Collect, Happens, IsEnabled, Known, State, Step, empty_seat}
use Rattle.ris_base.specs.declared.analyses.Spec.{Spec}
use Rattle.ris_base.specs.declared.forests.ForestRow.{ForestRow}
use Rattle.ris_base.specs.declared.graphs.PlainGraph.{PlainGraph}
use Rattle.ris_base.specs.declared.memory.NoMemory.{NoMemory}
use Rattle.ris_base.specs.declared.replies.LogLine.{LogLine}
use Rattle.ris_base.specs.declared.replies.LogLine.TheVariants.{Reply, Answer, Denied}
use Rattle.ris_base.specs.declared.replies.Outcome.{Outcome}
use Rattle.ris_core.specs.Stands.{Listing, state_of}

-- the state in which nothing has happened, with these rows of the forests of place 0
abbrev pub opened_as : PlainGraph → List Spec → ℕ → List (List ForestRow) → Listing
opened_as g specs sessions rows = record {
  opening = g;
  specs = specs;
  seats = replicate sessions empty_seat;
  lines = [];
  places = rows ∷ [];
  phase = Collect;
  decided = [];
  published = 0;
}

-- each of these steps was tried, one after another: it happened, or it isn't enabled and changed nothing; so many happened
unfoldable pub AreTried : Listing → List Step → Listing → ℕ → Type 0
AreTried old [] new n = (new ≡ old) × (n ≡ 0)
AreTried old (step ∷ steps) new n =
    ((mid : Listing) × (m : ℕ) × Happens (state_of old) step (state_of mid) × AreTried mid steps new m × (n ≡ m + 1))
    ⊎ (¬ (IsEnabled (state_of old) step) × AreTried old steps new n)

-- all steps were tried, and so many happened; or memory was wanted at one of them, and those before it were tried
abbrev pub IsRun : Listing → List Step → Listing → Result ℕ NoMemory → Type 0
IsRun old steps new (Ok n) = AreTried old steps new n
IsRun old steps new (Err fault) = (k : ℕ) × (n : ℕ) × (k < length steps) × AreTried old (take k steps) new n

-- what became of a request, by its reply
abbrev pub outcome_by : LogLine → Option Outcome
outcome_by (Reply outcome) = Some outcome
outcome_by (Answer answered) = None
outcome_by (Denied denied) = None

-- what became of the command with this number, where it is a request that has a reply
unfoldable pub outcome_in : List Asked → List Known → ℕ → Option Outcome
outcome_in [] replies seq = None
outcome_in (asked ∷ commands) [] seq = None
outcome_in (asked ∷ commands) (known ∷ replies) seq =
    if asked.seq == seq then outcome_by known.reply else outcome_in commands replies seq

abbrev pub outcome_of : State → ℕ → ℕ → Option Outcome
outcome_of s n seq = outcome_in (s.book.seats n).commands (s.book.seats n).replies seq
