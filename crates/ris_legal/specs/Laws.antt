-- The laws of the core machine.
use Rattle.std.specs.Prelude.{◌≡◌, ℕ, ◌==◌, List, take, filter, slice_get, Some}
use Rattle.ris_base.specs.Answers.{Setup}
use Rattle.ris_base.specs.Epoch.{Ground, IsHeldEpoch, Resolved}
use Rattle.ris_base.specs.Forest.{Forest, AreForests}
use Rattle.ris_base.specs.Graph.{IsProper}
use Rattle.ris_base.specs.Legal.{IsLegal}
use Rattle.ris_base.specs.Machine.{Cells, Decided, Happens, Run, State, Step, forests_now, graph_of, Serially, opened, sealed, stripe_of}
use Rattle.ris_base.specs.declared.records.Record.{Record}
use Rattle.ris_base.specs.declared.requests.Request.{Request}
use Rattle.ris_legal.specs.Account.{Account, IsAccount, replies_in}
use Rattle.ris_legal.specs.Held.{IsKept, IsLegalState, SaysVerdict}
use Rattle.ris_legal.specs.Turn.{HasBatch, steps_of, turned}

-- an opening that is proper, with right forests of place 0
pub record IsOpening (setup : Setup) (forests : List Forest) : Type 0 where
  pub proper : IsProper setup.opening
  pub right : AreForests setup.opening setup.specs forests

-- each account is legal
abbrev pub AccountsAreLegal : Type 0
AccountsAreLegal = (setup : Setup) (a : Account) → IsAccount setup a → IsLegal setup a.commands (replies_in a) a.lines

-- each step of the machine keeps what a state keeps, from the opened state on
abbrev pub StepsKeep : Type 0
StepsKeep =
    ((setup : Setup) (forests : List Forest) → IsOpening setup forests → IsKept (opened setup forests))
    × ((old : State) (step : Step) (new : State) → Happens old step new → IsKept old → IsKept new)

-- for every list of steps from an opened state, the commands, the replies (given or withheld) and the lines are legal
abbrev pub RunsAreLegal : Type 0
RunsAreLegal = (setup : Setup) (forests : List Forest) (steps : List Step) (new : State) → IsOpening setup forests
    → Run (opened setup forests) steps new → IsLegalState new

-- in any order that keeps each log's, each decision says what is so where it stands
abbrev pub CellsCommute : Type 0
CellsCommute = (s : State) (order : List Decided) → IsKept s → s.phase ≡ Cells
    → ((k : ℕ) → filter (λ d. stripe_of d.entry.parts == k) order ≡ s.logs k) → (i : ℕ) (d : Decided) → slice_get order i ≡ Some d
    → SaysVerdict (graph_of s.setup (sealed s.book (take i order))) s.setup.specs (forests_now s.book) d.entry.parts d.verdict

-- an epoch of the batch of a state is a run of that state, which leaves its seats joined to those of the turn, and the tail is done
abbrev pub EpochsHappen : Type 0
EpochsHappen = (s : State) (ground : Ground) (records : List Record) (batch : List Request) (held : List ℕ) (more : List Record)
    (outcomes : List Resolved) → IsKept s → HasBatch ground records batch s → (e : IsHeldEpoch ground records batch held more outcomes)
    → Run s (steps_of e) (turned s e.final) × (e.final.phase ≡ Serially)
