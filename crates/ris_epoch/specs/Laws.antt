-- The laws of a turn: its account is an epoch, keeps records right, and takes no more visits than the epoch may, which are so many.
use Rattle.std.specs.Prelude.{ℕ, ◌≤◌, List, []}
use Rattle.ris_base.specs.Epoch.{Ground, IsEpoch, IsTurnReach, Resolved}
use Rattle.ris_base.specs.Graph.{IsProper}
use Rattle.ris_base.specs.Records.{AreRight}
use Rattle.ris_base.specs.declared.records.Record.{Record}
use Rattle.ris_base.specs.declared.requests.Request.{Request}
use Rattle.ris_epoch.specs.Account.{IsBatch, IsTurnAccount, graph_behind}

-- records are right, the graph behind them is proper, and a turn may take this batch
pub record IsDue (ground : Ground) (records : List Record) (batch : List Request) : Type 0 where
  pub right : AreRight ground.opening ground.specs ground.start records
  pub proper : IsProper (graph_behind ground records)
  pub taken : IsBatch ground batch

-- the account of a turn is an epoch, and its visits are at most those that the epoch may take; that there is no such number is
-- impossible
abbrev pub AccountsAreEpochs : Type 0
AccountsAreEpochs = (ground : Ground) (records : List Record) (batch : List Request) (more : List Record) (outcomes : List Resolved) (visits : ℕ)
    → IsDue ground records batch → IsTurnAccount ground records batch more outcomes visits
    → (epoch : IsEpoch ground records batch more outcomes)
    × ((n : ℕ) → IsTurnReach ground records batch [] more outcomes epoch n → visits ≤ n)
    × (¬ (¬ ((n : ℕ) × IsTurnReach ground records batch [] more outcomes epoch n)))

-- the account of a turn keeps records right
abbrev pub AccountsKeepRight : Type 0
AccountsKeepRight = (ground : Ground) (records : List Record) (batch : List Request) (more : List Record) (outcomes : List Resolved) (visits : ℕ)
    → IsDue ground records batch → IsTurnAccount ground records batch more outcomes visits
    → AreRight ground.opening ground.specs ground.start more
