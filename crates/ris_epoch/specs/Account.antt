-- The account of a turn, as it goes: the batch is split, cells decide the candidates, their logs are merged, and the tail is handled
-- one request after another on the records so far.
use Rattle.std.specs.Prelude.{◌≡◌, ◌↔◌, ℕ, ◌+◌, ◌<◌, ◌≤◌, ◌==◌, Bool, true, false, not, ◌&&◌, if◌then◌else◌, ◌⊎◌, List, [], ◌∷◌, ◌++◌, map, filter, Some, None}
use Rattle.std.specs.List.{All, Contains}
use Rattle.ris_base.specs.Epoch.{Ground, IsReachAt, Resolved, graph_at}
use Rattle.ris_base.specs.Forest.{Forest, AreForests}
use Rattle.ris_base.specs.Graph.{EachOnce}
use Rattle.ris_base.specs.Lines.{front}
use Rattle.ris_base.specs.Machine.{Decided, asked_by, is_applied, session_by, stripe_of, verdict_of}
use Rattle.ris_base.specs.Records.{AreChanges, changed_forests, forests_at, lines_of}
use Rattle.ris_base.specs.Requests.{RefusedPart, entered, refusal_of, refused_at}
use Rattle.ris_base.specs.Safe.{is_candidate}
use Rattle.ris_base.specs.declared.analyses.Spec.{Spec}
use Rattle.ris_base.specs.declared.graphs.PlainGraph.{PlainGraph}
use Rattle.ris_base.specs.declared.lines.Entry.{Entry}
use Rattle.ris_base.specs.declared.lines.Line.TheVariants as line
use Rattle.ris_base.specs.declared.records.Change.{Change}
use Rattle.ris_base.specs.declared.records.Record.{Record}
use Rattle.ris_base.specs.declared.replies.Outcome.{Outcome}
use Rattle.ris_base.specs.declared.replies.Outcome.TheVariants as outcome
use Rattle.ris_base.specs.declared.replies.Refusal.TheVariants as refusal
use Rattle.ris_base.specs.declared.requests.Request.{Request}
use Rattle.ris_base.specs.declared.requests.Request.TheVariants as request
use Rattle.ris_phase.specs.Cells
use Rattle.ris_phase.specs.Cells.{IsOrder}

-- Behind records

-- the number of entries of records
abbrev pub front_of : List Record → ℕ
front_of records = front (lines_of records)

-- the graph behind records: that of their last place
abbrev pub graph_behind : Ground → List Record → PlainGraph
graph_behind ground records = graph_at ground records (front_of records)

-- the forests behind records
abbrev pub forests_behind : Ground → List Record → List Forest
forests_behind ground records = forests_at ground.start records (front_of records)

-- the record of an entry with its changes
abbrev pub entry_record : Entry → List Change → Record
entry_record e changes = record { line = line.Entry e; changes = changes }

-- the outcome of a request
abbrev pub resolved : Request → Outcome → Resolved
resolved r told = record { session = session_by r; seq = (asked_by r).seq; outcome = told }

-- The batch

-- a batch that a turn may take: no two requests of one session, and each session exists
pub record IsBatch (ground : Ground) (batch : List Request) : Type 0 where
  pub once : EachOnce (map session_by batch)
  pub here : All (λ r. session_by r < ground.start.sessions) batch

-- whether a request is a candidate
abbrev pub is_candidate_request : PlainGraph → List Spec → List Forest → Request → Bool
is_candidate_request g specs forests (request.Submit e) = is_candidate g specs forests e.parts
is_candidate_request g specs forests (request.Release session seq upto) = false
is_candidate_request g specs forests (request.Leave session seq) = false

-- whether a request is a candidate behind records
abbrev pub is_candidate_behind : Ground → List Record → Request → Bool
is_candidate_behind ground records r = is_candidate_request (graph_behind ground records) ground.specs (forests_behind ground records) r

-- by a test for candidates, requests split in order into the candidates that get no memory, the candidates that cells decide, and the
-- others
unfoldable pub IsSplit : (Request → Bool) → List Request → List Entry → List Entry → List Request → Type 0
IsSplit test [] wanting candidates others = (wanting ≡ []) × (candidates ≡ []) × (others ≡ [])
IsSplit test (r ∷ batch) wanting candidates others =
    ((e : Entry) × (rest : List Entry) × (r ≡ request.Submit e) × (test r ≡ true) × (wanting ≡ e ∷ rest) × IsSplit test batch rest candidates others)
    ⊎ ((e : Entry) × (rest : List Entry) × (r ≡ request.Submit e) × (test r ≡ true) × (candidates ≡ e ∷ rest) × IsSplit test batch wanting rest others)
    ⊎ ((rest : List Request) × (test r ≡ false) × (others ≡ r ∷ rest) × IsSplit test batch wanting candidates rest)

-- The cells

-- whether a decided candidate goes to the tail
abbrev pub is_bounced : Decided → Bool
is_bounced d = Cells.is_bounced d.verdict

-- the log of a stripe among decisions
abbrev pub is_logged : ℕ → Decided → Bool
is_logged k d = (stripe_of d.entry.parts == k) && not (is_bounced d)

abbrev pub log_of : ℕ → List Decided → List Decided
log_of k decisions = filter (is_logged k) decisions

-- the decision of a cell on a candidate behind others
abbrev pub decision : PlainGraph → List Forest → List Decided → Entry → Decided
decision g forests before e = record { entry = e; verdict = verdict_of g forests (log_of (stripe_of e.parts) before) e.parts }

-- the decisions of cells on candidates, one after another, behind others
unfoldable pub decided_behind : PlainGraph → List Forest → List Decided → List Entry → List Decided
decided_behind g forests before [] = []
decided_behind g forests before (e ∷ candidates) =
    decision g forests before e ∷ decided_behind g forests (before ++ decision g forests before e ∷ []) candidates

-- the decisions on the candidates of a turn
abbrev pub decisions_on : Ground → List Record → List Entry → List Decided
decisions_on ground records candidates = decided_behind (graph_behind ground records) (forests_behind ground records) [] candidates

-- the candidates that go to the tail
abbrev pub bounced : List Decided → List Request
bounced decisions = map (λ d. request.Submit d.entry) (filter is_bounced decisions)

-- The seal

-- an order keeps that of each stripe's log
abbrev pub IsMerge : List Decided → List Decided → Type 0
IsMerge decisions merged = IsOrder (λ k. log_of k decisions) merged

-- the records of merged decisions: the applied ones are entries that change no forest
unfoldable pub records_of : List Decided → List Record
records_of [] = []
records_of (d ∷ merged) = if is_applied d then entry_record d.entry [] ∷ records_of merged else records_of merged

-- the outcome of a decision where n entries stand before it
abbrev pub outcome_of : ℕ → Decided → Resolved
outcome_of n d = resolved (request.Submit d.entry) (if is_applied d then outcome.Placed (n + 1) else outcome.Refused (refusal.NoEdge n 1))

-- the outcomes of merged decisions behind n entries
unfoldable pub outcomes_of : ℕ → List Decided → List Resolved
outcomes_of n [] = []
outcomes_of n (d ∷ merged) = outcome_of n d ∷ outcomes_of (if is_applied d then n + 1 else n) merged

-- The tail

-- a change is refused by the rules
pub record IsRefused (ground : Ground) (records : List Record) (e : Entry) (more : List Record) (told : Outcome) : Type 0 where
  pub part : RefusedPart
  pub refused : refusal_of (graph_behind ground records) e.parts ≡ Some part
  pub same : more ≡ records
  pub says : told ≡ outcome.Refused (refused_at (front_of records) part)

-- a change is entered: the changes of its record are those between the graphs, and leave right forests
pub record IsEntered (ground : Ground) (records : List Record) (e : Entry) (more : List Record) (told : Outcome) : Type 0 where
  pub changes : List Change
  pub accepted : refusal_of (graph_behind ground records) e.parts ≡ None
  pub right : AreForests (entered (graph_behind ground records) e.parts) ground.specs (changed_forests (forests_behind ground records) changes)
  pub are : AreChanges ground.specs (graph_behind ground records) (entered (graph_behind ground records) e.parts) changes
  pub longer : more ≡ records ++ entry_record e changes ∷ []
  pub says : told ≡ outcome.Placed (front_of records + 1)

-- a request gets no memory
pub record IsWanting (records : List Record) (more : List Record) (told : Outcome) : Type 0 where
  pub same : more ≡ records
  pub says : told ≡ outcome.Refused refusal.NoMemory

-- a release is past the front
pub record IsEarly (records : List Record) (upto : ℕ) (more : List Record) (told : Outcome) : Type 0 where
  pub past : front_of records < upto
  pub same : more ≡ records
  pub says : told ≡ outcome.NotYet (front_of records)

-- a release becomes a mark
pub record IsMarked (records : List Record) (session seq upto : ℕ) (more : List Record) (told : Outcome) : Type 0 where
  pub within : upto ≤ front_of records
  pub longer : more ≡ records ++ record { line = line.Mark session seq upto; changes = [] } ∷ []
  pub says : told ≡ outcome.Marked (front_of records) upto

-- a session leaves
pub record IsLeft (records : List Record) (session seq : ℕ) (more : List Record) (told : Outcome) : Type 0 where
  pub longer : more ≡ records ++ record { line = line.Leave session seq; changes = [] } ∷ []
  pub says : told ≡ outcome.Left (front_of records)

-- a request of the tail is handled behind records, which become more, and is told this
abbrev pub IsHandled : Ground → List Record → Request → List Record → Outcome → Type 0
IsHandled ground records (request.Submit e) more told = IsRefused ground records e more told ⊎ IsEntered ground records e more told ⊎ IsWanting records more told
IsHandled ground records (request.Release session seq upto) more told =
    IsEarly records upto more told ⊎ IsMarked records session seq upto more told ⊎ IsWanting records more told
IsHandled ground records (request.Leave session seq) more told = IsLeft records session seq more told ⊎ IsWanting records more told

-- so many visits are at most the reach of a request behind records: that of a release or a leave is 0, and so is that of a change which
-- is refused
abbrev pub IsWithinReach : Ground → List Record → Request → ℕ → Type 0
IsWithinReach ground records (request.Submit e) visits = (n : ℕ) → IsReachAt ground records (front_of records) e.parts n → visits ≤ n
IsWithinReach ground records (request.Release session seq upto) visits = visits ≡ 0
IsWithinReach ground records (request.Leave session seq) visits = visits ≡ 0

-- requests of the tail are handled one after another behind records, which become more, with these outcomes and so many visits in all
unfoldable pub IsTail : Ground → List Record → List Request → List Record → List Resolved → ℕ → Type 0
IsTail ground records [] more outcomes visits = (more ≡ records) × (outcomes ≡ []) × (visits ≡ 0)
IsTail ground records (r ∷ tail) more outcomes visits =
    (next : List Record) × (told : Outcome) × (rest : List Resolved) × (own : ℕ) × (others : ℕ)
    × IsHandled ground records r next told × IsWithinReach ground records r own × IsTail ground next tail more rest others
    × (outcomes ≡ resolved r told ∷ rest) × (visits ≡ own + others)

-- The turn

-- a turn takes a batch behind records, which become more, with these outcomes and so many visits of the tail: the batch is split; cells
-- decide the candidates; their logs are merged; and then the tail is handled, which is the requests that are no candidates and the
-- candidates that bounced, in some order
pub record IsTurnAccount (ground : Ground) (records : List Record) (batch : List Request) (more : List Record) (outcomes : List Resolved)
    (visits : ℕ) : Type 0 where
  pub wanting : List Entry
  pub candidates : List Entry
  pub others : List Request
  pub merged : List Decided
  pub tail : List Request
  pub handled : List Resolved
  pub split : IsSplit (is_candidate_behind ground records) batch wanting candidates others
  pub merge : IsMerge (decisions_on ground records candidates) merged
  pub once : EachOnce (map session_by tail)
  pub each : (r : Request) → Contains tail r ↔ (Contains others r ⊎ Contains (bounced (decisions_on ground records candidates)) r)
  pub handles : IsTail ground (records ++ records_of merged) tail more handled visits
  pub told : outcomes ≡ map (λ e. resolved (request.Submit e) (outcome.Refused refusal.NoMemory)) wanting
      ++ outcomes_of (front_of records) merged ++ handled
