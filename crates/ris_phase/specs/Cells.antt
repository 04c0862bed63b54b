-- A parallel phase: what it makes of each stripe by the stripe's own rows, and what the machine's cells say of the same jobs.
use Rattle.std.specs.Prelude.{◌≡◌, ℕ, zero, suc, ◌/◌, ◌==◌, Bool, true, false, IsTrue, if◌then◌else◌, List, [], ◌∷◌, ◌++◌, length, map, filter, None}
use Rattle.std.specs.List.{All}
use Rattle.ris_base.specs.Effect.{first_past_limit}
use Rattle.ris_base.specs.Forest.{Forest}
use Rattle.ris_base.specs.Graph.{triple}
use Rattle.ris_base.specs.Limits.{greatest_of}
use Rattle.ris_base.specs.Machine.{Decided, entry_of, is_applied, stripe_of, verdict_by, verdict_of}
use Rattle.ris_base.specs.Requests.{entered}
use Rattle.ris_base.specs.Safe.{is_used}
use Rattle.ris_base.specs.declared.events.Verdict.{Verdict}
use Rattle.ris_base.specs.declared.events.Verdict.TheVariants.{Applied, Bounced, NoEdge, Waiting}
use Rattle.ris_base.specs.declared.graphs.Format.TheVariants.{Two}
use Rattle.ris_base.specs.declared.graphs.PlainGraph.{PlainGraph}
use Rattle.ris_base.specs.declared.updates.Update.{Update}
use Rattle.ris_base.specs.declared.updates.Update.TheVariants.{AddV, DelV, AddE, DelE, SetW}
use Rattle.ris_rows.specs.Neighbours.{copies_of}
use Rattle.ris_rows.specs.RowView.{RowView}
use Rattle.ris_graph.specs.GraphView.{GraphView, row_at}
use Rattle.ris_graph.specs.Phase.{IsWorkOf, LooseView, loosened}
use Rattle.ris_graph.specs.StripeView.{StripeView, declined, edited, job_at, waits}
use Rattle.ris_graph.specs.declared.stripes.StripeJob.{StripeJob}

-- Stripes

-- the verdict on an update where a stripe has these rows: a `DelE` without a copy is refused, one of the last copy of a triple that
-- a forest uses is left to the tail, and any other is applied, as is every `AddV` and `AddE`
abbrev pub verdict_in : List Forest → List RowView → Update → Verdict
verdict_in forests rows (AddV x) = Applied
verdict_in forests rows (AddE u v w) = Applied
verdict_in forests rows (DelE u v w) = verdict_by (is_used forests (triple u v w)) (copies_of (row_at rows (u / 64)).items v w)
verdict_in forests rows (DelV x) = Bounced
verdict_in forests rows (SetW u v w w2) = Bounced

-- a stripe whose job k gets this verdict
abbrev pub with_decision : StripeView → ℕ → Verdict → StripeView
with_decision s k Applied = edited s k
with_decision s k NoEdge = declined s k NoEdge
with_decision s k Bounced = declined s k Bounced
with_decision s k Waiting = declined s k Waiting

-- a stripe whose job k is decided by its own rows
unfoldable pub decided_job : List Forest → StripeView → ℕ → StripeView
decided_job forests s k = with_decision s k (verdict_in forests s.rows (job_at s k).update)

-- a stripe of which so many jobs are decided, one after another, from job k on
unfoldable pub decided_from : List Forest → ℕ → ℕ → StripeView → StripeView
decided_from forests zero k s = s
decided_from forests (suc n) k s = decided_from forests n (suc k) (decided_job forests s k)

-- a stripe of which all jobs are decided, in their order
abbrev pub phased : List Forest → StripeView → StripeView
phased forests s = decided_from forests (length s.jobs) 0 s

-- whether the first of jobs waits
abbrev pub waits_first : List StripeJob → Bool
waits_first [] = false
waits_first (j ∷ jobs) = waits j

-- a stripe of which all jobs are decided, unless the first one was
abbrev pub phased_once : List Forest → StripeView → StripeView
phased_once forests s = if waits_first s.jobs then phased forests s else s

-- a graph with jobs of which all are decided, each by its own stripe
abbrev pub all_phased : List Forest → LooseView → LooseView
all_phased forests l = record l { stripes = map (phased forests) l.stripes }

-- a job that waits and whose numbers are within the limits of format two
pub record IsOpen (j : StripeJob) : Type 0 where
  pub waiting : IsTrue (waits j)
  pub limits : first_past_limit (greatest_of Two) j.update ≡ None

-- none of the jobs of a stripe has a verdict
abbrev pub IsUndecided : StripeView → Type 0
IsUndecided s = All IsOpen s.jobs

-- Graphs with jobs

-- the graph with jobs is as it was made of this graph and these jobs, none of which is decided
pub record IsLoosenedOf (g : GraphView) (js : List (List StripeJob)) (l : LooseView) : Type 0 where
  pub work : IsWorkOf g js l
  pub is : l ≡ loosened g js

-- it is so of some graph and some jobs
pub record IsFresh (l : LooseView) : Type 0 where
  pub graph : GraphView
  pub jobs : List (List StripeJob)
  pub of : IsLoosenedOf graph jobs l

-- Cells

-- the decision on a job, where the requests of sessions have these numbers: the entry that it would make, and its verdict
abbrev pub decision : (ℕ → ℕ) → StripeJob → Decided
decision seq j = record { entry = entry_of j.session (seq j.session) (j.update ∷ []); verdict = j.verdict }

-- whether a verdict leaves its candidate to the tail
abbrev pub is_bounced : Verdict → Bool
is_bounced Bounced = true
is_bounced Waiting = false
is_bounced Applied = false
is_bounced NoEdge = false

-- a log with one decision more, unless its candidate is left to the tail
abbrev pub logged : List Decided → Decided → List Decided
logged log d = if is_bounced d.verdict then log else log ++ d ∷ []

-- a job with the verdict of its cell, where its stripe has this log
abbrev pub celled : PlainGraph → List Forest → List Decided → StripeJob → StripeJob
celled p forests log j = record j { verdict = verdict_of p forests log (j.update ∷ []) }

-- the jobs of a stripe with the verdicts of their cells, one after another, the first one where the stripe has this log
unfoldable pub cells : PlainGraph → List Forest → (ℕ → ℕ) → List Decided → List StripeJob → List StripeJob
cells p forests seq log [] = []
cells p forests seq log (j ∷ jobs) =
    celled p forests log j ∷ cells p forests seq (logged log (decision seq (celled p forests log j))) jobs

-- the log that these cells leave
unfoldable pub logs : PlainGraph → List Forest → (ℕ → ℕ) → List Decided → List StripeJob → List Decided
logs p forests seq log [] = log
logs p forests seq log (j ∷ jobs) = logs p forests seq (logged log (decision seq (celled p forests log j))) jobs

-- Merges

-- decisions in an order that keeps that of each stripe's log
abbrev pub IsOrder : (ℕ → List Decided) → List Decided → Type 0
IsOrder log order = (k : ℕ) → filter (λ d. stripe_of d.entry.parts == k) order ≡ log k

-- the updates of the applied ones of decisions, in their order
unfoldable pub applied_updates : List Decided → List Update
applied_updates [] = []
applied_updates (d ∷ order) = (if is_applied d then d.entry.parts else []) ++ applied_updates order

-- the graph after the applied ones of decisions, one request after another
unfoldable pub applied_each : PlainGraph → List Decided → PlainGraph
applied_each p [] = p
applied_each p (d ∷ order) = applied_each (if is_applied d then entered p d.entry.parts else p) order
