-- What the seal makes of decided candidates, one after another.
use Rattle.std.specs.Prelude.{◌≡◌, ℕ, ◌+◌, if◌then◌else◌, List, [], ◌∷◌, ◌++◌, map}
use Rattle.ris_base.specs.Epoch.{Resolved}
use Rattle.ris_base.specs.Machine.{Decided, is_applied, session_by}
use Rattle.ris_base.specs.declared.events.Verdict.{Verdict}
use Rattle.ris_base.specs.declared.lines.Entry.{Entry}
use Rattle.ris_base.specs.declared.records.Record.{Record}
use Rattle.ris_base.specs.declared.requests.Request.{Request}
use Rattle.ris_base.specs.declared.requests.Request.TheVariants as request
use Rattle.ris_graph.specs.Jobs.{IsJob}
use Rattle.ris_graph.specs.declared.stripes.StripeJob.{StripeJob}
use Rattle.ris_epoch.specs.Account.{entry_record, is_bounced, outcome_of}
use Rattle.ris_epoch.specs.Ordering.{inserted_by}

-- the decision on a candidate with this verdict
abbrev pub told_by : Entry → Verdict → Decided
told_by e verdict = record { entry = e; verdict = verdict }

-- the decisions on candidates by the verdicts of their sessions
abbrev pub all_told : (ℕ → Verdict) → List Entry → List Decided
all_told verdicts candidates = map (λ e. told_by e (verdicts e.session)) candidates

-- the verdict of each session's job
abbrev pub AreVerdicts : List (List StripeJob) → (ℕ → Verdict) → Type 0
AreVerdicts jobs verdicts = (job : StripeJob) → IsJob jobs job → job.verdict ≡ verdicts job.session

-- the record of a decision: of an applied one
abbrev pub record_if : Decided → List Record
record_if d = if is_applied d then entry_record d.entry [] ∷ [] else []

-- the records of decisions
unfoldable pub records_if : List Decided → List Record
records_if [] = []
records_if (d ∷ decisions) = record_if d ++ records_if decisions

-- the outcome of a decision behind n entries: of one that doesn't bounce
abbrev pub outcome_if : ℕ → Decided → List Resolved
outcome_if n d = if is_bounced d then [] else outcome_of n d ∷ []

-- the number of entries behind a decision
abbrev pub front_after : ℕ → Decided → ℕ
front_after n d = if is_applied d then n + 1 else n

-- the outcomes of decisions
unfoldable pub outcomes_if : ℕ → List Decided → List Resolved
outcomes_if n [] = []
outcomes_if n (d ∷ decisions) = outcome_if n d ++ outcomes_if (front_after n d) decisions

-- the requests that wait with one that bounces, and with all that do
abbrev pub waiting_if : List Request → Decided → List Request
waiting_if rest d = if is_bounced d then inserted_by session_by rest (request.Submit d.entry) else rest

unfoldable pub all_waiting : List Request → List Decided → List Request
all_waiting rest [] = rest
all_waiting rest (d ∷ decisions) = all_waiting (waiting_if rest d) decisions
