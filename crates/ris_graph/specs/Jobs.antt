-- The jobs of a parallel phase: updates that sessions ask for, by stripe.
use Rattle.std.specs.Prelude.{◌≡◌, ℕ, ◌<◌, ◌≤◌, ◌%◌, ◌==◌, nat_lt, Bool, true, false, if◌then◌else◌, IsTrue, List, [], ◌∷◌, length, slice_set, slice_index_or, None, count_by, filter, fold, map, sum_by, replicate}
use Rattle.std.specs.List.{All, AllPairs, Contains}
use Rattle.ris_base.specs.Effect.{first_past_limit}
use Rattle.ris_base.specs.Limits.{greatest_of}
use Rattle.ris_base.specs.Lists.{numbers_below}
use Rattle.ris_base.specs.declared.events.Verdict.{Verdict}
use Rattle.ris_base.specs.declared.events.Verdict.TheVariants.{Waiting}
use Rattle.ris_base.specs.declared.graphs.Format.TheVariants.{Two}
use Rattle.ris_base.specs.declared.updates.Update.{Update}
use Rattle.ris_base.specs.declared.updates.Update.TheVariants.{AddV, DelV, AddE, DelE, SetW}
use Rattle.ris_graph.specs.declared.stripes.StripeJob.{StripeJob}

-- the stripe of an update: that of its vertex, or of its edge's source
abbrev pub stripe_of : Update → ℕ
stripe_of (AddV x) = x % 64
stripe_of (DelV x) = x % 64
stripe_of (AddE u v w) = u % 64
stripe_of (DelE u v w) = u % 64
stripe_of (SetW u v w w2) = u % 64

-- whether an update may be a job: a vertex more, or a copy of an edge more or less
abbrev pub is_job : Update → Bool
is_job (AddV x) = true
is_job (AddE u v w) = true
is_job (DelE u v w) = true
is_job (DelV x) = false
is_job (SetW u v w w2) = false

-- P holds of each job of each stripe
abbrev pub EachJob : (StripeJob → Type 0) → List (List StripeJob) → Type 0
EachJob P js = All (All P) js

-- a job stands in some stripe
abbrev pub IsJob : List (List StripeJob) → StripeJob → Type 0
IsJob js j = (jobs : List StripeJob) × Contains js jobs × Contains jobs j

-- some job is of this session
abbrev pub HasSession : List (List StripeJob) → ℕ → Type 0
HasSession js session = (j : StripeJob) × IsJob js j × (j.session ≡ session)

-- 64 stripes without jobs
abbrev pub no_jobs : List (List StripeJob)
no_jobs = replicate 64 []

-- how many jobs are of a session
abbrev pub jobs_of : ℕ → List (List StripeJob) → ℕ
jobs_of session js = sum_by (λ jobs. count_by (λ j. j.session == session) jobs) js

-- how many jobs there are
abbrev pub job_count : List (List StripeJob) → ℕ
job_count js = sum_by (λ jobs. length jobs) js

-- the sessions of jobs ascend
abbrev pub AreAscending : List StripeJob → Type 0
AreAscending jobs = AllPairs (λ i j. i.session < j.session) jobs

-- jobs with one more: behind those of lesser sessions
abbrev pub with_session : List StripeJob → StripeJob → List StripeJob
with_session [] j = j ∷ []
with_session (i ∷ jobs) j = if nat_lt i.session j.session then i ∷ with_session jobs j else j ∷ i ∷ jobs

-- the jobs with one more, which waits: in its stripe it comes behind the jobs of lesser sessions
abbrev pub with_job : List (List StripeJob) → ℕ → Update → List (List StripeJob)
with_job js session update =
    slice_set js (stripe_of update) (with_session (slice_index_or js (stripe_of update) []) (record { session = session; update = update; verdict = Waiting }))

-- the jobs of each of 64 stripes, in their order
unfoldable pub by_stripe : List StripeJob → List (List StripeJob)
by_stripe jobs = map (λ m. filter (λ j. stripe_of j.update == m) jobs) (numbers_below 64)

-- the jobs of all stripes, in the order of their sessions
unfoldable pub in_order : List (List StripeJob) → List StripeJob
in_order [] = []
in_order (jobs ∷ js) = fold with_session (in_order js) jobs

-- a job of a session below 64 that stands in its own stripe, and whose update may be one and is within the limits of format two
pub record IsJobOf (stripe : ℕ) (j : StripeJob) : Type 0 where
  pub session : j.session < 64
  pub kind : IsTrue (is_job j.update)
  pub limits : first_past_limit (greatest_of Two) j.update ≡ None
  pub home : stripe_of j.update ≡ stripe

-- the jobs of 64 stripes, at most one of each session, in each stripe in the order of their sessions
pub record AreJobs (js : List (List StripeJob)) : Type 0 where
  pub stripes : length js ≡ 64
  pub each : (m : ℕ) → All (IsJobOf m) (slice_index_or js m [])
  pub once : (session : ℕ) → jobs_of session js ≤ 1
  pub ascending : (m : ℕ) → AreAscending (slice_index_or js m [])

-- a table by session has the verdict of each job
pub record AreTold (js : List (List StripeJob)) (verdicts : List Verdict) : Type 0 where
  pub sessions : length verdicts ≡ 64
  pub told : (m : ℕ) → All (λ j. slice_index_or verdicts j.session Waiting ≡ j.verdict) (slice_index_or js m [])
