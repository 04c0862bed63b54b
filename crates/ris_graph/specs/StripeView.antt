-- What a contract sees of a stripe: its out rows, its jobs, and what was decided of them.
use Rattle.std.specs.Prelude.{◌≡◌, ◌⊎◌, ⊤, ℕ, ◌+◌, ◌<◌, ◌≤◌, ◌/◌, ◌^◌, Bool, true, false, IsTrue, ◌&&◌, ◌==◌, if◌then◌else◌, List, [], ◌∷◌, ◌++◌, length, slice_set, slice_index_or, None, count_by, Vec, vec_len, vec_capacity}
use Rattle.std.specs.List.{All}
use Rattle.std.specs.declared.alloc.Global.{Global}
use Rattle.ris_base.specs.Effect.{first_past_limit}
use Rattle.ris_base.specs.Limits.{greatest_of}
use Rattle.ris_base.specs.declared.events.Verdict.{Verdict}
use Rattle.ris_base.specs.declared.events.Verdict.TheVariants.{Waiting, Applied, NoEdge, Bounced}
use Rattle.ris_base.specs.declared.graphs.Format.TheVariants.{Two}
use Rattle.ris_base.specs.declared.updates.Update.{Update}
use Rattle.ris_base.specs.declared.updates.Update.TheVariants.{AddV, DelV, AddE, DelE, SetW}
use Rattle.ris_rows.specs.Neighbours.{IsAscending, copies_of}
use Rattle.ris_rows.specs.RowView.{RowView, inserted, removed}
use Rattle.ris_graph.specs.GraphView.{row_at}
use Rattle.ris_graph.specs.declared.stripes.StripeJob.{StripeJob}

-- the out rows of a stripe by place, its jobs with their verdicts, and the sessions of those that were applied or refused, in
-- the order of their verdicts; and for how many jobs it has memory, counted up to 64
pub record StripeView : Type 0 where
  pub rows : List RowView
  pub jobs : List StripeJob
  pub log : List ℕ
  pub job_room : ℕ

-- a stripe without rows and jobs
abbrev pub no_stripe : StripeView
no_stripe = record { rows = []; jobs = []; log = []; job_room = 0 }

-- a stripe of rows and jobs, of which none has a verdict
abbrev pub fresh : List RowView → List StripeJob → StripeView
fresh rows jobs = record { rows = rows; jobs = jobs; log = []; job_room = 64 }

-- whether a job still waits for its verdict
abbrev pub waits : StripeJob → Bool
waits j = is_waiting j.verdict
  where
    is_waiting : Verdict → Bool
    is_waiting Waiting = true
    is_waiting Applied = false
    is_waiting NoEdge = false
    is_waiting Bounced = false

-- whether a job was applied
abbrev pub is_applied : StripeJob → Bool
is_applied j = applies j.verdict
  where
    applies : Verdict → Bool
    applies Applied = true
    applies Waiting = false
    applies NoEdge = false
    applies Bounced = false

-- whether an update adds a copy to the row at this place, and whether it adds one of (e, w) there
abbrev pub adds_at : ℕ → Update → Bool
adds_at k (AddE u v w) = u / 64 == k
adds_at k (AddV x) = false
adds_at k (DelV x) = false
adds_at k (DelE u v w) = false
adds_at k (SetW u v w w2) = false

abbrev pub adds_copy : ℕ → ℕ → ℕ → Update → Bool
adds_copy k e w (AddE u v x) = (u / 64 == k) && (v == e) && (x == w)
adds_copy k e w (AddV x) = false
adds_copy k e w (DelV x) = false
adds_copy k e w (DelE u v x) = false
adds_copy k e w (SetW u v x w2) = false

-- the rows ascend, and there is room for every job that waits: in each row for so many neighbours, and in each number for so many
-- copies
pub record HasJobRoom (rows : List RowView) (jobs : List StripeJob) : Type 0 where
  pub ascending : (k : ℕ) → IsAscending (row_at rows k).items
  pub room : (k : ℕ) → count_by (λ j. waits j && adds_at k j.update) jobs ≤ (row_at rows k).spare
  pub few : (k e w : ℕ) → 0 < count_by (λ j. waits j && adds_copy k e w j.update) jobs
      → copies_of (row_at rows k).items e w + count_by (λ j. waits j && adds_copy k e w j.update) jobs < 2 ^ 64

-- a job that no stripe has, and job k of a stripe
abbrev pub no_job : StripeJob
no_job = record { session = 0; update = AddV 0; verdict = Waiting }

abbrev pub job_at : StripeView → ℕ → StripeJob
job_at s k = slice_index_or s.jobs k no_job

-- the rows of a stripe after an update of it: a copy more or less of one neighbour
abbrev pub rows_after : List RowView → Update → List RowView
rows_after rows (AddE u v w) = slice_set rows (u / 64) (inserted (row_at rows (u / 64)) v w)
rows_after rows (DelE u v w) = slice_set rows (u / 64) (removed (row_at rows (u / 64)) v w)
rows_after rows (AddV x) = rows
rows_after rows (DelV x) = rows
rows_after rows (SetW u v w w2) = rows

-- where the update takes a copy, the rows have one
abbrev pub HasCopy : List RowView → Update → Type 0
HasCopy rows (DelE u v w) = 1 ≤ copies_of (row_at rows (u / 64)).items v w
HasCopy rows (AddV x) = ⊤
HasCopy rows (DelV x) = ⊤
HasCopy rows (AddE u v w) = ⊤
HasCopy rows (SetW u v w w2) = ⊤

-- the jobs of a stripe where job k has a verdict
abbrev pub with_verdict : StripeView → ℕ → Verdict → List StripeJob
with_verdict s k verdict = slice_set s.jobs k (record (job_at s k) { verdict = verdict })

-- the stripe where job k was applied: its update is done, and the log has its session
abbrev pub edited : StripeView → ℕ → StripeView
edited s k = record s { rows = rows_after s.rows (job_at s k).update; jobs = with_verdict s k Applied; log = s.log ++ (job_at s k).session ∷ [] }

-- whether a verdict refuses the job, which the log then tells
abbrev pub is_refusal : Verdict → Bool
is_refusal NoEdge = true
is_refusal Waiting = false
is_refusal Applied = false
is_refusal Bounced = false

-- the stripe where job k has a verdict without being applied
abbrev pub declined : StripeView → ℕ → Verdict → StripeView
declined s k verdict = record s { jobs = with_verdict s k verdict; log = if is_refusal verdict then s.log ++ (job_at s k).session ∷ [] else s.log }

-- job k waits, and can be applied
pub record CanEdit (s : StripeView) (k : ℕ) : Type 0 where
  pub within : k < length s.jobs
  pub waiting : IsTrue (waits (job_at s k))
  pub copy : HasCopy s.rows (job_at s k).update

-- job k waits, and the verdict is one that doesn't apply it
pub record CanDecline (s : StripeView) (k : ℕ) (verdict : Verdict) : Type 0 where
  pub within : k < length s.jobs
  pub waiting : IsTrue (waits (job_at s k))
  pub declines : (verdict ≡ NoEdge) ⊎ (verdict ≡ Bounced)

-- where the update adds a copy, its row has room for one more, and its number of copies too
abbrev pub HasEditRoom : List RowView → Update → Type 0
HasEditRoom rows (AddE u v w) = (1 ≤ (row_at rows (u / 64)).spare) × (copies_of (row_at rows (u / 64)).items v w + 1 < 2 ^ 64)
HasEditRoom rows (AddV x) = ⊤
HasEditRoom rows (DelV x) = ⊤
HasEditRoom rows (DelE u v w) = ⊤
HasEditRoom rows (SetW u v w w2) = ⊤

-- the numbers of the updates of jobs are within the limits of format two
abbrev pub AreWithin : List StripeJob → Type 0
AreWithin jobs = All (λ j. first_past_limit (greatest_of Two) j.update ≡ None) jobs

-- where a job of a stripe waits, its rows have room for those that do, and so has the log; the numbers of the updates are within
-- the limits
pub record IsStripe (rows : List RowView) (jobs : List StripeJob) (log : Vec ℕ Global) : Type 0 where
  pub room : 0 < count_by waits jobs → HasJobRoom rows jobs
  pub limits : AreWithin jobs
  pub noted : vec_len log + count_by waits jobs ≤ vec_capacity log

-- rows have room for jobs whose updates are within the limits
pub record CanCarry (rows : List RowView) (jobs : List StripeJob) : Type 0 where
  pub room : HasJobRoom rows jobs
  pub limits : AreWithin jobs

-- a stripe has no jobs, and the memory for 64
pub record IsIdle (s : StripeView) : Type 0 where
  pub jobs : s.jobs ≡ []
  pub log : s.log ≡ []
  pub memory : s.job_room ≡ 64

-- a stripe has the memory for 64 jobs, and a log only where it has jobs
pub record IsWhole (s : StripeView) : Type 0 where
  pub memory : s.job_room ≡ 64
  pub quiet : s.jobs ≡ [] → s.log ≡ []
