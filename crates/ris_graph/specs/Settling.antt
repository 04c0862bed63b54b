-- What settling makes of the in rows and of a table of verdicts.
use Rattle.std.specs.Prelude.{◌≡◌, ⊤, ℕ, ◌+◌, ◌<◌, ◌≤◌, ◌^◌, if◌then◌else◌, List, [], length, slice_index_or, slice_set}
use Rattle.std.specs.List.{All}
use Rattle.ris_base.specs.declared.events.Verdict.{Verdict}
use Rattle.ris_base.specs.declared.events.Verdict.TheVariants.{Waiting}
use Rattle.ris_base.specs.declared.updates.Update.{Update}
use Rattle.ris_base.specs.declared.updates.Update.TheVariants.{AddV, DelV, AddE, DelE, SetW}
use Rattle.ris_rows.specs.Neighbours.{IsAscending, copies_of}
use Rattle.ris_rows.specs.RowView.{RowView, inserted, removed}
use Rattle.ris_graph.specs.GraphView.{row_at}
use Rattle.ris_graph.specs.Jobs.{stripe_of}
use Rattle.ris_graph.specs.StripeView.{AreWithin, is_applied, no_job}
use Rattle.ris_graph.specs.declared.stripes.StripeJob.{StripeJob}

-- the in rows with the copy that an update adds, and without the one that it takes
abbrev pub copy_added : List RowView → Update → List RowView
copy_added ins (AddE u v w) = slice_set ins v (inserted (row_at ins v) u w)
copy_added ins (AddV x) = ins
copy_added ins (DelV x) = ins
copy_added ins (DelE u v w) = ins
copy_added ins (SetW u v w w2) = ins

abbrev pub copy_taken : List RowView → Update → List RowView
copy_taken ins (DelE u v w) = slice_set ins v (removed (row_at ins v) u w)
copy_taken ins (AddV x) = ins
copy_taken ins (DelV x) = ins
copy_taken ins (AddE u v w) = ins
copy_taken ins (SetW u v w w2) = ins

-- the same, where a job was applied
abbrev pub with_added : List RowView → StripeJob → List RowView
with_added ins j = if is_applied j then copy_added ins j.update else ins

abbrev pub with_taken : List RowView → StripeJob → List RowView
with_taken ins j = if is_applied j then copy_taken ins j.update else ins

-- a table by session with the verdict of a job
abbrev pub with_told : List Verdict → StripeJob → List Verdict
with_told verdicts j = slice_set verdicts j.session j.verdict

-- a job with the verdict that a table by session has for it
abbrev pub judged : List Verdict → StripeJob → StripeJob
judged verdicts j = record j { verdict = slice_index_or verdicts j.session Waiting }

-- each stripe that has jobs is that of one of the jobs in a list
abbrev pub HasPlaces : List (List StripeJob) → List StripeJob → Type 0
HasPlaces js jobs = (m : ℕ) → 0 < length (slice_index_or js m []) → (k : ℕ) × (k < length jobs) × (stripe_of (slice_index_or jobs k no_job).update ≡ m)

-- where an update adds a copy, its in row has room for n inserts, and its number of copies for n more
abbrev pub HasAddRoom : List RowView → ℕ → Update → Type 0
HasAddRoom ins n (AddE u v w) = (v < length ins) × (n ≤ (row_at ins v).spare) × (copies_of (row_at ins v).items u w + n < 2 ^ 64)
HasAddRoom ins n (AddV x) = ⊤
HasAddRoom ins n (DelV x) = ⊤
HasAddRoom ins n (DelE u v w) = ⊤
HasAddRoom ins n (SetW u v w w2) = ⊤

-- where an update takes a copy, it has an in row
abbrev pub HasInRow : List RowView → Update → Type 0
HasInRow ins (DelE u v w) = v < length ins
HasInRow ins (AddV x) = ⊤
HasInRow ins (DelV x) = ⊤
HasInRow ins (AddE u v w) = ⊤
HasInRow ins (SetW u v w w2) = ⊤

-- there is room in the in rows for as many copies as there are jobs
pub record CanAdd (ins : List RowView) (jobs : List StripeJob) : Type 0 where
  pub ascending : (v : ℕ) → IsAscending (row_at ins v).items
  pub limits : AreWithin jobs
  pub room : All (λ j. HasAddRoom ins (length jobs) j.update) jobs

-- the jobs that take copies have their in rows
pub record CanTake (ins : List RowView) (jobs : List StripeJob) : Type 0 where
  pub ascending : (v : ℕ) → IsAscending (row_at ins v).items
  pub limits : AreWithin jobs
  pub rows : All (λ j. HasInRow ins j.update) jobs
