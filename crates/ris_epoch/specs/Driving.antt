-- What the driver makes of a candidate and of what repair tells.
use Rattle.std.specs.Prelude.{ℕ, ◌+◌, ◌==◌, List, [], ◌∷◌, ◌++◌, filter, map}
use Rattle.ris_base.specs.Epoch.{Resolved}
use Rattle.ris_base.specs.declared.events.Verdict.TheVariants.{Waiting}
use Rattle.ris_base.specs.declared.lines.Entry.{Entry}
use Rattle.ris_base.specs.declared.records.Change.{Change}
use Rattle.ris_base.specs.declared.replies.Outcome.{Outcome}
use Rattle.ris_base.specs.declared.replies.Outcome.TheVariants as outcome
use Rattle.ris_base.specs.declared.replies.Refusal.TheVariants as refusal
use Rattle.ris_base.specs.declared.requests.Request.TheVariants as request
use Rattle.ris_base.specs.declared.updates.Update.{Update}
use Rattle.ris_base.specs.declared.updates.Update.TheVariants.{AddV}
use Rattle.ris_forest.specs.declared.deltas.DeltaRow.{DeltaRow}
use Rattle.ris_graph.specs.declared.stripes.StripeJob.{StripeJob}
use Rattle.ris_epoch.specs.Account.{resolved}
use Rattle.ris_epoch.specs.Ordering.{stripe_by_entry}

-- replies as a driver keeps them
abbrev pub resolved_of : ℕ × ℕ × Outcome → Resolved
resolved_of reply = record { session = reply.0; seq = reply.1; outcome = reply.2 }

abbrev pub all_resolved : List (ℕ × ℕ × Outcome) → List Resolved
all_resolved replies = map resolved_of replies

-- what a candidate is told that gets no memory
abbrev pub no_memory_for : Entry → Resolved
no_memory_for e = resolved (request.Submit e) (outcome.Refused refusal.NoMemory)

-- the candidates of one stripe
abbrev pub of_stripe : ℕ → List Entry → List Entry
of_stripe k candidates = filter (λ e. stripe_by_entry e == k) candidates

-- the first part of a request
abbrev pub first_part : List Update → Update
first_part [] = AddV 0
first_part (part ∷ parts) = part

-- the job of a candidate, which waits
abbrev pub job_of : Entry → StripeJob
job_of e = record { session = e.session; update = first_part e.parts; verdict = Waiting }

-- the change that a row of the delta of analysis a makes
abbrev pub change_of : ℕ → DeltaRow → Change
change_of a row = record { analysis = a; vertex = row.vertex; value = row.value; parent = row.parent; moved = row.moved }

-- the changes that deltas make, of the analyses from number a on
unfoldable pub changes_from : ℕ → List (List DeltaRow) → List Change
changes_from a [] = []
changes_from a (delta ∷ deltas) = map (change_of a) delta ++ changes_from (a + 1) deltas
