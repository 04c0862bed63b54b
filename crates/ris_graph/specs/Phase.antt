-- A parallel phase: what a graph is while its stripes have jobs, and what is made of it.
use Rattle.std.specs.Prelude.{◌≡◌, ⊤, ℕ, ◌<◌, ◌≤◌, ◌==◌, ◌&&◌, ◌^◌, Bool, IsTrue, List, [], ◌∷◌, length, slice_index_or, map, filter, None}
use Rattle.std.specs.List.{flat_map}
use Rattle.ris_base.specs.Effect.{first_past_limit}
use Rattle.ris_base.specs.Graph.{triple}
use Rattle.ris_base.specs.Limits.{greatest_of}
use Rattle.ris_base.specs.Requests.{refusal_of, entered}
use Rattle.ris_base.specs.declared.events.Verdict.{Verdict}
use Rattle.ris_base.specs.declared.events.Verdict.TheVariants.{Waiting}
use Rattle.ris_base.specs.declared.graphs.Format.{Format}
use Rattle.ris_base.specs.declared.graphs.PlainGraph.{PlainGraph}
use Rattle.ris_base.specs.declared.updates.Update.{Update}
use Rattle.ris_base.specs.declared.updates.Update.TheVariants.{AddV, DelV, AddE, DelE, SetW}
use Rattle.ris_rows.specs.RowView.{RowView}
use Rattle.ris_graph.specs.GraphView.{GraphView, out_row, in_row, vertex_in, copies_in}
use Rattle.ris_graph.specs.Jobs.{AreJobs, EachJob, by_stripe, in_order, job_count, stripe_of}
use Rattle.ris_graph.specs.Sound.{IsSound}
use Rattle.ris_graph.specs.StripeView.{StripeView, is_applied, no_stripe, fresh, edited, declined, CanEdit, CanDecline}
use Rattle.ris_graph.specs.declared.stripes.StripeJob.{StripeJob}

-- Graphs with jobs

-- a graph whose stripes have jobs, and the jobs as they were given, in the order of their sessions; its in rows lag behind
pub record LooseView : Type 0 where
  pub format : Format
  pub stripes : List StripeView
  pub ins : List RowView
  pub present : List Bool
  pub jobs : List StripeJob

-- stripe m
abbrev pub stripe_at : LooseView → ℕ → StripeView
stripe_at l m = slice_index_or l.stripes m no_stripe

-- stripes of these rows, with these jobs
abbrev pub with_jobs : List (List RowView) → List (List StripeJob) → List StripeView
with_jobs [] js = []
with_jobs (rows ∷ rest) [] = []
with_jobs (rows ∷ rest) (jobs ∷ js) = fresh rows jobs ∷ with_jobs rest js

-- the graph whose stripes have the jobs
abbrev pub loosened : GraphView → List (List StripeJob) → LooseView
loosened g js = record { format = g.format; stripes = with_jobs g.stripes js; ins = g.ins; present = g.present; jobs = in_order js }

-- the vertices that an update names are in the graph
abbrev pub HasEnds : GraphView → Update → Type 0
HasEnds g (AddV x) = IsTrue (vertex_in g x)
HasEnds g (DelV x) = IsTrue (vertex_in g x)
HasEnds g (AddE u v w) = IsTrue (vertex_in g u) × IsTrue (vertex_in g v)
HasEnds g (DelE u v w) = IsTrue (vertex_in g u) × IsTrue (vertex_in g v)
HasEnds g (SetW u v w w2) = IsTrue (vertex_in g u) × IsTrue (vertex_in g v)

-- where an update adds a copy, there is room for n inserts in both rows of its triple, which has at most 2^63 copies
abbrev pub HasPhaseRoom : ℕ → GraphView → Update → Type 0
HasPhaseRoom n g (AddE u v w) = (n ≤ (out_row g u).spare) × (n ≤ (in_row g v).spare) × (copies_in g (triple u v w) ≤ 2 ^ 63)
HasPhaseRoom n g (AddV x) = ⊤
HasPhaseRoom n g (DelV x) = ⊤
HasPhaseRoom n g (DelE u v w) = ⊤
HasPhaseRoom n g (SetW u v w w2) = ⊤

-- a job that waits, is within the graph's limits, names vertices of the graph, and has room for n inserts
pub record IsReady (n : ℕ) (g : GraphView) (j : StripeJob) : Type 0 where
  pub waiting : j.verdict ≡ Waiting
  pub limits : first_past_limit (greatest_of g.format) j.update ≡ None
  pub ends : HasEnds g j.update
  pub room : HasPhaseRoom n g j.update

-- Edits

-- a step of a phase: a job of a stripe is applied, or gets another verdict
pub data Step : Type 0 where
  Edit : (k : ℕ) → Step
  Decline : (k : ℕ) (verdict : Verdict) → Step

-- a stripe after a step, and whether it can be done
abbrev pub stepped : StripeView → Step → StripeView
stepped s (Edit k) = edited s k
stepped s (Decline k verdict) = declined s k verdict

abbrev pub CanStep : StripeView → Step → Type 0
CanStep s (Edit k) = CanEdit s k
CanStep s (Decline k verdict) = CanDecline s k verdict

-- a stripe after steps, one after another, and whether they can be done
abbrev pub after_steps : StripeView → List Step → StripeView
after_steps s [] = s
after_steps s (step ∷ steps) = after_steps (stepped s step) steps

abbrev pub CanDo : StripeView → List Step → Type 0
CanDo s [] = ⊤
CanDo s (step ∷ steps) = CanStep s step × CanDo (stepped s step) steps

-- a stripe is what edits and declines made of another
pub record Follows (old new : StripeView) : Type 0 where
  pub steps : List Step
  pub can : CanDo old steps
  pub is : new ≡ after_steps old steps

-- the graph with jobs was made from this graph and these jobs, each with room for all of them, and each of its stripes is what
-- edits and declines made of it
pub record IsWorkOf (g : GraphView) (js : List (List StripeJob)) (l : LooseView) : Type 0 where
  pub sound : IsSound g
  pub jobs : AreJobs js
  pub ready : EachJob (IsReady (job_count js) g) js
  pub format : l.format ≡ g.format
  pub ins : l.ins ≡ g.ins
  pub present : l.present ≡ g.present
  pub given : by_stripe l.jobs ≡ js
  pub stripes : length l.stripes ≡ 64
  pub follows : (m : ℕ) → m < 64 → Follows (stripe_at (loosened g js) m) (stripe_at l m)

-- it was made from some graph and some jobs so
pub record IsWork (l : LooseView) : Type 0 where
  pub graph : GraphView
  pub jobs : List (List StripeJob)
  pub of : IsWorkOf graph jobs l

-- What was done

-- the updates of the jobs of a stripe that were applied, in the order of its log
abbrev pub applied_of : StripeView → List Update
applied_of s = flat_map (λ session. map (λ j. j.update) (filter (λ j. (j.session == session) && is_applied j) s.jobs)) s.log

-- updates in an order that keeps that of each stripe
abbrev pub IsMerge : LooseView → List Update → Type 0
IsMerge l updates = (m : ℕ) → m < 64 → filter (λ u. stripe_of u == m) updates ≡ applied_of (stripe_at l m)

-- the graph after updates, one request after another, and whether each is accepted
abbrev pub entered_each : PlainGraph → List Update → PlainGraph
entered_each p [] = p
entered_each p (u ∷ updates) = entered_each (entered p (u ∷ [])) updates

abbrev pub AreAccepted : PlainGraph → List Update → Type 0
AreAccepted p [] = ⊤
AreAccepted p (u ∷ updates) = (refusal_of p (u ∷ []) ≡ None) × AreAccepted (entered p (u ∷ [])) updates
