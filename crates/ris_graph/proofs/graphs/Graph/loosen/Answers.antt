use Rattle.std.proofs.Common.{◌≡◌, ◌∙◌, List, [], length, get_or, sym, ap, subst, arith}
use Rattle.std.proofs.lemmas.List.{length-map}
use Rattle.ris_rows.specs.RowView.{RowView}
use Rattle.ris_graph.specs.GraphView.{GraphView}
use Rattle.ris_graph.specs.Jobs.{AreAscending, AreJobs, EachJob, by_stripe, in_order, job_count}
use Rattle.ris_graph.specs.Phase.{IsReady, IsWorkOf, LooseView, loosened, with_jobs}
use Rattle.ris_graph.specs.StripeView.{CanCarry, StripeView}
use Rattle.ris_graph.specs.declared.stripes.StripeJob.{StripeJob}
use Rattle.ris_graph.proofs.ListedJobs.{few-ascending, in_order-by_stripe, length-by_stripe}
use Rattle.ris_graph.proofs.TableLemmas.{rows_of}
use Rattle.ris_graph.proofs.WorkLemmas.{CanCarry-ready, IsWorkOf-loosened, length-with_jobs}
use Rattle.ris_graph.proofs.graphs.Graph.loosen.Goals as goal

pub load-requires-clause-few : goal.load-requires-clause-few
load-requires-clause-few g c =
    let few = few-ascending c.jobs.inside.jobs.items c.jobs.invariant.2 c.jobs.invariant.0 in
    let same = ap length c.deref.ensures.value in
    omega (arith, few, same)

pub load-requires-clause-fit : goal.load-requires-clause-fit
load-requires-clause-fit g c m lt =
    let now : GraphView = record { format = c.self.inside.format; stripes = c.self.inside.outs; ins = c.self.inside.ins; present = c.self.inside.present.items } in
    let ready = subst (λ (v : GraphView). EachJob (IsReady (job_count c.args.jobs) v) c.args.jobs) (sym c.self.view_is) c.requires in
    let are = subst AreJobs c.jobs.view_is c.jobs.invariant.0 in
    let fit = CanCarry-ready now c.args.jobs c.self.invariant are ready m lt in
    subst (λ (jobs : List StripeJob). CanCarry (get_or (rows_of c.outs.inside.stripes.items) m []) (get_or (by_stripe jobs) m [])) (sym c.deref.ensures.value)
    (subst (λ (t : List (List RowView)). CanCarry (get_or t m []) (get_or (by_stripe c.jobs.inside.jobs.items) m [])) (sym c.outs.view_is)
    (subst (λ (js : List (List StripeJob)). CanCarry (get_or c.self.inside.outs m []) (get_or js m [])) (sym c.jobs.view_is) fit))

pub invariant_of-result : goal.invariant_of-result
invariant_of-result g c =
    let ss = c.outs.inside.stripes.items in
    let size = length-map ss (λ (s : StripeView). s.rows) ∙ c.outs.invariant.0 in (
      ap length c.load.ensures ∙ length-with_jobs (rows_of ss) (by_stripe c.deref.result.now) (size ∙ sym (length-by_stripe c.deref.result.now)) ∙ size,
      c.jobs.invariant.2,
      c.jobs.invariant.3,
      c.jobs.invariant.1.sessions,
    )

-- the jobs in order are those that were given
in-order : (jobs : List StripeJob) (js : List (List StripeJob)) → AreAscending jobs → AreJobs (by_stripe jobs) → by_stripe jobs ≡ js → jobs ≡ in_order js
in-order jobs js rise are is = sym (in_order-by_stripe jobs rise are) ∙ ap in_order is

pub returns-clause-is : goal.returns-clause-is
returns-clause-is g c =
    let made : c.load.new.stripes.items ≡ with_jobs c.self.inside.outs c.args.jobs
    = c.load.ensures ∙ ap (λ (l : List StripeJob). with_jobs (rows_of c.outs.inside.stripes.items) (by_stripe l)) c.deref.ensures.value
    ∙ ap (λ (t : List (List RowView)). with_jobs t (by_stripe c.jobs.inside.jobs.items)) c.outs.view_is ∙ ap (with_jobs c.self.inside.outs) c.jobs.view_is in
    let view = λ (s : List StripeView) (i : List StripeJob). (let l : LooseView = record { format = c.self.inside.format; stripes = s; ins = c.self.inside.ins; present = c.self.inside.present.items; jobs = i } in l) in
    ap (λ (s : List StripeView). view s c.jobs.inside.jobs.items) made
    ∙ ap (view (with_jobs c.self.inside.outs c.args.jobs)) (in-order c.jobs.inside.jobs.items c.args.jobs c.jobs.invariant.2 c.jobs.invariant.0 c.jobs.view_is)
    ∙ ap (λ (v : GraphView). loosened v c.args.jobs) c.self.view_is

pub returns-clause-work : goal.returns-clause-work
returns-clause-work g c =
    let now : GraphView = record { format = c.self.inside.format; stripes = c.self.inside.outs; ins = c.self.inside.ins; present = c.self.inside.present.items } in
    let jobs = c.args.jobs in
    let ready = subst (λ (v : GraphView). EachJob (IsReady (job_count c.args.jobs) v) c.args.jobs) (sym c.self.view_is) c.requires in
    let are = subst AreJobs c.jobs.view_is c.jobs.invariant.0 in
    let given = ap by_stripe (sym (in-order c.jobs.inside.jobs.items c.args.jobs c.jobs.invariant.2 c.jobs.invariant.0 c.jobs.view_is)) ∙ c.jobs.view_is in
    subst (IsWorkOf c.args.self jobs) (sym (returns-clause-is g c))
    (subst (λ (v : GraphView). IsWorkOf v jobs (loosened v jobs)) c.self.view_is (IsWorkOf-loosened now jobs c.self.invariant are ready given))
