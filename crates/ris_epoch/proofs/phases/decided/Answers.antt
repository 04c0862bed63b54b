use Rattle.std.proofs.Common.{List, [], length, get_or, sym, ap, subst, ◌∙◌, arith}
use Rattle.std.proofs.lemmas.List.{get_or-map, length-map}
use Rattle.ris_graph.specs.GraphView.{IsOf}
use Rattle.ris_graph.specs.Phase.{IsWork}
use Rattle.ris_graph.specs.StripeView.{StripeView, no_stripe}
use Rattle.ris_graph.specs.declared.stripes.StripeJob.{StripeJob}
use Rattle.ris_phase.specs.Cells.{IsFresh, IsLoosenedOf, applied_updates}
use Rattle.ris_epoch.proofs.phases.decided.Goals as goal

pub apply-requires-clause-fresh : goal.apply-requires-clause-fresh
apply-requires-clause-fresh g c κs within =
    let fresh : IsFresh c.loosen-loose.result = record { graph = c.args.graph; jobs = c.args.jobs; of = record { work = c.loosen-loose.ensures.work; is = c.loosen-loose.ensures.is } } in
    fresh

pub settle-requires : goal.settle-requires
settle-requires g c =
    let fresh : IsLoosenedOf c.args.graph c.args.jobs c.loosen-loose.result = record { work = c.loosen-loose.ensures.work; is = c.loosen-loose.ensures.is } in
    let work : IsWork c.apply.new.loose = record { graph = c.args.graph; jobs = c.args.jobs; of = c.apply.ensures.work c.args.graph c.args.jobs fresh } in
    work

pub returns-clause-graph : goal.returns-clause-graph
returns-clause-graph g c p seq order of keeps =
    let fresh : IsLoosenedOf c.args.graph c.args.jobs c.loosen-loose.result = record { work = c.loosen-loose.ensures.work; is = c.loosen-loose.ensures.is } in
    let settled = c.apply.ensures.settles c.args.graph c.args.jobs p seq order fresh of keeps in
    subst (IsOf c.settle.result.0) (sym settled.1)
    (c.settle.ensures.graph c.args.graph c.args.jobs p (applied_updates order) (c.apply.ensures.work c.args.graph c.args.jobs fresh) of settled.0).1

pub returns-clause-cells : goal.returns-clause-cells
returns-clause-cells g c p seq m of lt =
    let fresh : IsLoosenedOf c.args.graph c.args.jobs c.loosen-loose.result = record { work = c.loosen-loose.ensures.work; is = c.loosen-loose.ensures.is } in
    let work = c.apply.ensures.work c.args.graph c.args.jobs fresh in
    ap (λ (js : List (List StripeJob)). get_or js m []) c.settle.ensures.jobs
    ∙ get_or-map (λ (s : StripeView). s.jobs) c.apply.new.loose.stripes m no_stripe [] (let size = work.stripes in omega arith)
    ∙ (c.apply.ensures.cells c.args.graph c.args.jobs p seq m fresh of lt).0

pub returns-clause-stripes : goal.returns-clause-stripes
returns-clause-stripes g c =
    let fresh : IsLoosenedOf c.args.graph c.args.jobs c.loosen-loose.result = record { work = c.loosen-loose.ensures.work; is = c.loosen-loose.ensures.is } in
    ap length c.settle.ensures.jobs ∙ length-map c.apply.new.loose.stripes (λ (s : StripeView). s.jobs) ∙ (c.apply.ensures.work c.args.graph c.args.jobs fresh).stripes
