use Rattle.std.proofs.Common.{◌≡◌, [], map, get_or, sym, subst}
use Rattle.ris_graph.specs.Phase.{IsMerge, IsWorkOf, LooseView, applied_of, stripe_at}
use Rattle.ris_phase.specs.Cells.{all_phased, applied_updates, cells, logs}
use Rattle.ris_phase.proofs.CellLemmas.{cells-phased, work-phased}
use Rattle.ris_phase.proofs.MergeLemmas.{applied_each-updates, merge-order, single-order}
use Rattle.ris_phase.proofs.OrderLemmas.{says-order}
use Rattle.ris_phase.proofs.phases.apply.Goals as goal

pub returns-clause-work : goal.returns-clause-work
returns-clause-work g c g' js of =
    subst (IsWorkOf g' js) (sym c.decide_jobs.ensures) (work-phased g' js c.args.loose.now of (g.J.Judge.forests c.args.judge.now))

pub returns-clause-cells : goal.returns-clause-cells
returns-clause-cells g c g' js p seq m of is lt =
    let forests = g.J.Judge.forests c.args.judge.now in
    let made = cells-phased g' js c.args.loose.now of p is forests seq m lt in
    subst
    (λ (l : LooseView). ((stripe_at l m).jobs ≡ cells p forests seq [] (get_or js m [])) × ((stripe_at l m).log ≡ map (λ d. d.entry.session) (logs p forests seq [] (get_or js m []))))
    (sym c.decide_jobs.ensures) (made.jobs_are, made.sessions)

pub returns-clause-applied : goal.returns-clause-applied
returns-clause-applied g c g' js p seq m of is lt =
    let forests = g.J.Judge.forests c.args.judge.now in
    subst (λ (l : LooseView). applied_of (stripe_at l m) ≡ applied_updates (logs p forests seq [] (get_or js m []))) (sym c.decide_jobs.ensures)
    (cells-phased g' js c.args.loose.now of p is forests seq m lt).applied

pub returns-clause-settles : goal.returns-clause-settles
returns-clause-settles g c g' js p seq order of is keeps =
    let forests = g.J.Judge.forests c.args.judge.now in
    let l = c.args.loose.now in (
      subst (λ (x : LooseView). IsMerge x (applied_updates order)) (sym c.decide_jobs.ensures)
          (merge-order (all_phased forests l) p forests seq js order (λ m lt. (cells-phased g' js l of p is forests seq m lt).applied) keeps),
      applied_each-updates p order (single-order p forests seq js order keeps),
    )

pub returns-clause-merges : goal.returns-clause-merges
returns-clause-merges g c g' js p seq order of is right candidates keeps =
    says-order p (g.J.Judge.specs c.args.judge.now) (g.J.Judge.forests c.args.judge.now) seq js order is.proper right candidates keeps
