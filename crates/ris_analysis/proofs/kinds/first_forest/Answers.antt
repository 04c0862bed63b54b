use Rattle.std.proofs.Common.{length, sym, subst, ap, ◌∙◌}
use Rattle.std.proofs.lemmas.List.{length-replicate}
use Rattle.ris_base.specs.Forest.{Forest, IsForest}
use Rattle.ris_forest.specs.Cells.{absent_cell, forest_of}
use Rattle.ris_forest.specs.Commits.{with_rows}
use Rattle.ris_forest.proofs.CellLemmas.{forest_of-committed, length-committed}
use Rattle.ris_graph.specs.Ticks.{IsRise}
use Rattle.ris_graph.proofs.ListingLemmas.{ticked-zero}
use Rattle.ris_repair.proofs.RiseLemmas.{rise_none}
use Rattle.ris_analysis.specs.Repairing.{first_reach}
use Rattle.ris_analysis.proofs.kinds.first_forest.Goals as goal

pub returns-in_err-forest-clause-visits : goal.returns-in_err-forest-clause-visits
returns-in_err-forest-clause-visits g c = λ p of. rise_none (g.M.Meter.ticks c.args.meter.now) (first_reach p (g.A.Monotone.spec c.args.algo))

pub returns-in_err-forest-clause-counted : goal.returns-in_err-forest-clause-counted
returns-in_err-forest-clause-counted g c = (0, sym (ticked-zero (g.M.Meter.ticks c.args.meter.now)))

pub returns-in_err-delta-clause-visits : goal.returns-in_err-delta-clause-visits
returns-in_err-delta-clause-visits g c = λ p of.
    subst (λ a. IsRise (g.M.Meter.ticks c.args.meter.now) (g.M.Meter.ticks c.from_scratch.new.meter) (first_reach p (g.A.Monotone.spec a))) c.in_ok-forest.ensures.algo (c.from_scratch.ensures.visits p of)

pub returns-clause-visits : goal.returns-clause-visits
returns-clause-visits g c = λ p of.
    subst (λ a. IsRise (g.M.Meter.ticks c.args.meter.now) (g.M.Meter.ticks c.from_scratch.new.meter) (first_reach p (g.A.Monotone.spec a))) c.in_ok-forest.ensures.algo (c.from_scratch.ensures.visits p of)

pub returns-clause-size : goal.returns-clause-size
returns-clause-size g c =
    ap length c.commit.ensures.cells ∙ length-committed c.in_ok-forest.forest.cells c.in_ok-delta.delta ∙ ap length c.in_ok-forest.ensures.cells ∙ length-replicate c.args.size absent_cell

pub returns-clause-right : goal.returns-clause-right
returns-clause-right g c = λ p of.
    let F = with_rows (forest_of c.in_ok-forest.forest.cells) c.in_ok-delta.delta in
    let same = ap forest_of c.commit.ensures.cells ∙ forest_of-committed c.in_ok-forest.forest.cells c.in_ok-delta.delta c.in_ok-delta.ensures.below in
    subst (λ (G : Forest). IsForest p (g.A.Monotone.spec c.args.algo) G) (sym same)
    (subst (λ a. IsForest p (g.A.Monotone.spec a) F) c.in_ok-forest.ensures.algo (c.in_ok-delta.ensures.right p of))
