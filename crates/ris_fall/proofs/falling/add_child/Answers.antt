use Rattle.std.proofs.Common.{◌≡◌, true, sym, ◌∙◌}
use Rattle.ris_base.specs.Safe.{is_along}
use Rattle.ris_forest.specs.Cells.{forest_of}
use Rattle.ris_fall.proofs.GatheringLemmas.{Gathers-hung}
use Rattle.ris_fall.proofs.falling.add_child.Goals as goal

pub returns : goal.returns
returns g c =
    let F = forest_of c.args.forest.now.cells in
    let hangs : is_along c.args.t (F.parent c.args.end) ≡ true = sym c.hangs_by.ensures.along ∙ c.if-not-hangs_by.false in
    Gathers-hung F c.args.t c.args.end c.args.found.now c.add_below.new.found hangs (c.in_ok-add_below.ensures.ok c.requires)
