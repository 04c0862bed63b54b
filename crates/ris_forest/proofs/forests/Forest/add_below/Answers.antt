use Rattle.std.proofs.Common.{List, OnOk, subst}
use Rattle.ris_forest.specs.Cells.{ForestView, forest_of}
use Rattle.ris_forest.specs.Growing.{IsClosed, GrowsBelow}
use Rattle.ris_forest.specs.Linking.{cells_of}
use Rattle.ris_forest.specs.declared.nodes.Node.{Node}
use Rattle.ris_forest.proofs.forests.Forest.add_below.Goals as goal

pub returns-clause-ok : goal.returns-clause-ok
returns-clause-ok g c =
    subst (λ (v : ForestView _). OnOk c.add_below.result (IsClosed (forest_of v.cells) c.args.found.now → GrowsBelow (forest_of v.cells) c.args.x c.args.found.now c.add_below.new.found)) c.self.view_is
    (subst (λ (l : List Node). OnOk c.add_below.result (IsClosed (forest_of (cells_of l)) c.args.found.now → GrowsBelow (forest_of (cells_of l)) c.args.x c.args.found.now c.add_below.new.found))
    c.deref.ensures.value c.add_below.ensures.ok)
