use Rattle.std.proofs.Common.{◌∙◌, ap, subst, sym}
use Rattle.ris_forest.specs.Cells.{Cell, IsSmall}
use Rattle.ris_forest.proofs.TableLemmas.{cell_at-cells_of}
use Rattle.ris_forest.proofs.forests.Forest.value.Goals as goal

pub returns-clause-small : goal.returns-clause-small
returns-clause-small g c =
    subst IsSmall (ap (λ (d : Cell). d.value) (cell_at-cells_of c.self.inside.nodes.items c.args.x) ∙ sym (rw c.deref.ensures.value at c.value_of.ensures))
    (c.self.invariant.sound.small c.args.x)
