use Rattle.std.proofs.Common.{◌≡◌, ◌++◌, ◌∙◌, List, length, take, drop, sym, subst, ap}
use Rattle.std.proofs.lemmas.List.{take_at}
use Rattle.ris_forest.specs.Cells.{Cell, ForestView, IsSound}
use Rattle.ris_forest.specs.Commits.{committed}
use Rattle.ris_forest.specs.Linking.{cells_of, IsKept}
use Rattle.ris_forest.specs.declared.nodes.Node.{Node}
use Rattle.ris_forest.proofs.CellLemmas.{IsSound-committed}
use Rattle.ris_forest.proofs.forests.Forest.commit.Given.{Over}
use Rattle.ris_forest.proofs.forests.Forest.commit.Goals as goal

-- the table behind the rows is what `overwrite` leaves, and keeps what every table does
kept : (g : Over) (c : goal.After-self-1 g)
    → IsKept (take c.self.inside.nodes.len (c.overwrite.new.nodes ++ drop (length c.overwrite.new.nodes) c.self.inside.nodes.items))
kept g c =
    let rows = c.args.delta.now in
    let cells : cells_of c.self.inside.nodes.items ≡ c.args.self.now.cells = ap (λ (v : ForestView _). v.cells) c.self.view_is in
    let new : cells_of c.overwrite.new.nodes ≡ committed c.args.self.now.cells rows =
    c.overwrite.ensures.cells ∙ ap (λ (l : List Node). committed (cells_of l) rows) c.deref_mut.ensures.value ∙ ap (λ (l : List Cell). committed l rows) cells in
    let sound : IsSound c.args.self.now.cells = subst IsSound cells c.self.invariant.sound in
    let size : length c.overwrite.new.nodes ≡ c.self.inside.nodes.len = c.overwrite.auto.nodes ∙ c.deref_mut.ensures.len in
    subst IsKept (sym (take_at c.overwrite.new.nodes (drop (length c.overwrite.new.nodes) c.self.inside.nodes.items) c.self.inside.nodes.len size))
    (record {
      sound = subst IsSound (sym new) (IsSound-committed c.args.self.now.cells rows sound c.requires.room c.requires.small c.requires.rooted);
      linked = c.overwrite.ensures.linked;
    })

pub invariant_of-self : goal.invariant_of-self
invariant_of-self g c = kept g c

pub returns-clause-sound : goal.returns-clause-sound
returns-clause-sound g c = (kept g c).sound
