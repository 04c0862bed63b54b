use Rattle.std.proofs.Common.{◌≡◌, ◌-◌, ◌<◌, ◌^◌, ◌++◌, ◌∙◌, replicate, List, length, arith, subst, sym, ap}
use Rattle.std.proofs.lemmas.List.{length-map}
use Rattle.ris_forest.specs.Cells.{Cell, ForestView, absent_cell}
use Rattle.ris_forest.specs.Linking.{cells_of, IsKept}
use Rattle.ris_forest.specs.declared.nodes.Node.{Node}
use Rattle.ris_forest.proofs.KeptLemmas.{IsKept-more, cells_of-more}
use Rattle.ris_forest.proofs.forests.Forest.make_room.Given.{Over}
use Rattle.ris_forest.proofs.forests.Forest.make_room.Goals as goal

-- the longer table keeps what every table does
kept : (g : Over) (c : goal.After-extend g) → IsKept c.extend.new.nodes.items
kept g c =
    subst IsKept (sym c.extend.ensures.nodes)
    (IsKept-more c.self.inside.nodes.items (length c.extend.new.nodes.items - length c.self.inside.nodes.items) c.self.invariant
    (subst (λ (l : List Node). length l < 2 ^ 32) c.extend.ensures.nodes (omega arith)))

pub invariant_of-self : goal.invariant_of-self
invariant_of-self g c = kept g c

pub returns-clause-cells : goal.returns-clause-cells
returns-clause-cells g c =
    let old : cells_of c.self.inside.nodes.items ≡ c.args.self.now.cells = ap (λ (v : ForestView _). v.cells) c.self.view_is in
    let before : length c.self.inside.nodes.items ≡ length c.args.self.now.cells = sym (length-map c.self.inside.nodes.items _) ∙ ap length old in
    let after : length c.extend.new.nodes.items ≡ length (cells_of c.extend.new.nodes.items) = sym (length-map c.extend.new.nodes.items _) in
    ap cells_of c.extend.ensures.nodes ∙ cells_of-more c.self.inside.nodes.items (length c.extend.new.nodes.items - length c.self.inside.nodes.items)
    ∙ ap (λ (l : List Cell). l ++ replicate (length c.extend.new.nodes.items - length c.self.inside.nodes.items) absent_cell) old
    ∙ ap (λ n. c.args.self.now.cells ++ replicate n absent_cell) (let e : length c.extend.new.nodes.items - length c.self.inside.nodes.items ≡ length (cells_of c.extend.new.nodes.items) - length c.args.self.now.cells = omega arith in e)

pub returns-clause-sound : goal.returns-clause-sound
returns-clause-sound g c = (kept g c).sound
