use Rattle.std.proofs.Common.{◌≡◌, ◌-◌, ◌<◌, ◌^◌, ◌++◌, ◌∙◌, [], replicate, List, length, arith, subst, sym, ap}
use Rattle.ris_forest.specs.Linking.{absent_node, cells_of, IsKept}
use Rattle.ris_forest.specs.declared.nodes.Node.{Node}
use Rattle.ris_forest.proofs.KeptLemmas.{IsKept-none, IsKept-more, cells_of-more}
use Rattle.ris_forest.proofs.forests.Forest.start.Given.{Over}
use Rattle.ris_forest.proofs.forests.Forest.start.Goals as goal

-- the table that `start` makes
made : (g : Over) (c : goal.In_ok-extend g) → c.extend.new.nodes.items ≡ [] ++ replicate c.args.size absent_node
made g c =
    let none = c.new-nodes.ensures.items in
    let size : length c.extend.new.nodes.items ≡ c.args.size = c.in_ok-extend.ensures.ok in
    let more : length c.extend.new.nodes.items - length c.new-nodes.result.items ≡ c.args.size = rw none (omega arith) in
    c.extend.ensures.nodes ∙ ap (λ (l : List Node). l ++ replicate (length c.extend.new.nodes.items - length c.new-nodes.result.items) absent_node) none
    ∙ ap (λ n. replicate n absent_node) more

kept : (g : Over) (c : goal.In_ok-extend g) → IsKept c.extend.new.nodes.items
kept g c = subst IsKept (sym (made g c)) (IsKept-more [] c.args.size IsKept-none (subst (λ (l : List Node). length l < 2 ^ 32) (made g c) (let size : length c.extend.new.nodes.items ≡ c.args.size = c.in_ok-extend.ensures.ok in omega arith)))

pub invariant_of-result : goal.invariant_of-result
invariant_of-result g c = kept g c

pub returns-clause-cells : goal.returns-clause-cells
returns-clause-cells g c = ap cells_of (made g c) ∙ cells_of-more [] c.args.size

pub returns-clause-sound : goal.returns-clause-sound
returns-clause-sound g c = (kept g c).sound
