use Rattle.std.proofs.Common.{◌≡◌, ◌<◌, ◌≤◌, ◌^◌, length, get_or, sym, subst, arith}
use Rattle.std.proofs.lemmas.List.Elements.{All-contains}
use Rattle.std.proofs.lemmas.Option.{get_or_from_slice_get}
use Rattle.ris_base.specs.Forest.{vertex_of}
use Rattle.ris_forest.specs.Cells.{forest_of}
use Rattle.ris_forest.specs.Growing.{GrowsByMissing}
use Rattle.ris_forest.specs.Linking.{cells_of, above_of}
use Rattle.ris_forest.proofs.PlaceLemmas.{above_of-cells}
use Rattle.ris_forest.proofs.SubtreeLemmas.{IsGrowing, IsGrowing-start, IsGrowing-more, GrowsBelow-growing, GrowsByMissing-same}
use Rattle.ris_forest.proofs.WalkLemmas.{once_below}
use Rattle.ris_forest.proofs.nodes.add_below.Goals as goal

pub loop-at-init : goal.loop-at-init
loop-at-init c =
    let F = forest_of (cells_of c.args.nodes.now) in
    subst (λ n. IsGrowing F c.args.x n c.args.found.now c.insert.new.self) (sym c.len-at.ensures.len)
    (subst (IsGrowing F c.args.x (length c.args.found.now) c.args.found.now) (sym c.in_ok-insert.ensures.ok) (IsGrowing-start F c.args.x c.args.found.now))

pub loop-at-smaller : goal.loop-at-smaller
loop-at-smaller c =
    let size = c.len.ensures.len in
    let most : length c.loop-at.found ≤ 2 ^ 32 = once_below c.loop-at.found (2 ^ 32) c.len.ensures.once (λ y h. All-contains (λ x. x < 2 ^ 32) c.loop-at.found y c.len.ensures.small h) in
    let less = c.loop-at-test.true in
    omega arith

pub loop-at-preserved : goal.loop-at-preserved
loop-at-preserved c =
    let nodes = c.args.nodes.now in
    let found = c.loop-at.found in
    let at = c.loop-at.at in
    let new = c.add_children.new.found in
    let size = c.len.ensures.len in
    let less = c.loop-at-test.true in
    let within : at < length found = omega arith in
    let vertex : get_or found at 0 ≡ c.at-vertex.result = get_or_from_slice_get found at c.at-vertex.result 0 c.at-vertex.ensures in
    IsGrowing-more (forest_of (cells_of nodes)) c.args.x at c.args.found.now found new within c.len.ensures.once
    (GrowsByMissing-same (above_of nodes) (λ y. vertex_of ((forest_of (cells_of nodes)).parent y)) (above_of-cells nodes) (get_or found at 0) found new
    (subst (λ p. GrowsByMissing (above_of nodes) p found new) (sym vertex) c.in_ok-add_children.ensures.ok)) c.loop-at.invariant

pub returns-clause-ok : goal.returns-clause-ok
returns-clause-ok c = λ closed. (let size = c.len.ensures.len in let all = c.loop-at-test.false in
    GrowsBelow-growing (forest_of (cells_of c.args.nodes.now)) c.args.x c.loop-at.at c.args.found.now c.loop-at.found (omega arith) c.len.ensures.once closed c.loop-at.invariant)
