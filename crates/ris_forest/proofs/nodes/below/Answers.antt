use Rattle.std.proofs.Common.{◌≡◌, ◌<◌, ◌≤◌, ◌^◌, ◌+◌, inl, inr, length, get_or, sym, subst, ◌∙◌, arith}
use Rattle.std.proofs.lemmas.Grind.{get_or_default_zero}
use Rattle.std.proofs.lemmas.List.{length-map}
use Rattle.ris_base.specs.Forest.{vertex_of}
use Rattle.ris_forest.specs.Cells.{forest_of}
use Rattle.ris_forest.specs.Linking.{no_vertex, cells_of, above_of, AreChildren}
use Rattle.ris_forest.specs.Packing.{unpacked}
use Rattle.ris_forest.specs.declared.nodes.Node.{Node}
use Rattle.ris_forest.proofs.LinkLemmas.{child_within, AreChildren-same}
use Rattle.ris_forest.proofs.PlaceLemmas.{above_of-cells}
use Rattle.ris_forest.proofs.WalkLemmas.{IsWalked, IsWalked-start, IsWalked-more, AreBelow-walked, once_below}
use Rattle.ris_forest.proofs.nodes.below.Goals as goal

pub loop-at-init : goal.loop-at-init
loop-at-init c =
    subst (IsWalked (forest_of (cells_of c.args.nodes.now)) c.args.x 0) (sym (rw c.new-found.ensures.items at c.in_ok-push.ensures.items))
    (IsWalked-start (forest_of (cells_of c.args.nodes.now)) c.args.x)

pub loop-at-smaller : goal.loop-at-smaller
loop-at-smaller c =
    let walked = c.loop-at.invariant in
    let size = c.loop-at.found.ok.0 in
    let sound_few = c.requires.sound.few in
    let cells = length-map c.args.nodes.now (λ (n : Node). unpacked n.packed) in
    let few : length c.args.nodes.now ≤ no_vertex = omega arith in
    let below : length c.loop-at.found.items ≤ 2 ^ 32 = once_below c.loop-at.found.items (2 ^ 32) walked.once (λ y h. elim (walked.parents y h) [
      | inl same ↦ omega arith
      | inr up ↦ (let within = child_within c.args.nodes.now (above_of c.args.nodes.now) few c.requires.linked (get_or c.loop-at.found.items up.0 0) y (above_of-cells c.args.nodes.now y ∙ up.2) in omega arith)
    ]) in
    let less : c.loop-at.at < length c.loop-at.found.items = omega arith in
    omega arith

pub loop-at-preserved : goal.loop-at-preserved
loop-at-preserved c =
    let size = c.loop-at.found.ok.0 in
    let less : c.loop-at.at < length c.loop-at.found.items = omega arith in
    let h = c.in_ok-push_children.ensures in
    let vertex : c.index-vertex.result.now ≡ get_or c.loop-at.found.items c.loop-at.at 0 = c.index-vertex.ensures ∙ get_or_default_zero c.loop-at.found.items c.loop-at.at _ less in
    subst (IsWalked (forest_of (cells_of c.args.nodes.now)) c.args.x (c.loop-at.at + 1)) (sym h.grown)
    (IsWalked-more (forest_of (cells_of c.args.nodes.now)) c.args.x c.loop-at.at c.loop-at.found.items h.children c.requires.sound.rooted less
    (AreChildren-same (above_of c.args.nodes.now) (λ y. vertex_of ((forest_of (cells_of c.args.nodes.now)).parent y)) (λ y. sym (above_of-cells c.args.nodes.now y))
    (get_or c.loop-at.found.items c.loop-at.at 0) h.children
    (subst (λ p. AreChildren (above_of c.args.nodes.now) p h.children) vertex h.all)) c.loop-at.invariant)

pub returns : goal.returns
returns c =
    let size = c.loop-at.found.ok.0 in
    AreBelow-walked (forest_of (cells_of c.args.nodes.now)) c.args.x c.loop-at.found.items c.loop-at.at (omega arith) c.loop-at.invariant
