use Rattle.std.proofs.Common.{◌<◌, ◌≤◌, List, take, sym, subst, arith}
use Rattle.std.specs.List.Sorted.{IsPermutation}
use Rattle.std.proofs.lemmas.List.{take_all}
use Rattle.std.proofs.lemmas.List.Sorted.{All-permutation, length_permutation}
use Rattle.ris_base.specs.Limits.{greatest_of}
use Rattle.ris_base.specs.declared.graphs.Triple.{Triple}
use Rattle.ris_graph.specs.GraphView.{IsOf}
use Rattle.ris_graph.specs.Tiles.{tiled}
use Rattle.ris_graph.proofs.StartLemmas.{based, proper-based, IsOf-permuted}
use Rattle.ris_graph.proofs.TileLemmas.{tiled_more, All-tile, tile-fits}
use Rattle.ris_graph.proofs.graphs.Graph.start.Goals as goal

pub append_all-requires : goal.append_all-requires
append_all-requires g c =
    let ts = c.args.base.now in
    let tiles = c.deref-tile-items.result.now in
    let i = c.loop-tile.tile-index in
    let tile = c.tile-item.result in
    let moved : IsPermutation ts (tiled tiles) = rw (← c.deref-tile-items.ensures.value) at c.in_ok-tiles.ensures.same in
    let lt = c.loop-tile-test.true in
    let ends = All-tile (λ (s : Triple). (s.source < c.args.vertices) × (s.target < c.args.vertices)) tiles i tile lt c.tile-item.is
    (All-permutation (λ (s : Triple). (s.source < c.args.vertices) × (s.target < c.args.vertices)) ts (tiled tiles) moved c.requires.ends) in
    let weights = All-tile (λ (s : Triple). s.weight ≤ greatest_of c.args.format) tiles i tile lt c.tile-item.is
    (All-permutation (λ (s : Triple). s.weight ≤ greatest_of c.args.format) ts (tiled tiles) moved c.requires.weights) in
    let fits = tile-fits tiles i tile lt c.tile-item.is in
    let size = length_permutation ts (tiled tiles) moved in
    rw c.deref-in-loop-tile.ensures.value (record {
      plain = based c.args.format c.args.vertices (tiled (take i tiles));
      is = c.loop-tile.invariant;
      proper = proper-based c.args.format c.args.vertices tile.items (tiled (take i tiles)) ends weights;
      few = (let few = c.in_ok-tiles.ensures.few in omega arith);
    })

pub loop-tile-preserved : goal.loop-tile-preserved
loop-tile-preserved g c =
    let tiles = c.deref-tile-items.result.now in
    let i = c.loop-tile.tile-index in
    let tile = c.tile-item.result in
    let added = c.in_ok-append_all.ensures (based c.args.format c.args.vertices (tiled (take i tiles))) c.loop-tile.invariant in
    let seen = tiled_more tiles i tile c.loop-tile-test.true c.tile-item.is in
    subst (λ (l : List Triple). IsOf c.append_all.new.self (based c.args.format c.args.vertices l)) (sym seen) (rw c.deref-in-loop-tile.ensures.value at added)

pub returns : goal.returns
returns g c =
    let ts = c.args.base.now in
    let tiles = c.deref-tile-items.result.now in
    let moved : IsPermutation ts (tiled tiles) = rw (← c.deref-tile-items.ensures.value) at c.in_ok-tiles.ensures.same in
    let whole = take_all c.loop-tile.tile-index tiles c.loop-tile-test.false in
    IsOf-permuted c.loop-tile.graph c.args.format c.args.vertices ts (tiled tiles) moved (rw whole at c.loop-tile.invariant)
    (proper-based c.args.format c.args.vertices ts ts c.requires.ends c.requires.weights)
