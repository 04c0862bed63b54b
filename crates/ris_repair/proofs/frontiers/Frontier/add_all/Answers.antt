-- One triple more is looked at.
use Rattle.std.proofs.Common.{◌≡◌, ◌+◌, ◌<◌, ◌≤◌, ◌∷◌, List, length, get_or, drop, arith, subst, ap, ◌∙◌}
use Rattle.std.proofs.lemmas.List.{drop_more, drop_all}
use Rattle.std.proofs.lemmas.List.Elements.{All-contains}
use Rattle.std.proofs.lemmas.Option.{gets}
use Rattle.ris_base.specs.Graph.{HasTriple}
use Rattle.ris_base.specs.Limits.{vertex_limit}
use Rattle.ris_forest.specs.Cells.{forest_of}
use Rattle.ris_graph.specs.declared.nets.NetTriple.{NetTriple}
use Rattle.ris_repair.specs.Stages.{IsPrepared, unadded}
use Rattle.ris_repair.specs.Stores.{change_at}
use Rattle.ris_repair.proofs.frontiers.Frontier.add_all.Goals as goal

pub add_triple-requires : goal.add_triple-requires
add_triple-requires g c =
    let xs = c.args.triples.now in
    let k = c.loop-k.k in
    let x = c.at.result.now in
    let lt : k < length xs = (let t = c.loop-k-test.true in omega arith) in
    let read : get_or xs k x ≡ x = grind (arith, gets) in
    let r = c.requires.added in
    record { added = (r.0, r.1, All-contains (λ (n : NetTriple). n.before < n.after → HasTriple r.0 n.triple) xs x r.2 (k, lt, read)) }

pub loop-k-init : goal.loop-k-init
loop-k-init g c = λ graph fallen proper added start. start

pub loop-k-preserved : goal.loop-k-preserved
loop-k-preserved g c = λ graph fallen proper added start.
    let k = c.loop-k.k in
    let xs = c.args.triples.now in
    let x = c.at.result.now in
    let lt : k < length xs = (let t = c.loop-k-test.true in omega arith) in
    let read : get_or xs k x ≡ x = grind (arith, gets) in
    let cons : drop k xs ≡ x ∷ drop (k + 1) xs = drop_more xs k x lt ∙ ap (λ (y : NetTriple). y ∷ drop (k + 1) xs) read in
    let spec = g.A.Monotone.spec c.args.forest.now.algo in
    let F = forest_of c.args.forest.now.cells in
    let n = vertex_limit in
    c.in_ok-add_triple.ensures.kept graph fallen (drop (k + 1) xs) proper
    (All-contains (λ (m : NetTriple). m.before < m.after → HasTriple graph m.triple) xs x added (k, lt, read))
    (subst (λ (l : List NetTriple). IsPrepared graph spec F n fallen (change_at c.loop-k.self.changes) c.loop-k.self.queue (unadded l)) cons
    (c.loop-k.invariant graph fallen proper added start))

pub returns : goal.returns
returns g c = record {
  kept = λ graph fallen proper added start. (
      let all : length c.args.triples.now ≤ c.loop-k.k = (let t = c.loop-k-test.false in omega arith) in
      subst (λ (l : List NetTriple). IsPrepared graph (g.A.Monotone.spec c.args.forest.now.algo) (forest_of c.args.forest.now.cells) vertex_limit fallen
      (change_at c.loop-k.self.changes) c.loop-k.self.queue (unadded l)) (drop_all c.loop-k.k c.args.triples.now all)
      (c.loop-k.invariant graph fallen proper added start));
}
