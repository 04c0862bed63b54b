-- One vertex more is pulled.
use Rattle.std.proofs.Common.{◌≡◌, ℕ, ◌+◌, ◌<◌, ◌≤◌, [], ◌∷◌, List, length, get_or, take, drop, arith, subst, ap, ◌∙◌}
use Rattle.std.specs.List.{sum_by}
use Rattle.std.proofs.lemmas.List.{drop_more, drop_all}
use Rattle.std.proofs.lemmas.List.Sums.{sum_by_more, sum_by_more_le, sum_by-take-le}
use Rattle.std.proofs.lemmas.Option.{gets}
use Rattle.ris_base.specs.Limits.{vertex_limit}
use Rattle.ris_forest.specs.Cells.{forest_of}
use Rattle.ris_repair.specs.Changes.{AreQueuedBut}
use Rattle.ris_repair.specs.Rows.{origin_count}
use Rattle.ris_repair.specs.Stages.{IsPrepared, unpulled}
use Rattle.ris_repair.specs.Stores.{change_at}
use Rattle.ris_repair.proofs.PullLemmas.{unpulled_next, unpulled_done}
use Rattle.ris_repair.proofs.RiseLemmas.{rise_none, rise_more, rise_within}
use Rattle.ris_repair.proofs.frontiers.Frontier.pull_all.Goals as goal

pub loop-k-init : goal.loop-k-init
loop-k-init g c = record {
  ticks = rise_none (g.M.Meter.ticks c.args.meter.now) (sum_by (origin_count g.A.Monotone.BOTH_WAYS c.args.graph.now) (take 0 c.args.fallen.now));
  stays = λ x has. has;
  queued = λ before. before;
  kept = λ p graph due queue of has start. (queue, start);
}

pub loop-k-preserved : goal.loop-k-preserved
loop-k-preserved g c =
    let k = c.loop-k.k in
    let xs = c.args.fallen.now in
    let x = c.at.result.now in
    let lt : k < length xs = (let t = c.loop-k-test.true in omega arith) in
    let read : get_or xs k x ≡ x = grind (arith, gets) in
    let cons : drop k xs ≡ x ∷ drop (k + 1) xs = drop_more xs k x lt ∙ ap (λ (y : ℕ). y ∷ drop (k + 1) xs) read in
    let both = g.A.Monotone.BOTH_WAYS in
    let spec = g.A.Monotone.spec c.args.forest.now.algo in
    let F = forest_of c.args.forest.now.cells in
    let n = vertex_limit in
    let more = sum_by_more (origin_count both c.args.graph.now) xs k x lt in
    let here = ap (origin_count both c.args.graph.now) read in
    record {
      ticks = rise_more (g.M.Meter.ticks c.args.meter.now) (g.M.Meter.ticks c.loop-k.meter) (g.M.Meter.ticks c.pull_vertex.new.meter)
          (sum_by (origin_count both c.args.graph.now) (take k xs)) (origin_count both c.args.graph.now x) (sum_by (origin_count both c.args.graph.now) (take (k + 1) xs))
          c.loop-k.invariant.ticks c.pull_vertex.ensures.ticks (omega arith);
      stays = λ y has. c.in_ok-pull_vertex.ensures.stays y (c.loop-k.invariant.stays y has);
      queued = λ start. c.in_ok-pull_vertex.ensures.queued (drop (k + 1) xs)
          (subst (λ (l : List ℕ). AreQueuedBut spec.kind l (change_at c.loop-k.self.changes) c.loop-k.self.queue) cons (c.loop-k.invariant.queued start));
      kept = λ p graph due queue of has start.
          let before = c.loop-k.invariant.kept p graph due queue of has start in
          let pulled = c.in_ok-pull_vertex.ensures.kept p graph due (drop (k + 1) xs) before.0 of (c.loop-k.invariant.stays x (has x (k, lt, read)))
          (unpulled_next c.args.graph.now graph spec F n due (change_at c.loop-k.self.changes) before.0 p both of
          (g.met.A.Monotone.of_table c.args.forest.now.algo).ways x (drop (k + 1) xs)
          (subst (λ (l : List ℕ). IsPrepared graph spec F n due (change_at c.loop-k.self.changes) before.0 (unpulled p 0 [] l)) cons before.1)) in
          (pulled.0, unpulled_done graph spec F n due (change_at c.pull_vertex.new.self.changes) pulled.0 p x 0 (drop (k + 1) xs) pulled.1);
    }

pub returns-in_err-pull_vertex-clause-ticks : goal.returns-in_err-pull_vertex-clause-ticks
returns-in_err-pull_vertex-clause-ticks g c =
    let k = c.loop-k.k in
    let xs = c.args.fallen.now in
    let x = c.at.result.now in
    let lt : k < length xs = (let t = c.loop-k-test.true in omega arith) in
    let read : get_or xs k x ≡ x = grind (arith, gets) in
    let both = g.A.Monotone.BOTH_WAYS in
    let more = sum_by_more_le (origin_count both c.args.graph.now) xs k x lt in
    let here = ap (origin_count both c.args.graph.now) read in
    rise_more (g.M.Meter.ticks c.args.meter.now) (g.M.Meter.ticks c.loop-k.meter) (g.M.Meter.ticks c.pull_vertex.new.meter)
    (sum_by (origin_count both c.args.graph.now) (take k xs)) (origin_count both c.args.graph.now x) (sum_by (origin_count both c.args.graph.now) xs)
    c.loop-k.invariant.ticks c.pull_vertex.ensures.ticks (omega arith)

pub returns-clause-ticks : goal.returns-clause-ticks
returns-clause-ticks g c =
    let f = origin_count g.A.Monotone.BOTH_WAYS c.args.graph.now in
    rise_within (g.M.Meter.ticks c.args.meter.now) (g.M.Meter.ticks c.loop-k.meter) (sum_by f (take c.loop-k.k c.args.fallen.now)) (sum_by f c.args.fallen.now)
    c.loop-k.invariant.ticks (sum_by-take-le f c.args.fallen.now c.loop-k.k)

pub returns-clause-queued : goal.returns-clause-queued
returns-clause-queued g c = λ start.
    let all : length c.args.fallen.now ≤ c.loop-k.k = (let t = c.loop-k-test.false in omega arith) in
    subst (λ (l : List ℕ). AreQueuedBut (g.A.Monotone.spec c.args.forest.now.algo).kind l (change_at c.loop-k.self.changes) c.loop-k.self.queue) (drop_all c.loop-k.k c.args.fallen.now all)
    (c.loop-k.invariant.queued start)

pub returns-clause-kept : goal.returns-clause-kept
returns-clause-kept g c = λ p graph due queue of has start.
    let all : length c.args.fallen.now ≤ c.loop-k.k = (let t = c.loop-k-test.false in omega arith) in
    let after = c.loop-k.invariant.kept p graph due queue of has start in (
      after.0,
      subst (λ (l : List ℕ). IsPrepared graph (g.A.Monotone.spec c.args.forest.now.algo) (forest_of c.args.forest.now.cells) vertex_limit due
          (change_at c.loop-k.self.changes) after.0 (unpulled p 0 [] l)) (drop_all c.loop-k.k c.args.fallen.now all) after.1,
    )
