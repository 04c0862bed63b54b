-- A vertex is taken, has its value, and its neighbours are handed out.
use Rattle.std.proofs.Common.{ℕ, List, Option, arith, refl, subst}
use Rattle.ris_base.specs.Falling.{push}
use Rattle.ris_base.specs.Limits.{vertex_limit}
use Rattle.ris_base.specs.declared.graphs.PlainGraph.{PlainGraph}
use Rattle.ris_algo.specs.Spreading.{nothing, in_row}
use Rattle.ris_algo.proofs.Covered.{sum_where}
use Rattle.ris_forest.specs.Cells.{forest_of}
use Rattle.ris_graph.specs.GraphView.{IsOf}
use Rattle.ris_repair.specs.Changes.{is_settled}
use Rattle.ris_repair.specs.Rows.{end_count, ends_of}
use Rattle.ris_repair.specs.Stages.{IsPushing}
use Rattle.ris_repair.specs.Stores.{change_at}
use Rattle.ris_repair.specs.declared.stores.Change.{Change}
use Rattle.ris_repair.proofs.PushLemmas.{next_small, next_pushes, next_settled, row_done, settled_rise, with_queue}
use Rattle.ris_repair.proofs.OfferLemmas.{same_changes}
use Rattle.ris_repair.proofs.RiseLemmas.{rise_none, rise_more}
use Rattle.ris_repair.proofs.RowLemmas.{end_count-push}
use Rattle.ris_repair.proofs.frontiers.Frontier.push_all.Goals as goal

pub loop-vertex-init : goal.loop-vertex-init
loop-vertex-init g c = record {
  queued = c.requires.on.3.carried.queued;
  kept = λ graph fallen of start. (
    start,
    rise_none (g.M.Meter.ticks c.args.meter.now)
        (sum_where (λ x. is_settled (change_at c.args.self.now.changes x)) (push graph (g.A.Monotone.spec c.args.forest.now.algo)) vertex_limit),
  );
}

pub push_vertex-requires-clause-of : goal.push_vertex-requires-clause-of
push_vertex-requires-clause-of g c κs within = (c.requires.on.0, c.requires.on.2)

pub push_vertex-requires-clause-number : goal.push_vertex-requires-clause-number
push_vertex-requires-clause-number g c κs within =
    let on = c.requires.on in
    next_small c.args.graph.now on.0 (g.A.Monotone.spec c.args.forest.now.algo) (forest_of c.args.forest.now.cells) vertex_limit on.1
    (change_at c.loop-vertex.self.changes) (change_at c.take_best.new.self.changes) c.loop-vertex.self.queue c.take_best.new.self.queue c.in-Some.vertex c.in-Some.number on.2
    (c.loop-vertex.invariant.kept on.0 on.1 on.2 on.3).0 (rw c.in-Some.is at c.in_ok-vertex.ensures.next) (rw c.in-Some.is at c.in_ok-vertex.ensures.small)

pub loop-vertex-smaller : goal.loop-vertex-smaller
loop-vertex-smaller g c =
    let on = c.requires.on in
    let spec = g.A.Monotone.spec c.args.forest.now.algo in
    let step = next_settled c.args.graph.now on.0 spec (forest_of c.args.forest.now.cells) vertex_limit on.1
    (change_at c.loop-vertex.self.changes) (change_at c.take_best.new.self.changes) c.loop-vertex.self.queue c.take_best.new.self.queue c.in-Some.vertex c.in-Some.number on.2
    (c.loop-vertex.invariant.kept on.0 on.1 on.2 on.3).0 (rw c.in-Some.is at c.in_ok-vertex.ensures.next) (rw c.in-Some.is at c.in_ok-vertex.ensures.small)
    (change_at c.push_vertex.new.self.changes) (push on.0 spec) (rw c.look_ahead.ensures at c.push_vertex.ensures.settled) in
    let one = step.1 in
    omega arith

pub loop-vertex-preserved : goal.loop-vertex-preserved
loop-vertex-preserved g c =
    let on = c.requires.on in
    let spec = g.A.Monotone.spec c.args.forest.now.algo in
    let F = forest_of c.args.forest.now.cells in
    let n = vertex_limit in
    let old = change_at c.loop-vertex.self.changes in
    let mid = change_at c.take_best.new.self.changes in
    let last = change_at c.push_vertex.new.self.changes in
    let v = c.in-Some.vertex in
    let number = c.in-Some.number in
    let ways = (g.met.A.Monotone.of_table c.args.forest.now.algo).ways in
    let after = λ (graph : PlainGraph) (fallen : List ℕ) (of : IsOf c.args.graph.now graph)
    (start : IsPushing graph spec F n fallen (change_at c.args.self.now.changes) c.args.self.now.queue nothing). row_done graph spec F n fallen last c.push_vertex.new.self.queue v number
    ((rw c.look_ahead.ensures at c.in_ok-push_vertex.ensures.kept) graph fallen of
    (next_pushes c.args.graph.now graph spec F n fallen old mid c.loop-vertex.self.queue c.take_best.new.self.queue v number of
    (c.loop-vertex.invariant.kept graph fallen of start).0 (rw c.in-Some.is at c.in_ok-vertex.ensures.next) (rw c.in-Some.is at c.in_ok-vertex.ensures.small) g.A.Monotone.BOTH_WAYS ways c.take_best.ensures.queued)) in
    record {
      queued = (after on.0 on.1 on.2 on.3).carried.queued;
      kept = λ graph fallen of start. (
        after graph fallen of start,
        (let before = c.loop-vertex.invariant.kept graph fallen of start in
            let step = next_settled c.args.graph.now graph spec F n fallen old mid c.loop-vertex.self.queue c.take_best.new.self.queue v number of before.0
            (rw c.in-Some.is at c.in_ok-vertex.ensures.next) (rw c.in-Some.is at c.in_ok-vertex.ensures.small) last (push graph spec) (rw c.look_ahead.ensures at c.push_vertex.ensures.settled) in
            let one = step.0 in
            let size = end_count-push c.args.graph.now graph of g.A.Monotone.BOTH_WAYS spec ways v in
            rise_more (g.M.Meter.ticks c.args.meter.now) (g.M.Meter.ticks c.loop-vertex.meter) (g.M.Meter.ticks c.push_vertex.new.meter)
            (sum_where (λ x. is_settled (old x)) (push graph spec) n) (end_count g.A.Monotone.BOTH_WAYS c.args.graph.now v)
            (sum_where (λ x. is_settled (last x)) (push graph spec) n) before.1 c.push_vertex.ensures.ticks (omega arith)),
      );
    }

pub returns-clause-kept : goal.returns-clause-kept
returns-clause-kept g c = λ graph fallen of start.
    let spec = g.A.Monotone.spec c.args.forest.now.algo in
    let F = forest_of c.args.forest.now.cells in
    let n = vertex_limit in
    with_queue graph spec F n fallen (change_at c.take_best.new.self.changes) c.loop-vertex.self.queue c.take_best.new.self.queue nothing
    (subst (λ (f : ℕ → Option Change). IsPushing graph spec F n fallen f c.loop-vertex.self.queue nothing)
    (same_changes (change_at c.loop-vertex.self.changes) (change_at c.take_best.new.self.changes) (rw c.in_default.is at c.in_ok-vertex.ensures.same))
    (c.loop-vertex.invariant.kept graph fallen of start).0)
    c.take_best.ensures.queued

pub returns-clause-visits : goal.returns-clause-visits
returns-clause-visits g c = λ graph fallen xs of start covers.
    let before = c.loop-vertex.invariant.kept graph fallen of start in
    settled_rise c.args.graph.now graph (g.A.Monotone.spec c.args.forest.now.algo) (forest_of c.args.forest.now.cells) vertex_limit fallen
    (change_at c.loop-vertex.self.changes) c.loop-vertex.self.queue nothing xs (g.M.Meter.ticks c.args.meter.now) (g.M.Meter.ticks c.loop-vertex.meter) before.0 covers before.1

pub returns-in_err-push_vertex-clause-visits : goal.returns-in_err-push_vertex-clause-visits
returns-in_err-push_vertex-clause-visits g c = λ graph fallen xs of start covers.
    let spec = g.A.Monotone.spec c.args.forest.now.algo in
    let F = forest_of c.args.forest.now.cells in
    let n = vertex_limit in
    let old = change_at c.loop-vertex.self.changes in
    let mid = change_at c.take_best.new.self.changes in
    let v = c.in-Some.vertex in
    let number = c.in-Some.number in
    let ways = (g.met.A.Monotone.of_table c.args.forest.now.algo).ways in
    let both = g.A.Monotone.BOTH_WAYS in
    let before = c.loop-vertex.invariant.kept graph fallen of start in
    let taken = next_pushes c.args.graph.now graph spec F n fallen old mid c.loop-vertex.self.queue c.take_best.new.self.queue v number of before.0
    (rw c.in-Some.is at c.in_ok-vertex.ensures.next) (rw c.in-Some.is at c.in_ok-vertex.ensures.small) both ways c.take_best.ensures.queued in
    let step = next_settled c.args.graph.now graph spec F n fallen old mid c.loop-vertex.self.queue c.take_best.new.self.queue v number of before.0
    (rw c.in-Some.is at c.in_ok-vertex.ensures.next) (rw c.in-Some.is at c.in_ok-vertex.ensures.small) mid (push graph spec) (λ x. refl) in
    let one = step.0 in
    let size = end_count-push c.args.graph.now graph of both spec ways v in
    settled_rise c.args.graph.now graph spec F n fallen mid c.take_best.new.self.queue (in_row v (ends_of both c.args.graph.now v)) xs
    (g.M.Meter.ticks c.args.meter.now) (g.M.Meter.ticks c.push_vertex.new.meter) taken.pushing covers
    (rise_more (g.M.Meter.ticks c.args.meter.now) (g.M.Meter.ticks c.loop-vertex.meter) (g.M.Meter.ticks c.push_vertex.new.meter)
    (sum_where (λ x. is_settled (old x)) (push graph spec) n) (end_count both c.args.graph.now v)
    (sum_where (λ x. is_settled (mid x)) (push graph spec) n) before.1 c.push_vertex.ensures.ticks (omega arith))

pub returns-in_err-vertex-clause-visits : goal.returns-in_err-vertex-clause-visits
returns-in_err-vertex-clause-visits g c = λ graph fallen xs of start covers.
    let before = c.loop-vertex.invariant.kept graph fallen of start in
    settled_rise c.args.graph.now graph (g.A.Monotone.spec c.args.forest.now.algo) (forest_of c.args.forest.now.cells) vertex_limit fallen
    (change_at c.loop-vertex.self.changes) c.loop-vertex.self.queue nothing xs (g.M.Meter.ticks c.args.meter.now) (g.M.Meter.ticks c.loop-vertex.meter) before.0 covers before.1
