use Rattle.std.proofs.Common.{◌-◌, ◌+◌, arith}
use Rattle.ris_words.specs.Made.{draw_edges}
use Rattle.ris_words.proofs.MadeLemmas.{edges-step, edges-end}
use Rattle.ris_words.proofs.draws.draw_edges.Goals as goal

pub loop-preserved : goal.loop-preserved
loop-preserved c =
    let all = draw_edges c.args.count c.args.random.now in
    let step = edges-step (c.args.count - c.loop.counter) (c.args.count - (c.loop.counter + 1)) c.loop.random c.draw_edge.new.random c.loop.edges c.push.new.self
    c.draw_edge.result all (omega arith) c.draw_edge.ensures.value c.draw_edge.ensures.rest c.in_ok-push.ensures.ok c.loop.invariant.edges
    c.loop.invariant.rest in
    record { edges = step.0; rest = step.1 }

pub returns-clause-value : goal.returns-clause-value
returns-clause-value c =
    (edges-end c.loop.random c.loop.edges (draw_edges c.args.count c.args.random.now) _ (omega arith) c.loop.invariant.edges c.loop.invariant.rest).0

pub returns-clause-rest : goal.returns-clause-rest
returns-clause-rest c =
    (edges-end c.loop.random c.loop.edges (draw_edges c.args.count c.args.random.now) _ (omega arith) c.loop.invariant.edges c.loop.invariant.rest).1
