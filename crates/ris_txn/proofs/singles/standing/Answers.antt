use Rattle.ris_txn.proofs.SingleLemmas.{source-reason, target-reason}
use Rattle.ris_txn.proofs.singles.standing.Goals as goal

pub returns-then-not-has_vertex-clause-fault : goal.returns-then-not-has_vertex-clause-fault
returns-then-not-has_vertex-clause-fault g c =
    source-reason c.args.graph.now c.args.u c.args.v c.args.w c.format.result c.format.ensures.value c.in_default.ensures c.if-not-has_vertex.ensures

pub returns-then-not-has_vertex-2-clause-fault : goal.returns-then-not-has_vertex-2-clause-fault
returns-then-not-has_vertex-2-clause-fault g c =
    target-reason c.args.graph.now c.args.u c.args.v c.args.w c.format.result c.format.ensures.value c.in_default.ensures c.if-not-has_vertex.ensures
    c.if-not-has_vertex-2.ensures
