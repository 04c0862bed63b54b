use Rattle.ris_txn.proofs.SingleLemmas.{added-lone}
use Rattle.ris_txn.proofs.singles.added.Goals as goal

pub returns-in-Some-clause-ok : goal.returns-in-Some-clause-ok
returns-in-Some-clause-ok g c =
    added-lone c.args.graph.now c.args.u c.args.v c.args.w (c.in_ok-triple.triple, c.in_ok-triple.before) c.in_ok-triple.ensures.ok c.in-Some.after c.in-Some.ensures.1
