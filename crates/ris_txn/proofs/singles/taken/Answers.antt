use Rattle.std.proofs.Common.{◌-◌, refl}
use Rattle.ris_txn.proofs.SingleLemmas.{copyless-reason, taken-lone}
use Rattle.ris_txn.proofs.singles.taken.Goals as goal

pub returns-then-before-eq0-clause-fault : goal.returns-then-before-eq0-clause-fault
returns-then-before-eq0-clause-fault g c =
    copyless-reason c.args.graph.now c.args.u c.args.v c.args.w (c.in_ok-triple.triple, c.in_ok-triple.before) c.in_ok-triple.ensures.ok c.if-before-eq0.true

pub returns-clause-ok : goal.returns-clause-ok
returns-clause-ok g c =
    taken-lone c.args.graph.now c.args.u c.args.v c.args.w (c.in_ok-triple.triple, c.in_ok-triple.before) c.in_ok-triple.ensures.ok (c.in_ok-triple.before - 1)
    c.if-before-eq0.false refl
