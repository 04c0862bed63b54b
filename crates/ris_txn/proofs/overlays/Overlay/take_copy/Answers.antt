use Rattle.std.proofs.Common.{ap, ◌-◌, refl}
use Rattle.ris_txn.proofs.OverlayLemmas.{less-step}
use Rattle.ris_txn.proofs.StepLemmas.{copied-free, copyless-fault, standing}
use Rattle.ris_txn.proofs.overlays.Overlay.take_copy.Goals as goal

pub returns-then-note-eq0-clause-fault : goal.returns-then-note-eq0-clause-fault
returns-then-note-eq0-clause-fault g c = copyless-fault c.args.graph.now c.args.self.now c.args.t c.in_ok-note.note c.in_ok-note.ensures c.if-note-eq0.true

pub returns-clause-ok : goal.returns-clause-ok
returns-clause-ok g c =
    let n = c.in_ok-note.note in
    let at = standing c.args.graph.now c.args.self.now c.args.t n c.in_ok-note.ensures in
    less-step c.args.graph.now c.args.self.now c.put_triple.new.self c.args.t c.args.number (record { before = n.before; copies = n.copies - 1; part = c.args.number })
    c.requires c.in_ok-put_triple.ensures refl at.before (ap (λ k. k - 1) at.copies)

pub returns-clause-free : goal.returns-clause-free
returns-clause-free g c = copied-free c.args.graph.now c.args.self.now c.args.t c.in_ok-note.note c.in_ok-note.ensures c.if-note-eq0.false
