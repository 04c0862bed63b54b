use Rattle.std.proofs.Common.{◌∙◌, ap, ◌+◌, refl}
use Rattle.ris_txn.proofs.OverlayLemmas.{more-step}
use Rattle.ris_txn.proofs.StepLemmas.{standing}
use Rattle.ris_txn.proofs.overlays.Overlay.add_copy.Goals as goal

pub returns-clause-ok : goal.returns-clause-ok
returns-clause-ok g c =
    let n = c.in_ok-note.note in
    let at = standing c.args.graph.now c.args.self.now c.args.t n c.in_ok-note.ensures in
    more-step c.args.graph.now c.args.self.now c.put_triple.new.self c.args.t c.args.number (record { before = n.before; copies = c.in-Some.copies; part = c.args.number })
    c.requires c.in_ok-put_triple.ensures refl at.before (c.in-Some.ensures.1 ∙ ap (λ k. k + 1) at.copies)
