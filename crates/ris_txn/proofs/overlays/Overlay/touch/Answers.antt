use Rattle.std.proofs.Common.{refl, sym, ◌∙◌}
use Rattle.ris_txn.proofs.TouchLemmas.{noted-new}
use Rattle.ris_txn.proofs.overlays.Overlay.touch.Goals as goal

pub returns-in_ok-insert : goal.returns-in_ok-insert
returns-in_ok-insert c =
    noted-new c.args.self.now (record { vertices = c.args.self.now.vertices; triples = c.insert.new.self }) c.args.t c.args.copies refl
    (sym c.contains_key.ensures ∙ c.if-not-contains_key.true) c.in_ok-insert.ensures.updates.0
