use Rattle.ris_txn.proofs.OverlayLemmas.{dropped-step}
use Rattle.ris_txn.proofs.overlays.Overlay.drop_vertex.Goals as goal

pub returns-clause-ok : goal.returns-clause-ok
returns-clause-ok g c =
    dropped-step c.args.graph.now c.args.self.now c.put_vertex.new.self c.args.x c.args.number c.requires c.in_ok-put_vertex.ensures
