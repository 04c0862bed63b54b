use Rattle.std.proofs.Common.{true, subst}
use Rattle.ris_txn.specs.Overlays.{PutsVertex}
use Rattle.ris_txn.specs.declared.overlays.VertexNote.{VertexNote}
use Rattle.ris_txn.proofs.OverlayLemmas.{added-step}
use Rattle.ris_txn.proofs.overlays.Overlay.add_vertex.Goals as goal

pub returns-in_ok-put_vertex-clause-ok : goal.returns-in_ok-put_vertex-clause-ok
returns-in_ok-put_vertex-clause-ok g c =
    added-step c.args.graph.now c.args.self.now c.put_vertex.new.self c.args.x c.args.number c.requires
    (subst (λ (n : VertexNote). PutsVertex c.args.self.now c.put_vertex.new.self c.args.x (record n { present = true })) c.vertex-note.ensures c.in_ok-put_vertex.ensures)
