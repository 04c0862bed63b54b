use Rattle.std.proofs.Common.{Option, unwrap_or, nat_eq, refl, ap, ◌∙◌}
use Rattle.std.specs.HashMap.{get}
use Rattle.ris_graph.specs.GraphView.{vertex_in}
use Rattle.ris_txn.specs.Overlays.{vertex_note, triple_note}
use Rattle.ris_txn.specs.declared.overlays.VertexNote.{VertexNote}
use Rattle.ris_txn.proofs.OverlayLemmas.{unwrap_or-put}
use Rattle.ris_txn.proofs.overlays.Overlay.put_vertex.Goals as goal

pub returns : goal.returns
unfolding vertex_note triple_note
returns c = record {
  vertices = λ g y. (let default : VertexNote = record { dropped = 0; present = vertex_in g y } in
      ap (λ (o : Option VertexNote). unwrap_or o default) (c.in_ok-insert.ensures.updates.0 y)
      ∙ unwrap_or-put (nat_eq c.args.x y) c.args.note (get nat_eq c.args.self.now.vertices y) default);
  triples = λ g t. refl;
}
