use Rattle.std.proofs.Common.{Option, unwrap_or, refl, ap, ◌∙◌}
use Rattle.std.specs.HashMap.{get}
use Rattle.ris_graph.specs.GraphView.{copies_in}
use Rattle.ris_txn.specs.Overlays.{key, same_key, vertex_note, triple_note}
use Rattle.ris_txn.specs.declared.overlays.TripleNote.{TripleNote}
use Rattle.ris_txn.proofs.OverlayLemmas.{unwrap_or-put}
use Rattle.ris_txn.proofs.overlays.Overlay.put_triple.Goals as goal

pub returns : goal.returns
unfolding vertex_note triple_note
returns c = record {
  vertices = λ g x. refl;
  triples = λ g s. (let default : TripleNote = record { before = copies_in g s; copies = copies_in g s; part = 0 } in
      ap (λ (o : Option TripleNote). unwrap_or o default) (c.in_ok-insert.ensures.updates.0 (key s))
      ∙ unwrap_or-put (same_key (key c.args.t) (key s)) c.args.note (get same_key c.args.self.now.triples (key s)) default);
}
