use Rattle.std.proofs.Common.{◌∙◌, false, get_or, refl, inr, sym}
use Rattle.std.proofs.lemmas.List.Elements.{Contains-get_or}
use Rattle.ris_base.specs.Requests.{entered}
use Rattle.ris_base.proofs.RequestLemmas.{format-entered}
use Rattle.ris_graph.specs.GraphView.{GraphView, vertex_in, IsOf}
use Rattle.ris_graph.specs.Nets.{IsCommitted}
use Rattle.ris_graph.proofs.GraphLemmas.{vertex_in-is, IsSound-from_IsOf}
use Rattle.ris_graph.proofs.NetLemmas.{IsTurn-back, IsTurned, IsSized-turned, IsOf-turned, CanPut-outs, CanPut-ins, undo-rows, out_room-back, in_room-back, marked-back, placed-after}
use Rattle.ris_graph.proofs.graphs.Graph.undo.Goals as goal

pub put_all-requires-clause-rows : goal.put_all-requires-clause-rows
put_all-requires-clause-rows g c =
    let now : GraphView = record { format = c.self.inside.format; stripes = c.self.inside.outs; ins = c.self.inside.ins; present = c.self.inside.present.items } in
    let n = c.args.net.now in
    let p = c.requires.plain in
    let parts = c.requires.parts in
    let net = c.requires.net in
    let of : IsOf now (entered c.requires.plain c.requires.parts) = rw c.self.view_is c.requires.is in
    let room : IsCommitted now c.args.net.now = rw c.self.view_is c.requires in
    undo-rows now p parts n c.self.invariant.sized of net room.vertices

pub put_all-requires-clause-outs : goal.put_all-requires-clause-outs
put_all-requires-clause-outs g c =
    let now : GraphView = record { format = c.self.inside.format; stripes = c.self.inside.outs; ins = c.self.inside.ins; present = c.self.inside.present.items } in
    let n = c.args.net.now in
    let p = c.requires.plain in
    let parts = c.requires.parts in
    let net = c.requires.net in
    let of : IsOf now (entered c.requires.plain c.requires.parts) = rw c.self.view_is c.requires.is in
    let room : IsCommitted now c.args.net.now = rw c.self.view_is c.requires in
    CanPut-outs now false (entered p parts) p n.triples of (IsTurn-back p parts n net) (out_room-back now n.triples room.rows)

pub put_all-requires-clause-ins : goal.put_all-requires-clause-ins
put_all-requires-clause-ins g c =
    let now : GraphView = record { format = c.self.inside.format; stripes = c.self.inside.outs; ins = c.self.inside.ins; present = c.self.inside.present.items } in
    let n = c.args.net.now in
    let p = c.requires.plain in
    let parts = c.requires.parts in
    let net = c.requires.net in
    let of : IsOf now (entered c.requires.plain c.requires.parts) = rw c.self.view_is c.requires.is in
    let room : IsCommitted now c.args.net.now = rw c.self.view_is c.requires in
    CanPut-ins now false (entered p parts) p n.triples of (IsTurn-back p parts n net) (in_room-back now n.triples room.rows)

pub mark-requires : goal.mark-requires
mark-requires g c = λ k d lt. (
    let now : GraphView = record { format = c.self.inside.format; stripes = c.self.inside.outs; ins = c.self.inside.ins; present = c.self.inside.present.items } in
    let n = c.args.net.now in
    let p = c.requires.plain in
    let parts = c.requires.parts in
    let net = c.requires.net in
    let of : IsOf now (entered c.requires.plain c.requires.parts) = rw c.self.view_is c.requires.is in
    let room : IsCommitted now c.args.net.now = rw c.self.view_is c.requires in
    placed-after now p parts n (get_or n.added k d) of net room.vertices (inr ((net.added (get_or n.added k d)).0 (Contains-get_or n.added k d lt)).0))

pub invariant_of-self : goal.invariant_of-self
invariant_of-self g c =
    let now : GraphView = record { format = c.self.inside.format; stripes = c.self.inside.outs; ins = c.self.inside.ins; present = c.self.inside.present.items } in
    let n = c.args.net.now in
    let p = c.requires.plain in
    let parts = c.requires.parts in
    let net = c.requires.net in
    let of : IsOf now (entered c.requires.plain c.requires.parts) = rw c.self.view_is c.requires.is in
    let new : GraphView = record now { stripes = c.put_all.new.outs; ins = c.put_all.new.ins; present = c.mark-2.new.present.items } in
    let turned : IsTurned now new false c.args.net.now.triples = record {
      format = refl;
      outs = c.put_all.ensures.outs;
      ins = c.put_all.ensures.ins;
      stripes = c.put_all.ensures.stripes;
      has_rows = c.put_all.ensures.has_rows;
      places = c.put_all.ensures.places;
      present = c.mark-2.ensures.places ∙ c.mark.ensures.places;
    } in
    IsSound-from_IsOf new p (IsSized-turned now new false n.triples turned c.self.invariant.sized)
    (IsOf-turned now new false (entered p parts) p n.triples of (IsTurn-back p parts n net) turned
    (sym (format-entered p parts)) net.proper
    (λ x. rw (vertex_in-is, c.mark-2.ensures.marked x, c.mark.ensures.marked x, ← vertex_in-is now x) (marked-back p parts n x (vertex_in now x) net (of.vertices x))))

pub returns : goal.returns
returns g c = record {
  graph = λ p parts is net. (
      let now : GraphView = record { format = c.self.inside.format; stripes = c.self.inside.outs; ins = c.self.inside.ins; present = c.self.inside.present.items } in
      let n = c.args.net.now in
      let of : IsOf now (entered p parts) = rw c.self.view_is is in
      let new : GraphView = record now { stripes = c.put_all.new.outs; ins = c.put_all.new.ins; present = c.mark-2.new.present.items } in
      let turned : IsTurned now new false c.args.net.now.triples = record {
        format = refl;
        outs = c.put_all.ensures.outs;
        ins = c.put_all.ensures.ins;
        stripes = c.put_all.ensures.stripes;
        has_rows = c.put_all.ensures.has_rows;
        places = c.put_all.ensures.places;
        present = c.mark-2.ensures.places ∙ c.mark.ensures.places;
      } in
      (IsOf-turned now new false (entered p parts) p n.triples of (IsTurn-back p parts n net) turned
      (sym (format-entered p parts)) net.proper
      (λ x. rw (vertex_in-is, c.mark-2.ensures.marked x, c.mark.ensures.marked x, ← vertex_in-is now x) (marked-back p parts n x (vertex_in now x) net (of.vertices x)))));
}
