use Rattle.std.proofs.Common.{◌∙◌, true, get_or, refl, inl, arith}
use Rattle.std.proofs.lemmas.List.Elements.{Contains-get_or}
use Rattle.ris_base.specs.Requests.{entered}
use Rattle.ris_base.proofs.RequestLemmas.{proper-entered, format-entered}
use Rattle.ris_graph.specs.GraphView.{GraphView, vertex_in, IsOf}
use Rattle.ris_graph.specs.Nets.{HasRoomFor}
use Rattle.ris_graph.proofs.GraphLemmas.{vertex_in-is, IsSound-from_IsOf}
use Rattle.ris_graph.proofs.NetLemmas.{IsTurn-forward, IsTurned, IsSized-turned, IsOf-turned, CanPut-outs, CanPut-ins, commit-rows, out_room-for, in_room-for, HasRowsFor-back, marked-forward, placed-before}
use Rattle.ris_graph.proofs.graphs.Graph.commit.Goals as goal

pub put_all-requires-clause-rows : goal.put_all-requires-clause-rows
put_all-requires-clause-rows g c =
    let now : GraphView = record { format = c.self.inside.format; stripes = c.self.inside.outs; ins = c.self.inside.ins; present = c.self.inside.present.items } in
    let of : IsOf now c.requires.of.plain = rw c.self.view_is c.requires.of.is in
    let room : HasRoomFor now c.args.net.now = rw c.self.view_is c.requires.room in
    commit-rows now c.requires.of.plain c.requires.of.parts c.args.net.now c.self.invariant.sized of c.requires.of.net room.vertices

pub put_all-requires-clause-outs : goal.put_all-requires-clause-outs
put_all-requires-clause-outs g c =
    let now : GraphView = record { format = c.self.inside.format; stripes = c.self.inside.outs; ins = c.self.inside.ins; present = c.self.inside.present.items } in
    let of : IsOf now c.requires.of.plain = rw c.self.view_is c.requires.of.is in
    let n = c.args.net.now in
    let p = c.requires.of.plain in
    let parts = c.requires.of.parts in
    let room : HasRoomFor now c.args.net.now = rw c.self.view_is c.requires.room in
    CanPut-outs now true p (entered p parts) n.triples of (IsTurn-forward p parts n c.requires.of.net) (out_room-for now n.triples room.rows)

pub put_all-requires-clause-ins : goal.put_all-requires-clause-ins
put_all-requires-clause-ins g c =
    let now : GraphView = record { format = c.self.inside.format; stripes = c.self.inside.outs; ins = c.self.inside.ins; present = c.self.inside.present.items } in
    let of : IsOf now c.requires.of.plain = rw c.self.view_is c.requires.of.is in
    let n = c.args.net.now in
    let p = c.requires.of.plain in
    let parts = c.requires.of.parts in
    let room : HasRoomFor now c.args.net.now = rw c.self.view_is c.requires.room in
    CanPut-ins now true p (entered p parts) n.triples of (IsTurn-forward p parts n c.requires.of.net) (in_room-for now n.triples room.rows)

pub mark-requires : goal.mark-requires
mark-requires g c = λ k d lt. (
    let now : GraphView = record { format = c.self.inside.format; stripes = c.self.inside.outs; ins = c.self.inside.ins; present = c.self.inside.present.items } in
    let of : IsOf now c.requires.of.plain = rw c.self.view_is c.requires.of.is in
    let room : HasRoomFor now c.args.net.now = rw c.self.view_is c.requires.room in
    let n = c.args.net.now in
    placed-before now c.requires.of.plain c.requires.of.parts n (get_or n.dropped k d) of c.requires.of.net room.vertices
    (inl ((c.requires.of.net.dropped (get_or n.dropped k d)).0 (Contains-get_or n.dropped k d lt)).0))

pub invariant_of-self : goal.invariant_of-self
invariant_of-self g c =
    let now : GraphView = record { format = c.self.inside.format; stripes = c.self.inside.outs; ins = c.self.inside.ins; present = c.self.inside.present.items } in
    let of : IsOf now c.requires.of.plain = rw c.self.view_is c.requires.of.is in
    let new : GraphView = record now { stripes = c.put_all.new.outs; ins = c.put_all.new.ins; present = c.mark-2.new.present.items } in
    let turned : IsTurned now new true c.args.net.now.triples = record {
      format = refl;
      outs = c.put_all.ensures.outs;
      ins = c.put_all.ensures.ins;
      stripes = c.put_all.ensures.stripes;
      has_rows = c.put_all.ensures.has_rows;
      places = c.put_all.ensures.places;
      present = c.mark-2.ensures.places ∙ c.mark.ensures.places;
    } in
    let n = c.args.net.now in
    let p = c.requires.of.plain in
    let parts = c.requires.of.parts in
    let net = c.requires.of.net in
    IsSound-from_IsOf new (entered p parts) (IsSized-turned now new true n.triples turned c.self.invariant.sized)
    (IsOf-turned now new true p (entered p parts) n.triples of (IsTurn-forward p parts n net) turned
    (format-entered p parts) (proper-entered p parts net.proper)
    (λ x. rw (vertex_in-is, c.mark-2.ensures.marked x, c.mark.ensures.marked x, ← vertex_in-is now x) (marked-forward p parts n x (vertex_in now x) net (of.vertices x))))

pub returns-clause-graph : goal.returns-clause-graph
returns-clause-graph g c p parts is net =
    let now : GraphView = record { format = c.self.inside.format; stripes = c.self.inside.outs; ins = c.self.inside.ins; present = c.self.inside.present.items } in
    let new : GraphView = record now { stripes = c.put_all.new.outs; ins = c.put_all.new.ins; present = c.mark-2.new.present.items } in
    let turned : IsTurned now new true c.args.net.now.triples = record {
      format = refl;
      outs = c.put_all.ensures.outs;
      ins = c.put_all.ensures.ins;
      stripes = c.put_all.ensures.stripes;
      has_rows = c.put_all.ensures.has_rows;
      places = c.put_all.ensures.places;
      present = c.mark-2.ensures.places ∙ c.mark.ensures.places;
    } in
    let n = c.args.net.now in
    let of : IsOf now p = rw c.self.view_is is in
    (IsOf-turned now new true p (entered p parts) n.triples of (IsTurn-forward p parts n net) turned
    (format-entered p parts) (proper-entered p parts net.proper)
    (λ x. rw (vertex_in-is, c.mark-2.ensures.marked x, c.mark.ensures.marked x, ← vertex_in-is now x) (marked-forward p parts n x (vertex_in now x) net (of.vertices x))))

pub returns-clause-back : goal.returns-clause-back
returns-clause-back g c =
    let now : GraphView = record { format = c.self.inside.format; stripes = c.self.inside.outs; ins = c.self.inside.ins; present = c.self.inside.present.items } in
    let of : IsOf now c.requires.of.plain = rw c.self.view_is c.requires.of.is in
    let new : GraphView = record now { stripes = c.put_all.new.outs; ins = c.put_all.new.ins; present = c.mark-2.new.present.items } in
    let turned : IsTurned now new true c.args.net.now.triples = record {
      format = refl;
      outs = c.put_all.ensures.outs;
      ins = c.put_all.ensures.ins;
      stripes = c.put_all.ensures.stripes;
      has_rows = c.put_all.ensures.has_rows;
      places = c.put_all.ensures.places;
      present = c.mark-2.ensures.places ∙ c.mark.ensures.places;
    } in
    let n = c.args.net.now in
    let p = c.requires.of.plain in
    let parts = c.requires.of.parts in
    let net = c.requires.of.net in
    let room : HasRoomFor now c.args.net.now = rw c.self.view_is c.requires.room in
    record {
      plain = p;
      parts = parts;
      is = (IsOf-turned now new true p (entered p parts) n.triples of (IsTurn-forward p parts n net) turned
          (format-entered p parts) (proper-entered p parts net.proper)
          (λ x. rw (vertex_in-is, c.mark-2.ensures.marked x, c.mark.ensures.marked x, ← vertex_in-is now x) (marked-forward p parts n x (vertex_in now x) net (of.vertices x))));
      net = net;
      rows = HasRowsFor-back now new n.triples turned room.rows;
      vertices = λ k d lt. (
          let present = turned.present in
          let low = placed-before now p parts n (get_or n.dropped k d) of net room.vertices (inl ((net.dropped (get_or n.dropped k d)).0 (Contains-get_or n.dropped k d lt)).0) in
          omega arith);
    }
