use Rattle.std.proofs.Common.{◌-◌, ◌^◌, ◌<◌, arith}
use Rattle.ris_graph.specs.Appending.{appended}
use Rattle.ris_rows.specs.Neighbours.{copies_of}
use Rattle.ris_graph.specs.GraphView.{GraphView, IsOf, copies_in, in_row}
use Rattle.ris_graph.proofs.GraphLemmas.{present-lt, out_row-is, in_row-is, IsOf-room, IsProperTriple-same, IsSized-inserted, IsOf-inserted, IsSound-from_IsOf}
use Rattle.ris_graph.proofs.graphs.Graph.append.Goals as goal

pub append-requires-clause-row : goal.append-requires-clause-row
append-requires-clause-row g c =
    let now : GraphView = record { format = c.self.inside.format; stripes = c.self.inside.outs; ins = c.self.inside.ins; present = c.self.inside.present.items } in
    let of : IsOf now c.requires.plain = rw c.self.view_is (IsOf-room c.args.self.now c.make_room.new.self c.requires.plain c.in_ok-make_room.ensures.same c.requires.is) in
    c.self.invariant.sized.outs c.args.t.source (present-lt now c.args.t.source ((of.vertices c.args.t.source).1 c.requires.proper.source))

pub append-requires-clause-room : goal.append-requires-clause-room
append-requires-clause-room g c = rw out_row-is at (rw (← c.self.view_is) at c.in_ok-make_room.ensures.out_room)

pub append-requires-clause-few : goal.append-requires-clause-few
append-requires-clause-few g c =
    let now : GraphView = record { format = c.self.inside.format; stripes = c.self.inside.outs; ins = c.self.inside.ins; present = c.self.inside.present.items } in
    let of : IsOf now c.requires.plain = rw c.self.view_is (IsOf-room c.args.self.now c.make_room.new.self c.requires.plain c.in_ok-make_room.ensures.same c.requires.is) in
    let same = of.triples c.args.t in
    let was = c.requires.is.triples c.args.t in
    let few = c.requires.few in
    let fits : copies_in now c.args.t < 2 ^ 64 - 1 = omega arith in
    rw out_row-is at fits

pub append-requires-2-clause-place : goal.append-requires-2-clause-place
append-requires-2-clause-place g c =
    let now : GraphView = record { format = c.self.inside.format; stripes = c.self.inside.outs; ins = c.self.inside.ins; present = c.self.inside.present.items } in
    let of : IsOf now c.requires.plain = rw c.self.view_is (IsOf-room c.args.self.now c.make_room.new.self c.requires.plain c.in_ok-make_room.ensures.same c.requires.is) in
    let target = present-lt now c.args.t.target ((of.vertices c.args.t.target).1 c.requires.proper.target) in
    let size = c.self.invariant.sized.ins in
    omega arith

pub append-requires-2-clause-room : goal.append-requires-2-clause-room
append-requires-2-clause-room g c = rw in_row-is at (rw (← c.self.view_is) at c.in_ok-make_room.ensures.in_room)

pub append-requires-2-clause-few : goal.append-requires-2-clause-few
append-requires-2-clause-few g c =
    let now : GraphView = record { format = c.self.inside.format; stripes = c.self.inside.outs; ins = c.self.inside.ins; present = c.self.inside.present.items } in
    let of : IsOf now c.requires.plain = rw c.self.view_is (IsOf-room c.args.self.now c.make_room.new.self c.requires.plain c.in_ok-make_room.ensures.same c.requires.is) in
    let same = of.transposed c.args.t in
    let was = c.requires.is.triples c.args.t in
    let few = c.requires.few in
    let fits : copies_of (in_row now c.args.t.target).items c.args.t.source c.args.t.weight < 2 ^ 64 - 1 = omega arith in
    rw in_row-is at fits

pub invariant_of-self : goal.invariant_of-self
invariant_of-self g c =
    let now : GraphView = record { format = c.self.inside.format; stripes = c.self.inside.outs; ins = c.self.inside.ins; present = c.self.inside.present.items } in
    let of : IsOf now c.requires.plain = rw c.self.view_is (IsOf-room c.args.self.now c.make_room.new.self c.requires.plain c.in_ok-make_room.ensures.same c.requires.is) in
    let source = present-lt now c.args.t.source ((of.vertices c.args.t.source).1 c.requires.proper.source) in
    let target = present-lt now c.args.t.target ((of.vertices c.args.t.target).1 c.requires.proper.target) in
    let new : GraphView = record now { stripes = c.append.new.self; ins = c.append-2.new.self } in
    IsSound-from_IsOf new (appended c.requires.plain c.args.t)
    (IsSized-inserted now c.args.t c.append.new.self c.append-2.new.self c.self.invariant.sized source target c.append.ensures c.append-2.ensures)
    (IsOf-inserted now c.args.t c.append.new.self c.append-2.new.self c.self.invariant.sized source target c.append.ensures c.append-2.ensures c.requires.plain of c.requires.proper)

pub returns : goal.returns
returns g c p is =
    let now : GraphView = record { format = c.self.inside.format; stripes = c.self.inside.outs; ins = c.self.inside.ins; present = c.self.inside.present.items } in
    let of : IsOf now c.requires.plain = rw c.self.view_is (IsOf-room c.args.self.now c.make_room.new.self c.requires.plain c.in_ok-make_room.ensures.same c.requires.is) in
    let source = present-lt now c.args.t.source ((of.vertices c.args.t.source).1 c.requires.proper.source) in
    let target = present-lt now c.args.t.target ((of.vertices c.args.t.target).1 c.requires.proper.target) in
    let here : IsOf now p = rw c.self.view_is (IsOf-room c.args.self.now c.make_room.new.self p c.in_ok-make_room.ensures.same is) in
    IsOf-inserted now c.args.t c.append.new.self c.append-2.new.self c.self.invariant.sized source target c.append.ensures c.append-2.ensures p here
    (IsProperTriple-same now c.requires.plain p c.args.t of here c.requires.proper)
