use Rattle.std.proofs.Common.{subst, arith, Result, Ok, Err, OnOk}
use Rattle.std.proofs.lemmas.Result.{on_ok_weaker}
use Rattle.ris_graph.specs.GraphView.{GraphView, HasRoomOf}
use Rattle.ris_graph.proofs.GraphLemmas.{present-lt, out_row-is, in_row-is, IsSound-outs, IsSound-ins, HasRoomOf-trans}
use Rattle.ris_graph.proofs.graphs.Graph.reserve.Goals as goal

pub reserve-requires : goal.reserve-requires
reserve-requires g c =
    let now : GraphView = record { format = c.self.inside.format; stripes = c.self.inside.outs; ins = c.self.inside.ins; present = c.self.inside.present.items } in
    c.self.invariant.sized.outs c.args.source (present-lt now c.args.source (rw c.self.view_is c.requires.source))

pub invariant_of-self : goal.invariant_of-self
invariant_of-self g c =
    let now : GraphView = record { format = c.self.inside.format; stripes = c.self.inside.outs; ins = c.self.inside.ins; present = c.self.inside.present.items } in
    let one = IsSound-outs now c.reserve.new.self c.args.source c.self.invariant c.reserve.ensures.table c.reserve.ensures.row in
    let mid : GraphView = record now { stripes = c.reserve.new.self } in
    one.1

pub returns-in_err-reserve-clause-same : goal.returns-in_err-reserve-clause-same
returns-in_err-reserve-clause-same g c =
    let now : GraphView = record { format = c.self.inside.format; stripes = c.self.inside.outs; ins = c.self.inside.ins; present = c.self.inside.present.items } in
    let one = IsSound-outs now c.reserve.new.self c.args.source c.self.invariant c.reserve.ensures.table c.reserve.ensures.row in
    let mid : GraphView = record now { stripes = c.reserve.new.self } in
    subst (λ (v : GraphView). HasRoomOf v mid) c.self.view_is one.0

pub reserve-requires-2 : goal.reserve-requires-2
reserve-requires-2 g c =
    let now : GraphView = record { format = c.self.inside.format; stripes = c.self.inside.outs; ins = c.self.inside.ins; present = c.self.inside.present.items } in
    let lt = present-lt now c.args.target (rw c.self.view_is c.requires.target) in
    let ins = c.self.invariant.sized.ins in
    omega arith

pub invariant_of-self-2 : goal.invariant_of-self-2
invariant_of-self-2 g c =
    let now : GraphView = record { format = c.self.inside.format; stripes = c.self.inside.outs; ins = c.self.inside.ins; present = c.self.inside.present.items } in
    let one = IsSound-outs now c.reserve.new.self c.args.source c.self.invariant c.reserve.ensures.table c.reserve.ensures.row in
    let mid : GraphView = record now { stripes = c.reserve.new.self } in
    let two = IsSound-ins mid c.reserve-2.new.self c.args.target one.1 c.reserve-2.ensures.table c.reserve-2.ensures.row in
    let new : GraphView = record mid { ins = c.reserve-2.new.self } in
    two.1

-- what holds whatever a call answers
on_ok_always : {T E : Type 0} (r : Result T E) (P : Type 0) → P → OnOk r P
on_ok_always (Ok x) P p = p
on_ok_always (Err e) P p = tt

pub returns-clause-out_room : goal.returns-clause-out_room
returns-clause-out_room g c = on_ok_always c.reserve-2.result _ (rw out_row-is c.in_ok-reserve.ensures.room)

pub returns-clause-in_room : goal.returns-clause-in_room
returns-clause-in_room g c = on_ok_weaker c.reserve-2.result (λ h. rw in_row-is h) c.reserve-2.ensures.room

pub returns-clause-same : goal.returns-clause-same
returns-clause-same g c =
    let now : GraphView = record { format = c.self.inside.format; stripes = c.self.inside.outs; ins = c.self.inside.ins; present = c.self.inside.present.items } in
    let one = IsSound-outs now c.reserve.new.self c.args.source c.self.invariant c.reserve.ensures.table c.reserve.ensures.row in
    let mid : GraphView = record now { stripes = c.reserve.new.self } in
    let two = IsSound-ins mid c.reserve-2.new.self c.args.target one.1 c.reserve-2.ensures.table c.reserve-2.ensures.row in
    let new : GraphView = record mid { ins = c.reserve-2.new.self } in
    subst (λ (v : GraphView). HasRoomOf v new) c.self.view_is (HasRoomOf-trans now mid new one.0 two.0)
