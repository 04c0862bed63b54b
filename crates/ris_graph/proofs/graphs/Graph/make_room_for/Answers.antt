use Rattle.std.proofs.Common.{◌≡◌, ℕ, ◌<◌, ◌≤◌, true, false, List, length, count_by, ◌≢◌, ◌==◌, sym, ap, subst, arith, ◌∙◌}
use Rattle.std.specs.List.{All}
use Rattle.std.proofs.lemmas.Result.{on_ok_weaker}
use Rattle.ris_rows.specs.RowView.{RowView}
use Rattle.ris_graph.specs.GraphView.{GraphView, row_at, HasRoomOf}
use Rattle.ris_graph.specs.Nets.{IsNetOf}
use Rattle.ris_graph.specs.Putting.{HasRows}
use Rattle.ris_graph.specs.Sound.{IsSound}
use Rattle.ris_graph.specs.Tables.{row_of, HasRow, IsRoomier}
use Rattle.ris_graph.specs.declared.nets.Net.{Net}
use Rattle.ris_graph.specs.declared.nets.NetTriple.{NetTriple}
use Rattle.ris_graph.proofs.GraphLemmas.{out_row-is, in_row-is, HasRoomOf-outs, HasRoomOf-ins, HasRoomOf-trans, IsSound-room, IsSized-outs, IsSized-ins, IsOf-room}
use Rattle.ris_graph.proofs.NetLemmas.{few-added, commit-rows}
use Rattle.ris_graph.proofs.RoomLemmas.{All-coming}
use Rattle.ris_graph.proofs.graphs.Graph.make_room_for.Goals as goal

-- each triple of the net whose copies change has its rows in the grown tables
rows : (old now : GraphView) (n : Net) → IsNetOf old n → HasRoomOf old now → IsSound now → All (λ x. x < length now.present) n.added → All (HasRows now.stripes now.ins) n.triples
rows old now n of room sound added = commit-rows now of.plain of.parts n sound.sized (IsOf-room old now of.plain room of.is) of.net added

pub grow-requires : goal.grow-requires
grow-requires g c = few-added c.requires.plain c.requires.parts c.args.net.now c.requires.net

-- more room in the rows of a sound graph
with_outs : (g : GraphView) (stripes : List (List RowView)) → IsSound g → length stripes ≡ length g.stripes → ((u : ℕ) → HasRow g.stripes u → HasRow stripes u)
    → ((u : ℕ) → IsRoomier (row_of g.stripes u) (row_of stripes u)) → HasRoomOf g (record g { stripes = stripes }) × IsSound (record g { stripes = stripes })
with_outs g stripes sound size has more =
    let room = HasRoomOf-outs g stripes more in
    (room, IsSound-room g (record g { stripes = stripes }) (IsSized-outs g stripes size has sound.sized) room sound)

with_ins : (g : GraphView) (ins : List RowView) → IsSound g → length ins ≡ length g.ins → ((v : ℕ) → IsRoomier (row_at g.ins v) (row_at ins v))
    → HasRoomOf g (record g { ins = ins }) × IsSound (record g { ins = ins })
with_ins g ins sound size more =
    let room = HasRoomOf-ins g ins more in
    (room, IsSound-room g (record g { ins = ins }) (IsSized-ins g ins (omega arith) sound.sized) room sound)

pub reserve_outs-requires-clause-rows : goal.reserve_outs-requires-clause-rows
reserve_outs-requires-clause-rows g c =
    let now : GraphView = record { format = c.self.inside.format; stripes = c.self.inside.outs; ins = c.self.inside.ins; present = c.self.inside.present.items } in
    let n : Net = c.args.net.now in
    let room = subst (HasRoomOf c.args.self.now) (sym c.self.view_is) c.in_ok-grow.ensures.same in
    let added = subst (λ (v : GraphView). All (λ x. x < length v.present) n.added) (sym c.self.view_is) c.in_ok-grow.ensures.ok in
    let have = rows c.args.self.now now n c.requires room c.self.invariant added in
    let ends = All-coming true n.triples c.in_ok-sources.sources.items (HasRow c.self.inside.outs) c.in_ok-sources.ensures.counts
    (λ k t lt read other. (let e = sym read in let h = have k t lt in subst (λ (s : NetTriple). s.before ≢ s.after → HasRow c.self.inside.outs s.triple.source) read h.out other)) in
    rw c.deref.ensures.value ends

pub invariant_of-self : goal.invariant_of-self
invariant_of-self g c =
    let now : GraphView = record { format = c.self.inside.format; stripes = c.self.inside.outs; ins = c.self.inside.ins; present = c.self.inside.present.items } in
    let room = subst (HasRoomOf c.args.self.now) (sym c.self.view_is) c.in_ok-grow.ensures.same in
    let one = with_outs now c.reserve_outs.new.outs c.self.invariant c.reserve_outs.ensures.stripes c.reserve_outs.ensures.has_rows c.reserve_outs.ensures.rows in
    one.1

pub returns-in_err-reserve_outs-clause-same : goal.returns-in_err-reserve_outs-clause-same
returns-in_err-reserve_outs-clause-same g c =
    let now : GraphView = record { format = c.self.inside.format; stripes = c.self.inside.outs; ins = c.self.inside.ins; present = c.self.inside.present.items } in
    let room = subst (HasRoomOf c.args.self.now) (sym c.self.view_is) c.in_ok-grow.ensures.same in
    let one = with_outs now c.reserve_outs.new.outs c.self.invariant c.reserve_outs.ensures.stripes c.reserve_outs.ensures.has_rows c.reserve_outs.ensures.rows in
    let mid : GraphView = record now { stripes = c.reserve_outs.new.outs } in
    HasRoomOf-trans c.args.self.now now mid room one.0

pub invariant_of-self-in_err-targets : goal.invariant_of-self-in_err-targets
invariant_of-self-in_err-targets g c =
    let now : GraphView = record { format = c.self.inside.format; stripes = c.self.inside.outs; ins = c.self.inside.ins; present = c.self.inside.present.items } in
    let room = subst (HasRoomOf c.args.self.now) (sym c.self.view_is) c.in_ok-grow.ensures.same in
    let one = with_outs now c.reserve_outs.new.outs c.self.invariant c.reserve_outs.ensures.stripes c.reserve_outs.ensures.has_rows c.reserve_outs.ensures.rows in
    one.1

pub returns-in_err-targets-clause-same : goal.returns-in_err-targets-clause-same
returns-in_err-targets-clause-same g c =
    let now : GraphView = record { format = c.self.inside.format; stripes = c.self.inside.outs; ins = c.self.inside.ins; present = c.self.inside.present.items } in
    let room = subst (HasRoomOf c.args.self.now) (sym c.self.view_is) c.in_ok-grow.ensures.same in
    let one = with_outs now c.reserve_outs.new.outs c.self.invariant c.reserve_outs.ensures.stripes c.reserve_outs.ensures.has_rows c.reserve_outs.ensures.rows in
    let mid : GraphView = record now { stripes = c.reserve_outs.new.outs } in
    HasRoomOf-trans c.args.self.now now mid room one.0

pub reserve_ins-requires-clause-rows : goal.reserve_ins-requires-clause-rows
reserve_ins-requires-clause-rows g c =
    let now : GraphView = record { format = c.self.inside.format; stripes = c.self.inside.outs; ins = c.self.inside.ins; present = c.self.inside.present.items } in
    let n : Net = c.args.net.now in
    let room = subst (HasRoomOf c.args.self.now) (sym c.self.view_is) c.in_ok-grow.ensures.same in
    let added = subst (λ (v : GraphView). All (λ x. x < length v.present) n.added) (sym c.self.view_is) c.in_ok-grow.ensures.ok in
    let have = rows c.args.self.now now n c.requires room c.self.invariant added in
    let ends = All-coming false n.triples c.in_ok-targets.targets.items (λ v. v < length c.self.inside.ins) c.in_ok-targets.ensures.counts
    (λ k t lt read other. (let h = have k t lt in subst (λ (s : NetTriple). s.before ≢ s.after → s.triple.target < length c.self.inside.ins) read h.into other)) in
    rw c.deref-2.ensures.value ends

pub invariant_of-self-2 : goal.invariant_of-self-2
invariant_of-self-2 g c =
    let now : GraphView = record { format = c.self.inside.format; stripes = c.self.inside.outs; ins = c.self.inside.ins; present = c.self.inside.present.items } in
    let room = subst (HasRoomOf c.args.self.now) (sym c.self.view_is) c.in_ok-grow.ensures.same in
    let one = with_outs now c.reserve_outs.new.outs c.self.invariant c.reserve_outs.ensures.stripes c.reserve_outs.ensures.has_rows c.reserve_outs.ensures.rows in
    let mid : GraphView = record now { stripes = c.reserve_outs.new.outs } in
    let two = with_ins mid c.reserve_ins.new.ins one.1 c.reserve_ins.ensures.places c.reserve_ins.ensures.rows in
    two.1

pub returns-clause-room : goal.returns-clause-room
returns-clause-room g c =
    let now : GraphView = record { format = c.self.inside.format; stripes = c.self.inside.outs; ins = c.self.inside.ins; present = c.self.inside.present.items } in
    let n : Net = c.args.net.now in
    let room = subst (HasRoomOf c.args.self.now) (sym c.self.view_is) c.in_ok-grow.ensures.same in
    let added = subst (λ (v : GraphView). All (λ x. x < length v.present) n.added) (sym c.self.view_is) c.in_ok-grow.ensures.ok in
    let one = with_outs now c.reserve_outs.new.outs c.self.invariant c.reserve_outs.ensures.stripes c.reserve_outs.ensures.has_rows c.reserve_outs.ensures.rows in
    let mid : GraphView = record now { stripes = c.reserve_outs.new.outs } in
    let new : GraphView = record mid { ins = c.reserve_ins.new.ins } in
    on_ok_weaker c.reserve_ins.result (λ h. record {
      rows = record {
        outs = λ u. (let counted = c.in_ok-sources.ensures.counts u in let le = c.in_ok-reserve_outs.ensures.room u in
            rw out_row-is (subst (λ n. n ≤ (row_of c.reserve_outs.new.outs u).spare) (ap (count_by (λ y. y == u)) c.deref.ensures.value ∙ counted) le));
        ins = λ v. (let counted = c.in_ok-targets.ensures.counts v in let le = h v in
            rw in_row-is (subst (λ n. n ≤ (row_at c.reserve_ins.new.ins v).spare) (ap (count_by (λ y. y == v)) c.deref-2.ensures.value ∙ counted) le));
      };
      vertices = added;
    }) c.reserve_ins.ensures.room

pub returns-clause-same : goal.returns-clause-same
returns-clause-same g c =
    let now : GraphView = record { format = c.self.inside.format; stripes = c.self.inside.outs; ins = c.self.inside.ins; present = c.self.inside.present.items } in
    let room = subst (HasRoomOf c.args.self.now) (sym c.self.view_is) c.in_ok-grow.ensures.same in
    let one = with_outs now c.reserve_outs.new.outs c.self.invariant c.reserve_outs.ensures.stripes c.reserve_outs.ensures.has_rows c.reserve_outs.ensures.rows in
    let mid : GraphView = record now { stripes = c.reserve_outs.new.outs } in
    let two = with_ins mid c.reserve_ins.new.ins one.1 c.reserve_ins.ensures.places c.reserve_ins.ensures.rows in
    let new : GraphView = record mid { ins = c.reserve_ins.new.ins } in
    HasRoomOf-trans c.args.self.now now new room (HasRoomOf-trans now mid new one.0 two.0)
