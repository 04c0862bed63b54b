use Rattle.ris_graph.proofs.GraphLemmas.{IsOf-room}
use Rattle.ris_replay.proofs.net_tests.commit_net.Goals as goal

pub make_room_for-requires : goal.make_room_for-requires
make_room_for-requires c =
    let of = (c.in-Ok.ensures {u = tt}).of in
    record { plain = c.in-Ok._plain; parts = c.args.parts.now; is = of; net = (c.in_ok-net.ensures {u = tt}).ok c.in-Ok._plain of }

pub commit-requires-clause-of : goal.commit-requires-clause-of
commit-requires-clause-of c =
    let of = (c.in-Ok.ensures {u = tt}).of in
    record {
      plain = c.in-Ok._plain;
      parts = c.args.parts.now;
      is = IsOf-room c.args.graph.now c.make_room_for.new.self c.in-Ok._plain c.make_room_for.ensures.same of;
      net = (c.in_ok-net.ensures {u = tt}).ok c.in-Ok._plain of;
    }
