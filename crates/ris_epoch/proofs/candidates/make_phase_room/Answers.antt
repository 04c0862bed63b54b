use Rattle.std.proofs.Common.{subst}
use Rattle.ris_graph.specs.Phase.{HasEnds}
use Rattle.ris_epoch.proofs.CandidateFacts.{sound-ends, sound-of}
use Rattle.ris_epoch.proofs.candidates.make_phase_room.Goals as goal

pub make_room-requires-clause-source : goal.make_room-requires-clause-source
make_room-requires-clause-source g c =
    let sound = sound-of c.requires.0 c.requires.1 c.requires.2 c.args.update c.requires.4 in
    (subst (HasEnds c.args.graph.now) c.in-AddE.is (sound-ends c.args.graph.now c.requires.0 c.args.update c.requires.3 sound)).0

pub make_room-requires-clause-target : goal.make_room-requires-clause-target
make_room-requires-clause-target g c =
    let sound = sound-of c.requires.0 c.requires.1 c.requires.2 c.args.update c.requires.4 in
    (subst (HasEnds c.args.graph.now) c.in-AddE.is (sound-ends c.args.graph.now c.requires.0 c.args.update c.requires.3 sound)).1
