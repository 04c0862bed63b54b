use Rattle.ris_replay.proofs.RunFacts.{script-readable}
use Rattle.ris_replay.proofs.transcript_tests.opened.Goals as goal

pub opening-requires : goal.opening-requires
opening-requires c = (script-readable 3 c.args.bytes.now c.in-Ok.script c.in-Ok.ensures.reads).opening
