use Rattle.ris_base.specs.Status.{stream_of}
use Rattle.ris_replay.proofs.JobFacts.{bytes-few, taken-fit}
use Rattle.ris_replay.proofs.runs.answer.Goals as goal

pub script_bytes-requires : goal.script_bytes-requires
script_bytes-requires g c = taken-fit c.args.words.now c.in-Ok.job (c.in-Ok.ensures {u = tt}).ok

pub text_of-requires-clause-fit : goal.text_of-requires-clause-fit
text_of-requires-clause-fit g c κs within = taken-fit c.args.words.now c.in-Ok.job (c.in-Ok.ensures {u = tt}).ok

pub text_of-requires-clause-few : goal.text_of-requires-clause-few
text_of-requires-clause-few g c κs within =
    bytes-few (stream_of g.I.Source.left g.I.Source.faults c.args.input.now c.script_bytes.new.input) c.in-Ok.job c.in-Ok-script_bytes.bytes
    (taken-fit c.args.words.now c.in-Ok.job (c.in-Ok.ensures {u = tt}).ok) (c.in-Ok-script_bytes.ensures {u = tt}).bytes
