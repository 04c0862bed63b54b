use Rattle.ris_text.specs.Small.{IsSmallLog}
use Rattle.ris_text.proofs.Rest.{all-at}
use Rattle.ris_text.proofs.numbers.read_logs.Goals as goal

pub loop-session-preserved : goal.loop-session-preserved
loop-session-preserved c = λ rest.
    c.loop-session.invariant (all-at IsSmallLog c.args.logs.now c.loop-session.session c.at.result.now c.at.ensures c.read_log.ensures rest)
