use Rattle.ris_text.specs.Small.{IsSmallReply}
use Rattle.ris_text.proofs.Rest.{all-at}
use Rattle.ris_text.proofs.numbers.read_log.Goals as goal

pub loop-seq-preserved : goal.loop-seq-preserved
loop-seq-preserved c = λ rest.
    c.loop-seq.invariant (all-at IsSmallReply c.args.log.now c.loop-seq.seq c.at.result.now c.at.ensures c.read_reply.ensures rest)
