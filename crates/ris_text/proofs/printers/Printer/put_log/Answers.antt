use Rattle.std.proofs.Common.{arith}
use Rattle.ris_text.proofs.Turns.{next_reply, no_reply}
use Rattle.ris_text.proofs.printers.Printer.put_log.Goals as goal

pub loop-seq-init : goal.loop-seq-init
loop-seq-init c = λ final all. all

pub loop-seq-preserved : goal.loop-seq-preserved
loop-seq-preserved c = λ final rest.
    c.loop-seq.invariant final
    (next_reply c.args.session c.args.log.now c.loop-seq.seq c.at.result.now c.loop-seq.self _ final c.at.ensures c.in_ok-put_reply.ensures rest)

pub returns : goal.returns
returns c = c.loop-seq.invariant _ (no_reply c.args.session c.args.log.now c.loop-seq.seq c.loop-seq.self (omega arith))
