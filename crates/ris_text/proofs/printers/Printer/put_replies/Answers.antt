use Rattle.std.proofs.Common.{arith}
use Rattle.ris_text.proofs.Turns.{next_log, no_log}
use Rattle.ris_text.proofs.printers.Printer.put_replies.Goals as goal

pub loop-session-init : goal.loop-session-init
loop-session-init c = λ final all. all

pub loop-session-preserved : goal.loop-session-preserved
loop-session-preserved c = λ final rest.
    c.loop-session.invariant final
    (next_log c.args.logs.now c.loop-session.session c.at.result.now c.loop-session.self _ final c.at.ensures c.in_ok-put_log.ensures rest)

pub returns : goal.returns
returns c = c.loop-session.invariant _ (no_log c.args.logs.now c.loop-session.session c.loop-session.self (omega arith))
