use Rattle.std.proofs.Common.{arith, count_by}
use Rattle.ris_base.specs.Replies.{is_refused}
use Rattle.ris_text.proofs.Rest.{sum_by-at}
use Rattle.ris_text.proofs.counts.refused_in_all.Goals as goal

pub loop-session-preserved : goal.loop-session-preserved
loop-session-preserved c =
    let step = sum_by-at (count_by is_refused) c.args.logs.now c.loop-session.session c.at.result.now c.at.ensures in
    let total = c.loop-session.invariant in
    let more = c.in-Some.ensures.1 in
    omega (arith, more, c.refused_in.ensures, step, total)
