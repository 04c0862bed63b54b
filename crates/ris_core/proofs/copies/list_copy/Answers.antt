use Rattle.ris_core.proofs.Scans.{copied-next}
use Rattle.ris_core.proofs.copies.list_copy.Goals as goal

pub loop-k-preserved : goal.loop-k-preserved
loop-k-preserved g c =
    copied-next c.args.list.now c.push.new.self c.loop-k.copy c.loop-k.k c.at.result.now c.at.ensures c.loop-k.invariant c.in_ok-push.ensures.ok
