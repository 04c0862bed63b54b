use Rattle.std.proofs.Common.{subst}
use Rattle.ris_base.proofs.RequestLemmas.{entered-accepted, proper-entered}
use Rattle.ris_base.specs.Graph.{IsProper}
use Rattle.ris_replay.proofs.transcript_tests.Step.entered.Goals as goal

pub invariant_of-result : goal.invariant_of-result
invariant_of-result c =
    let proper = c.self.invariant.1 in
    (proper, subst IsProper (entered-accepted _ _ c.args.parts.now c.in-Ok.ensures.ok) (proper-entered _ c.args.parts.now proper))
