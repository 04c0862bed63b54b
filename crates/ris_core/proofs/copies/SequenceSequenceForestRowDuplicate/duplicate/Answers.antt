use Rattle.std.proofs.Common.{◌++◌, ◌∷◌, [], ap, ◌∙◌}
use Rattle.ris_core.proofs.Scans.{copied-next}
use Rattle.ris_core.proofs.copies.SequenceSequenceForestRowDuplicate.duplicate.Goals as goal

pub loop-k-preserved : goal.loop-k-preserved
loop-k-preserved c =
    copied-next c.args.self.now c.push.new.self c.loop-k.tables c.loop-k.k c.at.result.now c.at.ensures c.loop-k.invariant
    (c.in_ok-push.ensures.ok ∙ ap (λ rows. c.loop-k.tables ++ rows ∷ []) c.in_ok-rows.ensures)
