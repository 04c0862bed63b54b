use Rattle.std.proofs.Common.{◌∙◌, ap, sym, take}
use Rattle.ris_core.specs.Moves.{sealed_all, sealed_one}
use Rattle.ris_core.proofs.SealMove.{sealed_all-none, sealed_all-push}
use Rattle.ris_core.proofs.Scans.{read-at, take-next}
use Rattle.ris_core.proofs.board.Board.seal_all.Goals as goal

pub loop-decision-init : goal.loop-decision-init
loop-decision-init c = sym (sealed_all-none c.args.self.now)

pub loop-decision-preserved : goal.loop-decision-preserved
loop-decision-preserved c =
    let d = c.decision-item.result in
    let i = c.loop-decision.decision-index in
    let at = read-at c.args.merged.now i d c.loop-decision-test.true c.decision-item.is in
    c.in_ok-seal_one.ensures ∙ ap (λ l. sealed_one l d) c.loop-decision.invariant
    ∙ sym (ap (sealed_all c.args.self.now) (take-next c.args.merged.now i d at) ∙ sealed_all-push c.args.self.now (take i c.args.merged.now) d)
