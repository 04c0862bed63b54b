use Rattle.ris_epoch.proofs.TurnEpochs.{turn-epoch}
use Rattle.ris_epoch.proofs.TurnReaches.{some-turn-reach}
use Rattle.ris_epoch.proofs.TurnVisits.{turn-visits}
use Rattle.ris_epoch.proofs.laws.turn_law.Goals as goal

pub returns : goal.returns
returns c = λ ground records batch more outcomes visits due account.
    let e = turn-epoch ground records batch more outcomes visits due.taken account in (
      e.epoch,
      λ n reach. turn-visits ground records batch more outcomes visits due account e n reach,
      some-turn-reach ground records batch more outcomes visits due account e,
    )
