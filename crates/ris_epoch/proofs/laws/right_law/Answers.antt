use Rattle.ris_epoch.proofs.TurnRight.{turn-right}
use Rattle.ris_epoch.proofs.laws.right_law.Goals as goal

pub returns : goal.returns
returns c = λ ground records batch more outcomes visits due account. turn-right ground records batch more outcomes visits due account
