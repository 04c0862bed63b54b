use Rattle.ris_rounds.proofs.Endings.{ended-legal, ended-kinds}
use Rattle.ris_rounds.proofs.laws.end_law.Goals as goal

pub returns : goal.returns
returns c = λ ground lists run played done. (ended-legal ground lists run played done, ended-kinds ground lists run played done)
