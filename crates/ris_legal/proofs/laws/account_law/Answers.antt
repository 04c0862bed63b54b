use Rattle.ris_legal.proofs.Legality.{legal}
use Rattle.ris_legal.proofs.laws.account_law.Goals as goal

pub returns : goal.returns
returns c = legal
