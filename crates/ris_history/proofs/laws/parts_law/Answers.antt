use Rattle.ris_history.proofs.PartLaws.{parts}
use Rattle.ris_history.proofs.laws.parts_law.Goals as goal

pub returns : goal.returns
returns c = parts
