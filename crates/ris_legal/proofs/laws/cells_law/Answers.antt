use Rattle.ris_legal.proofs.CellSteps.{says-merged}
use Rattle.ris_legal.proofs.laws.cells_law.Goals as goal

pub returns : goal.returns
returns c = λ s order kept phase merge i d at. says-merged s order kept phase merge i d at
