use Rattle.ris_legal.proofs.Steps.{run-legal}
use Rattle.ris_legal.proofs.laws.run_law.Goals as goal

pub returns : goal.returns
returns c = λ setup forests steps new opening run. run-legal setup forests steps new opening.proper opening.right run
