use Rattle.ris_legal.proofs.Steps.{opened-state, step-kept}
use Rattle.ris_legal.proofs.laws.step_law.Goals as goal

pub returns : goal.returns
returns c = (λ setup forests opening. opened-state setup forests opening.proper opening.right, step-kept)
