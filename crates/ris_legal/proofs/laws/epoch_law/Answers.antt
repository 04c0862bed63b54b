use Rattle.ris_legal.proofs.Turns.{epoch-run}
use Rattle.ris_legal.proofs.laws.epoch_law.Goals as goal

pub returns : goal.returns
returns c = λ s ground records batch held more outcomes kept has e. epoch-run ground records batch s kept has held more outcomes e
