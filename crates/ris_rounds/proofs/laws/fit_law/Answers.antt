use Rattle.ris_rounds.proofs.Tellings.{outcome-fits}
use Rattle.ris_rounds.proofs.laws.fit_law.Goals as goal

pub returns : goal.returns
returns c = λ ground lists run batch held more outcomes before rest o played fronts epoch is. outcome-fits ground lists run batch held more outcomes played fronts epoch before rest o is
