use Rattle.ris_rounds.proofs.Tellings.{played-turn}
use Rattle.ris_rounds.proofs.laws.turn_law.Goals as goal

pub returns : goal.returns
returns c = λ ground lists run batch held more outcomes played fronts epoch right. played-turn ground lists run batch held more outcomes played fronts epoch right
