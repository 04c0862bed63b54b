use Rattle.ris_rounds.proofs.Sittings.{played-start}
use Rattle.ris_rounds.proofs.laws.start_law.Goals as goal

pub returns : goal.returns
returns c = played-start
