use Rattle.ris_rounds.proofs.Sittings.{played-submit}
use Rattle.ris_rounds.proofs.laws.submit_law.Goals as goal

pub returns : goal.returns
returns c = λ ground lists run n r played less next. played-submit ground lists run n played less r next
