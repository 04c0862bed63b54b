use Rattle.ris_rounds.proofs.Sittings.{played-answer}
use Rattle.ris_rounds.proofs.laws.answer_law.Goals as goal

pub returns : goal.returns
returns c = λ ground lists run n question answer played less next read. played-answer ground lists run n question answer played less next read
