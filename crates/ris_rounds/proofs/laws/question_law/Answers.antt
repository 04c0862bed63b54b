use Rattle.ris_rounds.proofs.Sittings.{asked-askable, read-fits}
use Rattle.ris_rounds.proofs.laws.question_law.Goals as goal

pub returns : goal.returns
returns c = λ ground lists run n question played less next.
    (asked-askable ground lists run n question played less next, λ answer read. read-fits ground run.records question answer read)
