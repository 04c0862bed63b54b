use Rattle.std.proofs.Common.{ap, ◌∙◌}
use Rattle.ris_history.specs.HistoryView.{HistoryView}
use Rattle.ris_history.proofs.AnswerLaws.{front-of}
use Rattle.ris_history.proofs.histories.History.front.Goals as goal

pub returns-clause-stands : goal.returns-clause-stands
returns-clause-stands c opening specs start records s =
    c.front.ensures ∙ ap (λ (h : HistoryView). h.table.front) c.self.view_is ∙ front-of c.args.self.now opening specs start records s
