use Rattle.std.proofs.Common.{ap, ◌∙◌}
use Rattle.ris_history.specs.HistoryView.{HistoryView}
use Rattle.ris_history.proofs.AnswerLaws.{specs-of}
use Rattle.ris_history.proofs.histories.History.analyses.Goals as goal

pub returns-clause-stands : goal.returns-clause-stands
returns-clause-stands c opening specs start records s =
    c.analyses.ensures ∙ ap (λ (h : HistoryView). h.table.analyses) c.self.view_is ∙ specs-of c.args.self.now opening specs start records s
