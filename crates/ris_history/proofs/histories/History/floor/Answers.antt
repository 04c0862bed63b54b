use Rattle.std.proofs.Common.{ap, ◌∙◌}
use Rattle.ris_history.specs.HistoryView.{HistoryView}
use Rattle.ris_history.proofs.AnswerLaws.{floor-of}
use Rattle.ris_history.proofs.histories.History.floor.Goals as goal

pub returns-clause-stands : goal.returns-clause-stands
returns-clause-stands c opening specs start records s =
    ap (λ (h : HistoryView). h.floor) c.self.view_is ∙ floor-of c.args.self.now opening specs start records s
