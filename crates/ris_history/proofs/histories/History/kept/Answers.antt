use Rattle.std.proofs.Common.{ap, ◌∙◌}
use Rattle.ris_history.specs.Chains.{kept_in}
use Rattle.ris_history.specs.HistoryView.{HistoryView}
use Rattle.ris_history.proofs.AnswerLaws.{kept-of}
use Rattle.ris_history.proofs.histories.History.kept.Goals as goal

pub returns-clause-stands : goal.returns-clause-stands
returns-clause-stands c opening specs start records s =
    c.kept.ensures ∙ ap (λ (h : HistoryView). kept_in h.table.chains) c.self.view_is ∙ kept-of c.args.self.now opening specs start records s
