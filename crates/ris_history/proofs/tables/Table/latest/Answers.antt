use Rattle.std.proofs.Common.{sym, ap, ◌∙◌}
use Rattle.ris_history.specs.Chains.{HeldView}
use Rattle.ris_history.specs.HistoryView.{TableView, shown}
use Rattle.ris_history.proofs.TableLemmas.{shown-outside}
use Rattle.ris_history.proofs.tables.Table.latest.Goals as goal

pub returns-in_default-clause-value : goal.returns-in_default-clause-value
returns-in_default-clause-value c =
    sym (ap (λ (h : HeldView). h.value) (ap (λ (t : TableView). shown t c.args.v c.args.a c.args.x) (sym c.self.view_is)
    ∙ shown-outside c.self.inside.front c.self.inside.analyses c.self.inside.chains.items c.args.v c.args.a c.args.x c.self.invariant.size c.in_default.ensures))

pub returns-in_default-clause-parent : goal.returns-in_default-clause-parent
returns-in_default-clause-parent c =
    sym (ap (λ (h : HeldView). h.parent) (ap (λ (t : TableView). shown t c.args.v c.args.a c.args.x) (sym c.self.view_is)
    ∙ shown-outside c.self.inside.front c.self.inside.analyses c.self.inside.chains.items c.args.v c.args.a c.args.x c.self.invariant.size c.in_default.ensures))
