use Rattle.std.proofs.Common.{sym, ap, ◌∙◌}
use Rattle.std.proofs.lemmas.Result.{on_ok_weaker}
use Rattle.ris_base.specs.declared.lines.Line.{Line}
use Rattle.ris_history.specs.Applied.{applied_line}
use Rattle.ris_history.proofs.StandLemmas.{stands-push}
use Rattle.ris_history.proofs.histories.History.absorb.Goals as goal

pub returns-in-Entry-clause-ok : goal.returns-in-Entry-clause-ok
unfolding applied_line
returns-in-Entry-clause-ok c =
    on_ok_weaker c.enter.result (λ e. e ∙ ap (λ (l : Line). applied_line c.args.self.now l c.args.rec.now.changes) (sym c.in-Entry.is)) c.enter.ensures.ok

pub returns-in-Entry-clause-stands : goal.returns-in-Entry-clause-stands
returns-in-Entry-clause-stands c opening specs start records s right =
    on_ok_weaker c.enter.result (λ e. stands-push c.args.self.now c.enter.new.self opening specs start records c.args.rec.now s right e) (returns-in-Entry-clause-ok c)

pub returns-in-Mark-clause-ok : goal.returns-in-Mark-clause-ok
unfolding applied_line
returns-in-Mark-clause-ok c = c.mark.ensures ∙ ap (λ (l : Line). applied_line c.args.self.now l c.args.rec.now.changes) (sym c.in-Mark.is)

pub returns-in-Mark-clause-stands : goal.returns-in-Mark-clause-stands
returns-in-Mark-clause-stands c opening specs start records s right =
    stands-push c.args.self.now c.mark.new.self opening specs start records c.args.rec.now s right (returns-in-Mark-clause-ok c)

pub returns-in-Leave-clause-ok : goal.returns-in-Leave-clause-ok
unfolding applied_line
returns-in-Leave-clause-ok c = c.leave.ensures ∙ ap (λ (l : Line). applied_line c.args.self.now l c.args.rec.now.changes) (sym c.in-Leave.is)

pub returns-in-Leave-clause-stands : goal.returns-in-Leave-clause-stands
returns-in-Leave-clause-stands c opening specs start records s right =
    stands-push c.args.self.now c.leave.new.self opening specs start records c.args.rec.now s right (returns-in-Leave-clause-ok c)
