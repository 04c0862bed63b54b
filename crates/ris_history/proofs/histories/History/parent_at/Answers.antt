use Rattle.std.proofs.Common.{sym, subst, ap, ◌∙◌, Option, Result, Ok}
use Rattle.ris_base.specs.Lists.{unless}
use Rattle.ris_base.specs.declared.forests.Parent.{Parent}
use Rattle.ris_base.specs.declared.replies.ReadRefusal.{ReadRefusal}
use Rattle.ris_base.specs.declared.requests.Question.TheVariants as question
use Rattle.ris_history.specs.HistoryView.{HistoryView, shown}
use Rattle.ris_history.specs.Reads.{IsAnswer, parent_reply}
use Rattle.ris_history.proofs.AnswerLaws.{parent-answers}
use Rattle.ris_history.proofs.histories.History.parent_at.Goals as goal

pub returns-in-Some-clause-answers : goal.returns-in-Some-clause-answers
returns-in-Some-clause-answers c =
    let h = c.args.self.now in
    let held = (shown c.args.self.now.table c.args.v c.args.a c.args.x).parent in
    let refused = ap (λ (o : Option ReadRefusal). unless o held) (sym c.refusal.ensures ∙ c.in-Some.is) in
    subst (λ (r : Result Parent ReadRefusal). IsAnswer h (question.Parent c.args.v c.args.a c.args.x) (parent_reply h.table.front c.args.v r)) refused
    (parent-answers h c.args.v c.args.a c.args.x c.requires)

pub returns-in-None-clause-answers : goal.returns-in-None-clause-answers
returns-in-None-clause-answers c =
    let h = c.args.self.now in
    let held = (shown c.args.self.now.table c.args.v c.args.a c.args.x).parent in
    let read = c.latest.ensures.parent ∙ ap (λ (k : HistoryView). (shown k.table c.args.v c.args.a c.args.x).parent) c.self.view_is in
    let given = ap (λ (o : Option ReadRefusal). unless o held) (sym c.refusal.ensures ∙ c.in-None.is) ∙ ap (λ (y : Parent). let r : Result Parent ReadRefusal = Ok y in r) (sym read) in
    subst (λ (r : Result Parent ReadRefusal). IsAnswer h (question.Parent c.args.v c.args.a c.args.x) (parent_reply h.table.front c.args.v r)) given
    (parent-answers h c.args.v c.args.a c.args.x c.requires)
