use Rattle.std.proofs.Common.{Ok, Err, rules}
use Rattle.ris_base.specs.declared.replies.ReadAnswer.TheVariants as answer
use Rattle.ris_history.proofs.AnswerLaws.{ask-answers}
use Rattle.ris_history.proofs.histories.History.ask.Goals as goal

pub returns-in-Err-clause-answers : goal.returns-in-Err-clause-answers
returns-in-Err-clause-answers c enough = ask-answers c.args.self.now c.args.question.now (Err c.in-Err.refusal) c.requires (search rules) enough

pub returns-in-Ok-parent_at-clause-answers : goal.returns-in-Ok-parent_at-clause-answers
returns-in-Ok-parent_at-clause-answers c enough =
    ask-answers c.args.self.now c.args.question.now (Ok (answer.Parent c.front-front.result c.in-Parent.place c.in-Ok-parent_at.parent)) c.requires (search rules) enough

pub returns-in-Err-parent_at-clause-answers : goal.returns-in-Err-parent_at-clause-answers
returns-in-Err-parent_at-clause-answers c enough = ask-answers c.args.self.now c.args.question.now (Err c.in-Err-parent_at.refusal) c.requires (search rules) enough

pub returns-in-Ok-path_at-clause-answers : goal.returns-in-Ok-path_at-clause-answers
returns-in-Ok-path_at-clause-answers c enough =
    ask-answers c.args.self.now c.args.question.now (Ok (answer.Path c.front-front.result c.in-Path.place c.in-Ok-path_at.vertices)) c.requires (search rules) enough

pub returns-in-Err-path_at-clause-answers : goal.returns-in-Err-path_at-clause-answers
returns-in-Err-path_at-clause-answers c enough = ask-answers c.args.self.now c.args.question.now (Err c.in-Err-path_at.refusal) c.requires (search rules) enough

pub returns-in-Err-modified_at-clause-answers : goal.returns-in-Err-modified_at-clause-answers
returns-in-Err-modified_at-clause-answers c enough = ask-answers c.args.self.now c.args.question.now (Err c.in-Err-modified_at.refusal) c.requires (search rules) enough

pub returns-in-Current-clause-answers : goal.returns-in-Current-clause-answers
returns-in-Current-clause-answers c enough =
    ask-answers c.args.self.now c.args.question.now (Ok (answer.Current c.front-front.result c.floor.result)) c.requires (search rules) enough
