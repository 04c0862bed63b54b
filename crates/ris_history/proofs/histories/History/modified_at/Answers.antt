use Rattle.std.proofs.Common.{Ok, Err, rules}
use Rattle.ris_history.proofs.AnswerLaws.{modified-answers}
use Rattle.ris_history.proofs.histories.History.modified_at.Goals as goal

pub returns-in-Some-clause-answers : goal.returns-in-Some-clause-answers
returns-in-Some-clause-answers c enough = modified-answers c.args.self.now c.args.v c.args.a (Err c.in-Some.refusal) c.requires (search rules) enough

pub returns-in_default-moved_at-clause-answers : goal.returns-in_default-moved_at-clause-answers
returns-in_default-moved_at-clause-answers c enough = modified-answers c.args.self.now c.args.v c.args.a (Ok c.new.result) c.requires (search rules) enough

pub returns-in-Ok-clause-answers : goal.returns-in-Ok-clause-answers
returns-in-Ok-clause-answers c enough = modified-answers c.args.self.now c.args.v c.args.a (Ok c.in-Ok.vertices) c.requires (search rules) enough
