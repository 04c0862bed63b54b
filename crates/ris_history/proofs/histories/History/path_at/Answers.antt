use Rattle.std.proofs.Common.{Ok, Err, rules}
use Rattle.ris_history.proofs.AnswerLaws.{path-given}
use Rattle.ris_history.proofs.histories.History.path_at.Goals as goal

pub returns-in-Some-clause-answers : goal.returns-in-Some-clause-answers
returns-in-Some-clause-answers c enough =
    path-given c.args.self.now c.args.v c.args.a c.args.x (Err c.in-Some.refusal) c.requires (search rules) enough

pub returns-in-Ok-clause-answers : goal.returns-in-Ok-clause-answers
returns-in-Ok-clause-answers c enough =
    path-given c.args.self.now c.args.v c.args.a c.args.x (Ok c.in-Ok.path) c.requires (search rules) enough
