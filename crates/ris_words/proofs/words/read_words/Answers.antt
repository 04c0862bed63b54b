use Rattle.std.proofs.Common.{◌≡◌, List}
use Rattle.std.proofs.lemmas.Result.{IfOk-weaker}
use Rattle.ris_base.specs.CommandLine.{IsPlain}
use Rattle.ris_base.specs.Script.{Bytes}
use Rattle.ris_base.specs.declared.jobs.Job.{Job}
use Rattle.ris_words.proofs.CommandLines.{one_job}
use Rattle.ris_words.proofs.words.read_words.Goals as goal

-- words say no other job
abbrev IsOnly : List Bytes → Job → Type 0
IsOnly words job = (said : Job) → IsPlain words said → said ≡ job

only : (words : List Bytes) (job : Job) → IsPlain words job → IsOnly words job
only words job is said says = one_job words said job says is

pub returns-in-Some-Replay-clause-only : goal.returns-in-Some-Replay-clause-only
returns-in-Some-Replay-clause-only c = IfOk-weaker c.read_replay.result (IsPlain c.args.words.now) (IsOnly c.args.words.now) (only c.args.words.now) c.read_replay.ensures.ok

pub returns-in-Some-Demo-clause-only : goal.returns-in-Some-Demo-clause-only
returns-in-Some-Demo-clause-only c = IfOk-weaker c.read_demo.result (IsPlain c.args.words.now) (IsOnly c.args.words.now) (only c.args.words.now) c.read_demo.ensures.ok
