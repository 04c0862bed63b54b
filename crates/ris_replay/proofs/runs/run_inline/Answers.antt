use Rattle.ris_replay.proofs.RunFacts.{run-right}
use Rattle.ris_replay.proofs.runs.run_inline.Goals as goal

pub returns-clause-run : goal.returns-clause-run
returns-clause-run g c = run-right _ _ _ _ _ c.answer-ending.result _ c.answer-ending.ensures.ends c.report.ensures.status c.report.ensures.line c.report.ensures.ok
