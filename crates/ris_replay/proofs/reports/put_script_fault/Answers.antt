use Rattle.std.proofs.Common.{◌∙◌}
use Rattle.ris_replay.proofs.ReportFacts.{report-cut, report-ok, script-line}
use Rattle.ris_replay.proofs.reports.put_script_fault.Goals as goal

pub returns-clause-ok : goal.returns-clause-ok
returns-clause-ok g c =
    report-ok _ _ _ _ _ (script-line _ _ c.args.number c.args.cause (c.as_bytes-number.ensures.value ∙ c.format.ensures.text) c.cause_text.ensures) c.put_pieces.ensures.ok

pub returns-clause-cut : goal.returns-clause-cut
returns-clause-cut g c =
    report-cut _ _ _ _ _ (script-line _ _ c.args.number c.args.cause (c.as_bytes-number.ensures.value ∙ c.format.ensures.text) c.cause_text.ensures) c.put_pieces.ensures.cut
