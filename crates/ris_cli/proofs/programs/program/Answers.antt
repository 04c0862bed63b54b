use Rattle.std.proofs.Common.{sym, subst}
use Rattle.ris_base.specs.Status.{Grew, status_line, stream_of}
use Rattle.ris_base.specs.declared.statuses.Status.{Status}
use Rattle.ris_base.specs.declared.scripts.Cause.TheVariants.{Header}
use Rattle.ris_cli.proofs.programs.program.Goals.{in-Ok, in-Err}
use Rattle.ris_cli.proofs.programs.program.Goals as goal

-- src/programs.rt:17:1
pub returns : goal.returns
returns g c = elim c.match-read_words.branch [
  | in-Ok w ↦
      (let fault = w.run-status.ensures.run.reports.fault in
      let line = w.run-status.ensures.run.reports.line in (
        c.match-read_words.status,
        w.run-status.ensures.run.reports.fault,
        c.code.ensures,
        subst (λ f. Grew (stream_of g.F.Sink.held g.F.Sink.faults c.args.faults.now f) (status_line c.match-read_words.status w.run-status.ensures.run.reports.fault)) (sym w.faults-is)
            (subst (λ (s : Status). Grew (stream_of g.F.Sink.held g.F.Sink.faults c.args.faults.now w.run-status.new.faults) (status_line s w.run-status.ensures.run.reports.fault))
            (sym w.status-is) w.run-status.ensures.run.reports.line),
      ))
  | in-Err w ↦ (
    c.match-read_words.status,
    record { number = 0; cause = Header },
    c.code.ensures,
    subst (λ f. Grew (stream_of g.F.Sink.held g.F.Sink.faults c.args.faults.now f) (status_line c.match-read_words.status (record { number = 0; cause = Header }))) (sym w.faults-is)
        (subst (λ (s : Status). Grew (stream_of g.F.Sink.held g.F.Sink.faults c.args.faults.now w.refuse-status.new.faults) (status_line s (record { number = 0; cause = Header })))
        (sym w.status-is) (w.refuse-status.ensures.line (record { number = 0; cause = Header }))),
  )
]
