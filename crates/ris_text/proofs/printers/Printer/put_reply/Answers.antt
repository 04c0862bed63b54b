use Rattle.ris_base.specs.Transcript.{fields}
use Rattle.ris_text.specs.Spelled.{IsLine}
use Rattle.ris_text.proofs.Growth.{adds_reply}
use Rattle.ris_text.proofs.Fields.{printable_some}
use Rattle.ris_text.proofs.printers.Printer.put_reply.Goals as goal
use Rattle.ris_text.proofs.printers.Printer.put_reply.Goals.{in-Reply, in-Denied}

pub returns : goal.returns
returns c =
    let line : IsLine (fields c.args.reply.now) c.match-reply.tail = elim c.match-reply.branch [
      | in-Reply w ↦ rw (w.in-Reply.is, w.tail-is) w.put_outcome.ensures.line
      | in-Denied w ↦ rw (w.in-Denied.is, w.tail-is) w.put_denial.ensures.line
    ] in
    rw (← c.self.view_is) (adds_reply _ _ _ _ _ _ c.ranges.session.fits c.ranges.seq.fits (printable_some c.args.reply.now c.requires) line c.in_ok-append.ensures)
