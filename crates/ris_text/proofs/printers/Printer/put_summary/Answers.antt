use Rattle.ris_text.proofs.Growth.{adds_line}
use Rattle.ris_text.proofs.printers.Printer.put_summary.Goals as goal

pub returns : goal.returns
returns c = rw (← c.self.view_is) (adds_line _ _ _ _ c.put_counts.ensures (rw c.bytes.ensures at c.in_ok-extend_from_slice.ensures.items))
