use Rattle.std.proofs.Common.{[], ◌∷◌, arith, codes, length}
use Rattle.ris_base.specs.Transcript.{answer_fields}
use Rattle.ris_base.specs.Transcript.Field.{Word, Number}
use Rattle.ris_text.specs.Spelled.{IsLine}
use Rattle.ris_text.proofs.Growth.{adds_reply, adds_listing}
use Rattle.ris_text.proofs.Fields.{answer_some}
use Rattle.ris_text.proofs.printers.Printer.put_answer.Goals as goal
use Rattle.ris_text.proofs.printers.Printer.put_answer.Goals.{in-Value, in-Parent, in-Current}

pub returns-in-Path : goal.returns-in-Path
returns-in-Path c =
    let p = c.in-Path in
    rw (p.is, ← c.self.view_is) (adds_listing _ _ (Word (codes "path") ∷ Number p.front ∷ Number p.place ∷ Number (length p.vertices) ∷ []) _ _ _ _ _
    c.ranges.session.fits c.ranges.seq.fits (omega arith) (rw c.len.ensures at c.put_path.ensures.fields) c.in_ok-append-in-Path.ensures
    c.in_ok-put_vertices-in-Path.ensures)

pub returns-in-Modified : goal.returns-in-Modified
returns-in-Modified c =
    let p = c.in-Modified in
    rw (p.is, ← c.self.view_is) (adds_listing _ _ (Word (codes "modified") ∷ Number p.front ∷ Number p.place ∷ Number (length p.vertices) ∷ []) _ _ _ _ _
    c.ranges.session.fits c.ranges.seq.fits (omega arith) (rw c.len-in-Modified.ensures at c.put_modified.ensures.fields) c.in_ok-append-in-Modified.ensures
    c.in_ok-put_vertices-in-Modified.ensures)

pub returns : goal.returns
returns c =
    let line : IsLine (answer_fields c.args.answer.now) c.match-answer.tail = elim c.match-answer.branch [
      | in-Value w ↦ rw (w.in-Value.is, w.tail-is) w.put_value.ensures.line
      | in-Parent w ↦ rw (w.in-Parent.is, w.tail-is) w.put_parent.ensures.line
      | in-Current w ↦ rw (w.in-Current.is, w.tail-is) w.put_current.ensures.line
    ] in
    rw (← c.self.view_is) (adds_reply _ _ _ _ _ _ c.ranges.session.fits c.ranges.seq.fits (answer_some c.args.answer.now) line c.in_ok-append.ensures)
