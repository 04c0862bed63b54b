use Rattle.std.proofs.Common.{◌≡◌, ◌++◌, Some, slice_get, ap, ◌∙◌, arith}
use Rattle.ris_base.specs.declared.lines.Line.TheVariants as line
use Rattle.ris_text.proofs.Growth.{adds_line}
use Rattle.ris_text.proofs.Turns.{next_entry, next_mark, next_leave, no_line}
use Rattle.ris_text.proofs.printers.Printer.put_journal.Goals as goal
use Rattle.ris_text.proofs.printers.Printer.put_journal.Goals.{in-Entry, in-Mark, in-Leave}

pub loop-k-init : goal.loop-k-init
loop-k-init c = record { adds = λ final all. all; few = omega arith }

pub loop-k-preserved : goal.loop-k-preserved
loop-k-preserved c =
    let lines = c.args.lines.now in
    let k = c.loop-k.k in
    elim c.match-at.branch [
      | in-Entry w ↦
          let here : slice_get lines k ≡ Some (line.Entry w.in-Entry.entry) = c.at.ensures ∙ ap Some w.in-Entry.is in
          let grew : c.extend_from_slice.new.self.items ≡ c.loop-k.self-inside.text.items ++ w.put_entry.new.tail = rw (c.bytes.ensures, w.self-inside-is) at c.in_ok-extend_from_slice.ensures.items in
          let few = c.loop-k.invariant.few in
          let first = adds_line _ _ _ _ w.put_entry.ensures grew in
          rw w.entries-is (record {
            adds = λ final rest. c.loop-k.invariant.adds final (next_entry _ lines k _ _ _ final here first rest);
            few = omega arith;
          })
      | in-Mark w ↦
          let here : slice_get lines k ≡ Some (line.Mark w.in-Mark.session w.in-Mark.seq w.in-Mark.upto) = c.at.ensures ∙ ap Some w.in-Mark.is in
          let grew : c.extend_from_slice.new.self.items ≡ c.loop-k.self-inside.text.items ++ w.put_mark.new.tail = rw (c.bytes.ensures, w.self-inside-is) at c.in_ok-extend_from_slice.ensures.items in
          let few = c.loop-k.invariant.few in
          let first = adds_line _ _ _ _ w.put_mark.ensures grew in
          rw w.entries-is (record {
            adds = λ final rest. c.loop-k.invariant.adds final (next_mark _ lines k _ _ _ _ _ final here first rest);
            few = omega arith;
          })
      | in-Leave w ↦
          let here : slice_get lines k ≡ Some (line.Leave w.in-Leave.session w.in-Leave.seq) = c.at.ensures ∙ ap Some w.in-Leave.is in
          let grew : c.extend_from_slice.new.self.items ≡ c.loop-k.self-inside.text.items ++ w.put_leave.new.tail = rw (c.bytes.ensures, w.self-inside-is) at c.in_ok-extend_from_slice.ensures.items in
          let few = c.loop-k.invariant.few in
          let first = adds_line _ _ _ _ w.put_leave.ensures grew in
          rw w.entries-is (record {
            adds = λ final rest. c.loop-k.invariant.adds final (next_leave _ lines k _ _ _ _ final here first rest);
            few = omega arith;
          })
    ]

pub returns : goal.returns
returns c = rw (← c.self.view_is) (c.loop-k.invariant.adds _ (no_line c.loop-k.entries c.args.lines.now c.loop-k.k _ (omega arith)))
