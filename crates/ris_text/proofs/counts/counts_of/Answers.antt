use Rattle.std.proofs.Common.{arith}
use Rattle.std.proofs.lemmas.List.{drop_all}
use Rattle.ris_base.specs.Lines.{front, mark_count}
use Rattle.ris_text.proofs.Rest.{drop-at}
use Rattle.ris_text.proofs.counts.counts_of.Goals as goal
use Rattle.ris_text.proofs.counts.counts_of.Goals.{in-Entry, in-Mark, in-Leave}

pub loop-k-preserved : goal.loop-k-preserved
unfolding front mark_count
loop-k-preserved c =
    let rest = drop-at c.args.lines.now c.loop-k.k c.at.result.now c.at.ensures in
    let entries = c.loop-k.invariant.entries in
    let marks = c.loop-k.invariant.marks in
    let few_entries = c.loop-k.invariant.few_entries in
    let few_marks = c.loop-k.invariant.few_marks in
    elim c.match-at.branch [
      | in-Entry w ↦
          let e = rw (rest, w.in-Entry.is) at entries in
          let m = rw (rest, w.in-Entry.is) at marks in
          rw (w.entries-is, w.marks-is) (record { entries = omega arith; marks = omega arith; few_entries = omega arith; few_marks = omega arith })
      | in-Mark w ↦
          let e = rw (rest, w.in-Mark.is) at entries in
          let m = rw (rest, w.in-Mark.is) at marks in
          rw (w.entries-is, w.marks-is) (record { entries = omega arith; marks = omega arith; few_entries = omega arith; few_marks = omega arith })
      | in-Leave w ↦
          let e = rw (rest, w.in-Leave.is) at entries in
          let m = rw (rest, w.in-Leave.is) at marks in
          rw (w.entries-is, w.marks-is) (record { entries = omega arith; marks = omega arith; few_entries = omega arith; few_marks = omega arith })
    ]

pub returns : goal.returns
unfolding front mark_count
returns c =
    let over = drop_all c.loop-k.k c.args.lines.now (omega arith) in
    let entries = rw over at c.loop-k.invariant.entries in
    let marks = rw over at c.loop-k.invariant.marks in
    record { entries = omega arith; marks = omega arith; refused = c.in_ok-refused.ensures }
