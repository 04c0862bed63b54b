use Rattle.std.proofs.Common.{◌≡◌, true, false, cond, sym, ◌∙◌, arith}
use Rattle.ris_base.specs.Replies.{is_refused}
use Rattle.ris_base.specs.declared.replies.LogLine.{LogLine}
use Rattle.ris_text.proofs.Rest.{sum_by-at}
use Rattle.ris_text.proofs.counts.refused_in.Goals as goal
use Rattle.ris_text.proofs.counts.refused_in.Goals.{then-is_refused, else-is_refused}

pub loop-seq-preserved : goal.loop-seq-preserved
loop-seq-preserved c =
    let step = sum_by-at (λ (r : LogLine). cond (is_refused r) 1 0) c.args.log.now c.loop-seq.seq c.at.result.now c.at.ensures in
    let total = c.loop-seq.invariant.total in
    let few = c.loop-seq.invariant.few in
    elim c.if-is_refused.branch [
      | then-is_refused w ↦
          let yes : is_refused c.at.result.now ≡ true = sym c.is_refused.ensures ∙ w.if-is_refused.true in
          let one = rw yes at step in
          rw w.refused-is (record { total = omega arith; few = omega arith })
      | else-is_refused w ↦
          let no : is_refused c.at.result.now ≡ false = sym c.is_refused.ensures ∙ w.if-is_refused.false in
          let none = rw no at step in
          rw w.refused-is (record { total = omega arith; few = omega arith })
    ]
