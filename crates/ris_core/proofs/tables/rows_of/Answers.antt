use Rattle.std.proofs.Common.{sym, ◌∙◌, arith}
use Rattle.ris_core.proofs.Scans.{copied-next, none-within}
use Rattle.ris_core.proofs.tables.rows_of.Goals.{in-Some+in_ok-push, in_default}
use Rattle.ris_core.proofs.tables.rows_of.Goals as goal

pub loop-k-preserved : goal.loop-k-preserved
loop-k-preserved c = elim c.match-get.branch [
  | in-Some+in_ok-push w ↦
      copied-next c.args.forest.now c.match-get.rows c.loop-k.rows c.loop-k.k w.in-Some.row.now (sym w.in-Some.ensures) c.loop-k.invariant
      (w.rows-is ∙ w.in_ok-push.ensures.ok)
  | in_default w ↦ absurd (none-within c.args.forest.now c.loop-k.k (omega (arith, c.len-k-end.ensures)) (sym w.in_default.ensures))
]
