use Rattle.std.proofs.Common.{◌+◌, max, sym, ap, ◌∙◌}
use Rattle.ris_history.specs.Chains.{needed}
use Rattle.ris_history.proofs.ChangeLemmas.{bound_of-next, needed-taken, needed-left, ord_max-nat}
use Rattle.ris_history.proofs.numbers.bound_of.Goals as goal
use Rattle.ris_history.proofs.numbers.bound_of.Goals.{then-is_taken, else-is_taken}

pub loop-k-preserved : goal.loop-k-preserved
loop-k-preserved c =
    let n = c.args.analyses in
    let d = c.at-change.result.now in
    let next = ap (λ m. needed n m d) c.loop-k.invariant ∙ sym (bound_of-next n c.args.changes.now c.loop-k.k d c.at-change.ensures) in
    elim c.if-is_taken.branch [
      | then-is_taken w ↦
          let taken = needed-taken n c.loop-k.bound d (sym c.is_taken.ensures ∙ w.if-is_taken.true) in
          w.bound-is ∙ w.max-bound.ensures ∙ ord_max-nat c.loop-k.bound (w.number.result + 1) ∙ ap (λ k. max c.loop-k.bound (k + 1)) w.number.ensures.value ∙ sym taken ∙ next
      | else-is_taken w ↦ w.bound-is ∙ sym (needed-left n c.loop-k.bound d (sym c.is_taken.ensures ∙ w.if-is_taken.false)) ∙ next
    ]
