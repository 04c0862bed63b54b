use Rattle.std.proofs.Common.{◌<◌, ◌≤◌, ◌++◌, ◌∷◌, [], ℕ, List, length, arith, sym, subst, ap, ◌∙◌}
use Rattle.std.specs.List.Sorted.{IsStrictlyIncreasing}
use Rattle.std.proofs.lemmas.List.{take_all}
use Rattle.ris_analysis.specs.Repairing.{moved_in}
use Rattle.ris_analysis.proofs.ModifiedLemmas.{ascending-moved_in, moved_in-some, moved_in-none}
use Rattle.ris_analysis.proofs.lists.moved.Goals as goal
use Rattle.ris_analysis.proofs.lists.moved.Goals.{then-row+in_ok-push, else-row}

pub loop-k-preserved : goal.loop-k-preserved
loop-k-preserved c =
    let less : c.loop-k.k < length c.args.delta.now = omega arith in
    let row = c.at-row.result.now in
    elim c.if-row.branch [
      | then-row+in_ok-push w ↦ w.vertices-is ∙ w.in_ok-push.ensures.ok ∙ ap (λ (l : List ℕ). l ++ row.vertex ∷ []) c.loop-k.invariant
          ∙ sym (moved_in-some c.args.delta.now c.loop-k.k row less c.at-row.ensures w.if-row.true)
      | else-row w ↦ w.vertices-is ∙ c.loop-k.invariant ∙ sym (moved_in-none c.args.delta.now c.loop-k.k row less c.at-row.ensures w.if-row.false)
    ]

pub returns-clause-ascending : goal.returns-clause-ascending
returns-clause-ascending c =
    let past : length c.args.delta.now ≤ c.loop-k.k = omega arith in
    subst IsStrictlyIncreasing (sym (c.loop-k.invariant ∙ ap moved_in (take_all c.loop-k.k c.args.delta.now past)))
    (ascending-moved_in c.args.delta.now c.len-k-end.ensures.ascending)
