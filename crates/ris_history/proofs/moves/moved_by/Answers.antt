use Rattle.std.proofs.Common.{◌++◌, [], ◌∷◌, sym, ap, ◌∙◌, List, take}
use Rattle.std.proofs.lemmas.List.{append-nil}
use Rattle.ris_history.specs.Applied.{moved_by}
use Rattle.ris_history.specs.declared.moves.Moved.{Moved}
use Rattle.ris_history.proofs.ChangeLemmas.{moved_by-next, moved_by-one, moved_by-left, moved_by-still}
use Rattle.ris_history.proofs.moves.moved_by.Goals as goal
use Rattle.ris_history.proofs.moves.moved_by.Goals.{then-is_taken+then-change+in_ok-push, else-is_taken, else-is_taken-via-then-is_taken+else-change, else-is_taken-via-else-is_taken}

pub loop-k-preserved : goal.loop-k-preserved
loop-k-preserved c =
    let n = c.args.analyses in
    let d = c.at-change.result.now in
    let next = moved_by-next n c.args.changes.now c.loop-k.k d c.at-change.ensures in
    elim c.if-is_taken.branch [
      | then-is_taken+then-change+in_ok-push w ↦
          w.moved-is ∙ w.in_ok-push.ensures.ok ∙ ap (λ (ms : List Moved). ms ++ record { analysis = d.analysis; vertex = d.vertex } ∷ []) c.loop-k.invariant
          ∙ sym (next ∙ ap (λ (ms : List Moved). moved_by n (take c.loop-k.k c.args.changes.now) ++ ms) (moved_by-one n d (sym c.is_taken.ensures ∙ w.if-is_taken.true) w.if-change.true))
      | else-is_taken w ↦ elim w.else-is_taken.branch [
        | else-is_taken-via-then-is_taken+else-change u ↦
            w.moved-is ∙ c.loop-k.invariant ∙ sym (next ∙ ap (λ (ms : List Moved). moved_by n (take c.loop-k.k c.args.changes.now) ++ ms) (moved_by-still n d u.if-change.false) ∙ append-nil _)
        | else-is_taken-via-else-is_taken u ↦
            w.moved-is ∙ c.loop-k.invariant ∙ sym (next ∙ ap (λ (ms : List Moved). moved_by n (take c.loop-k.k c.args.changes.now) ++ ms) (moved_by-left n d (sym c.is_taken.ensures ∙ u.if-is_taken.false)) ∙ append-nil _)
      ]
    ]
