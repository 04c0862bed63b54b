use Rattle.std.proofs.Common.{◌++◌, ◌∷◌, [], ◌∙◌, ap, sym}
use Rattle.ris_base.specs.Forest.{value_in}
use Rattle.ris_core.specs.Rows.{is_same_value}
use Rattle.ris_core.proofs.AnswerScans.{moved-more, moved-none, moved-same}
use Rattle.ris_core.proofs.answers.moved_between.Goals.{then-not-is_same_value+in_ok-push, else-not-is_same_value}
use Rattle.ris_core.proofs.answers.moved_between.Goals as goal

pub loop-x-init : goal.loop-x-init
loop-x-init c = c.new-vertices.ensures ∙ sym (moved-none c.args.before.now c.args.now.now)

pub loop-x-preserved : goal.loop-x-preserved
loop-x-preserved c =
    let a = c.args.before.now in
    let b = c.args.now.now in
    let x = c.loop-x.x in
    let test = sym (c.is_same_value.ensures ∙ ap (λ v. is_same_value v c.value_in-in-loop-x.result) c.value_in.ensures ∙ ap (is_same_value (value_in a x)) c.value_in-in-loop-x.ensures) in
    elim c.if-not-is_same_value.branch [
      | then-not-is_same_value+in_ok-push w ↦ w.vertices-is ∙ w.in_ok-push.ensures.ok ∙ ap (λ xs. xs ++ x ∷ []) c.loop-x.invariant ∙ sym (moved-more a b x (test ∙ w.if-not-is_same_value.true))
      | else-not-is_same_value w ↦ w.vertices-is ∙ c.loop-x.invariant ∙ sym (moved-same a b x (test ∙ w.if-not-is_same_value.false))
    ]
