use Rattle.std.proofs.Common.{Some, min, ap, sym, ◌∙◌}
use Rattle.std.specs.Option.{option_map_or}
use Rattle.ris_base.specs.Lines.{mark}
use Rattle.ris_core.proofs.LineScans.{has_left-any, least-left, least-more, least-none}
use Rattle.ris_core.proofs.lists.least_mark.Goals.{then-not-has_left, else-not-has_left}
use Rattle.ris_core.proofs.lists.least_mark.Goals as goal

pub loop-session-init : goal.loop-session-init
loop-session-init c = sym (least-none c.args.lines.now)

pub loop-session-preserved : goal.loop-session-preserved
loop-session-preserved c =
    let lines = c.args.lines.now in
    let s = c.loop-session.session in
    let left = sym (has_left-any lines s) ∙ sym c.has_left.ensures in
    elim c.if-not-has_left.branch [
      | then-not-has_left w ↦
          w.least-is
          ∙ ap Some (w.least_of.ensures ∙ ap (λ m. option_map_or (min m) c.loop-session.least m) w.mark.ensures ∙ ap (λ o. option_map_or (min (mark lines s)) o (mark lines s)) c.loop-session.invariant)
          ∙ sym (least-more s lines (left ∙ w.if-not-has_left.true))
      | else-not-has_left w ↦ w.least-is ∙ c.loop-session.invariant ∙ sym (least-left s lines (left ∙ w.if-not-has_left.false))
    ]
