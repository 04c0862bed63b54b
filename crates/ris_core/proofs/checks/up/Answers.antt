use Rattle.std.proofs.Common.{◌+◌, ◌-◌, ◌≡◌, arith, ap, sym, ◌∙◌}
use Rattle.ris_base.specs.Forest.{forest_in, up, vertex_or}
use Rattle.ris_algo.proofs.Parents.{up-none, up-suc}
use Rattle.ris_core.proofs.checks.up.Goals.{in-From, in_default}
use Rattle.ris_core.proofs.checks.up.Goals as goal

pub loop-k-preserved : goal.loop-k-preserved
loop-k-preserved c =
    let F = forest_in c.args.rows.now in
    let left = c.args.steps - (c.loop-k._k + 1) in
    let step : up F left (vertex_or c.loop-k.here (F.parent c.loop-k.here)) ≡ up F c.args.steps c.args.x =
    sym (up-suc F left c.loop-k.here) ∙ ap (λ k. up F k c.loop-k.here) (omega arith) ∙ c.loop-k.invariant in
    elim c.match-parent_in.branch [
      | in-From w ↦ ap (up F left) (w.here-is ∙ w.from-here.ensures ∙ sym (ap (vertex_or c.loop-k.here) (sym c.parent_in.ensures ∙ w.in-From.is))) ∙ step
      | in_default w ↦ ap (up F left) (w.here-is ∙ sym (ap (vertex_or c.loop-k.here) (sym c.parent_in.ensures ∙ w.in_default.is))) ∙ step
    ]

pub returns : goal.returns
returns c =
    let F = forest_in c.args.rows.now in
    sym (ap (λ k. up F k c.loop-k.here) (omega arith) ∙ up-none F c.loop-k.here) ∙ c.loop-k.invariant
