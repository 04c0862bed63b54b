use Rattle.std.proofs.Common.{sym, ◌∙◌}
use Rattle.ris_base.specs.Forest.{forest_in}
use Rattle.ris_base.specs.Safe.{is_safe_for}
use Rattle.ris_core.proofs.Scans.{pair-fails, pair-passed}
use Rattle.ris_core.proofs.candidates.is_safe_for_all.Goals as goal

pub returns-then-not-is_safe_for : goal.returns-then-not-is_safe_for
returns-then-not-is_safe_for c =
    sym (pair-fails forest_in (λ spec F. is_safe_for c.args.graph.now spec F c.args.update) c.args.specs.now c.args.tables.now c.loop-k.k c.at.result.now c.at-in-loop-k.result.now c.at.ensures c.at-in-loop-k.ensures
    (sym c.is_safe_for.ensures ∙ c.if-not-is_safe_for.true)) ∙ c.loop-k.invariant

pub loop-k-preserved : goal.loop-k-preserved
loop-k-preserved c =
    pair-passed forest_in (λ spec F. is_safe_for c.args.graph.now spec F c.args.update) c.args.specs.now c.args.tables.now c.loop-k.k c.at.result.now c.at-in-loop-k.result.now c.at.ensures c.at-in-loop-k.ensures
    (sym c.is_safe_for.ensures ∙ c.if-not-is_safe_for.false) ∙ c.loop-k.invariant
