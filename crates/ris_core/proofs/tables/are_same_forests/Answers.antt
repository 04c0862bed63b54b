use Rattle.std.proofs.Common.{◌++◌, ◌∷◌, [], ◌∙◌, ap, sym, map, take}
use Rattle.std.proofs.lemmas.Bool.{true≢false}
use Rattle.ris_base.specs.Forest.{forest_in}
use Rattle.ris_core.proofs.Scans.{mapped-next, same-mapped}
use Rattle.ris_core.proofs.tables.are_same_forests.Goals as goal

pub returns-then-not-is_same_forest : goal.returns-then-not-is_same_forest
returns-then-not-is_same_forest c = (
  λ no. absurd (true≢false (sym no)),
  λ same. sym c.if-not-is_same_forest.true ∙ c.is_same_forest.ensures.1 (same-mapped forest_in c.args.a.now c.args.b.now c.loop-k.k c.at.result.now c.at-in-loop-k.result.now c.at.ensures c.at-in-loop-k.ensures same),
)

pub loop-k-preserved : goal.loop-k-preserved
loop-k-preserved c =
    mapped-next forest_in c.args.a.now c.loop-k.k c.at.result.now c.at.ensures
    ∙ ap (λ fs. fs ++ forest_in c.at.result.now ∷ []) c.loop-k.invariant
    ∙ ap (λ F. map forest_in (take c.loop-k.k c.args.b.now) ++ F ∷ []) (c.is_same_forest.ensures.0 c.if-not-is_same_forest.false)
    ∙ sym (mapped-next forest_in c.args.b.now c.loop-k.k c.at-in-loop-k.result.now c.at-in-loop-k.ensures)
