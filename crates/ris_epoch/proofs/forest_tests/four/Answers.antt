use Rattle.std.proofs.Common.{◌≡◌, ◌∙◌, List, ap, length, refl, sym, subst, arith}
use Rattle.std.proofs.lemmas.List.{length_push}
use Rattle.std.proofs.lemmas.List.Elements.{All-push}
use Rattle.ris_analysis.specs.Analyses.{ArePlainSpecs}
use Rattle.ris_base.specs.declared.analyses.Kind.TheVariants.{Wcc}
use Rattle.ris_base.specs.declared.analyses.Spec.{Spec}
use Rattle.ris_epoch.proofs.forest_tests.four.Goals as goal

pub loop-kind-preserved : goal.loop-kind-preserved
loop-kind-preserved c =
    let longer = ap (λ (specs : List Spec). length specs) c.in_ok-push.ensures.ok ∙ length_push c.loop-kind.specs _ in
    record {
      count = (let was = c.loop-kind.invariant.count in omega arith);
      plain = subst ArePlainSpecs (sym c.in_ok-push.ensures.ok)
          (All-push (λ (spec : Spec). spec.kind ≡ Wcc → spec.root ≡ 0) c.loop-kind.specs _ c.loop-kind.invariant.plain (λ _. refl));
    }
