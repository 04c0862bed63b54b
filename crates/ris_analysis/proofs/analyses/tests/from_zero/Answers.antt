use Rattle.std.proofs.Common.{◌≡◌, ◌+◌, length, refl, sym, subst, ap, ◌∙◌}
use Rattle.std.specs.List.{All}
use Rattle.std.proofs.lemmas.List.{length_push}
use Rattle.std.proofs.lemmas.List.Elements.{All-push}
use Rattle.ris_base.specs.declared.analyses.Spec.{Spec}
use Rattle.ris_analysis.proofs.analyses.tests.from_zero.Goals as goal

pub loop-kind-preserved : goal.loop-kind-preserved
loop-kind-preserved c = record {
  count = ap length c.in_ok-push.ensures.ok ∙ length_push c.loop-kind.specs _ ∙ ap (λ n. n + 1) c.loop-kind.invariant.count;
  roots = subst (All (λ (spec : Spec). spec.root ≡ 0)) (sym c.in_ok-push.ensures.ok)
      (All-push (λ (spec : Spec). spec.root ≡ 0) c.loop-kind.specs _ c.loop-kind.invariant.roots refl);
}
