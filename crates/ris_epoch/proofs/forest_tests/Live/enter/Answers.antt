use Rattle.std.proofs.Common.{◌≡◌, ◌∙◌, List, length, ap, sym}
use Rattle.std.proofs.lemmas.List.{length-map}
use Rattle.ris_base.specs.Records.{changed_forests}
use Rattle.ris_base.specs.Requests.{entered}
use Rattle.ris_base.specs.declared.analyses.Spec.{Spec}
use Rattle.ris_analysis.specs.Analyses.{specs_of}
use Rattle.ris_analysis.specs.AnyForest.{spec_of}
use Rattle.ris_analysis.specs.declared.kinds.AnyForest.{AnyForest}
use Rattle.ris_epoch.proofs.forest_tests.Live.enter.Goals as goal

-- analyses of the same specs are as many
same-count : (xs ys : List AnyForest) → specs_of xs ≡ specs_of ys → length xs ≡ length ys
same-count xs ys same = sym (length-map xs spec_of) ∙ ap (λ (specs : List Spec). length specs) same ∙ length-map ys spec_of

pub renew-requires-after_bounds : goal.renew-requires-after_bounds
renew-requires-after_bounds c κs = record {
  plain = c.self.invariant.0;
  parts = c.args.parts.now;
  specs = c.self.invariant.1;
  forests = c.self.invariant.2;
  fits = c.self.invariant.3;
  of = c.in_ok-net.ensures.ok c.self.invariant.0 c.self.invariant.3.graph_is;
}

pub invariant_of-self : goal.invariant_of-self
invariant_of-self c =
    let live = c.self.invariant in
    let renewed = c.in-Ok.ensures.ok live.0 c.args.parts.now live.1 live.2 live.3 (c.in_ok-net.ensures.ok live.0 live.3.graph_is) in (
      entered live.0 c.args.parts.now,
      live.1,
      changed_forests live.2 c.in-Ok._changes,
      renewed.fits,
      same-count c.renew.new.analyses c.self.inside.analyses (renewed.fits.specs_are ∙ sym live.3.specs_are) ∙ live.4,
    )

pub invariant_of-self-2 : goal.invariant_of-self-2
invariant_of-self-2 c =
    let live = c.self.invariant in
    let fits = c.in-Err.ensures.err live.0 c.args.parts.now live.1 live.2 live.3 (c.in_ok-net.ensures.ok live.0 live.3.graph_is) in
    (live.0, live.1, live.2, fits, same-count c.renew.new.analyses c.self.inside.analyses (fits.specs_are ∙ sym live.3.specs_are) ∙ live.4)
