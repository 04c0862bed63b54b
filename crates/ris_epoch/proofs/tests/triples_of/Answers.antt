use Rattle.std.proofs.Common.{◌<◌, ◌≤◌, arith, sym, subst}
use Rattle.std.specs.List.{All}
use Rattle.std.proofs.lemmas.List.Elements.{All-push}
use Rattle.ris_base.specs.declared.graphs.Triple.{Triple}
use Rattle.ris_epoch.proofs.tests.triples_of.Goals as goal

pub loop-t-preserved : goal.loop-t-preserved
loop-t-preserved c =
    let source = c.if-t-vertices.false in
    let target = c.if-t-vertices-2.false in
    let weight = c.if-t-gt4294967295.false in
    record {
      ends = subst (All (λ (t : Triple). (t.source < c.args.vertices) × (t.target < c.args.vertices))) (sym c.in_ok-push.ensures.ok)
          (All-push (λ (t : Triple). (t.source < c.args.vertices) × (t.target < c.args.vertices)) c.loop-t.triples _ c.loop-t.invariant.ends (omega arith, omega arith));
      weights = subst (All (λ (t : Triple). t.weight ≤ 4294967295)) (sym c.in_ok-push.ensures.ok)
          (All-push (λ (t : Triple). t.weight ≤ 4294967295) c.loop-t.triples _ c.loop-t.invariant.weights (omega arith));
    }
