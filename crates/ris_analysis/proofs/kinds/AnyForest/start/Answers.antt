use Rattle.std.proofs.Common.{refl, sym, subst, ap, ◌∙◌}
use Rattle.ris_base.specs.declared.analyses.Kind.TheVariants as kind
use Rattle.ris_base.specs.declared.analyses.Spec.{Spec}
use Rattle.ris_four.specs.declared.widest.Sswp.{Sswp}
use Rattle.ris_graph.specs.Ticks.{IsRise}
use Rattle.ris_analysis.specs.Repairing.{first_reach}
use Rattle.ris_analysis.specs.declared.kinds.AnyForest.TheVariants as any
use Rattle.ris_analysis.proofs.KindLemmas.{spec_is, started_of}
use Rattle.ris_analysis.proofs.kinds.AnyForest.start.Goals as goal

pub first_forest-requires-in-Sswp-clause-suits : goal.first_forest-requires-in-Sswp-clause-suits
first_forest-requires-in-Sswp-clause-suits g c κs within = (c.new-algo.ensures.suits c.args.graph.now.format).1 (sym c.format.ensures.value)

pub returns-in_err-forest-in-Bfs-clause-visits : goal.returns-in_err-forest-in-Bfs-clause-visits
returns-in_err-forest-in-Bfs-clause-visits g c = λ p of.
    subst (λ (s : Spec). IsRise (g.M.Meter.ticks c.args.meter.now) (g.M.Meter.ticks c.first_forest.new.meter) (first_reach p s))
    (c.new.ensures.spec ∙ spec_is c.args.spec kind.Bfs c.args.spec.root c.in-Bfs.is refl) (c.first_forest.ensures.visits p of)

pub returns-in_ok-forest-in-Bfs-clause-visits : goal.returns-in_ok-forest-in-Bfs-clause-visits
returns-in_ok-forest-in-Bfs-clause-visits g c = λ p of.
    subst (λ (s : Spec). IsRise (g.M.Meter.ticks c.args.meter.now) (g.M.Meter.ticks c.first_forest.new.meter) (first_reach p s))
    (c.new.ensures.spec ∙ spec_is c.args.spec kind.Bfs c.args.spec.root c.in-Bfs.is refl) (c.first_forest.ensures.visits p of)

pub returns-in_ok-forest-in-Bfs-clause-started : goal.returns-in_ok-forest-in-Bfs-clause-started
returns-in_ok-forest-in-Bfs-clause-started g c =
    let f = c.in_ok-forest-in-Bfs.forest in
    started_of any.Bfs (λ a. record { kind = kind.Bfs; root = a.root }) (λ f. refl) (λ f. refl) c.args.graph.now c.args.size c.args.spec f c.new.result
    c.in_ok-forest-in-Bfs.ensures.algo (c.new.ensures.spec ∙ spec_is c.args.spec kind.Bfs c.args.spec.root c.in-Bfs.is refl)
    tt c.in_ok-forest-in-Bfs.ensures.size c.in_ok-forest-in-Bfs.ensures.right

pub returns-in_err-forest-in-Sssp-clause-visits : goal.returns-in_err-forest-in-Sssp-clause-visits
returns-in_err-forest-in-Sssp-clause-visits g c = λ p of.
    subst (λ (s : Spec). IsRise (g.M.Meter.ticks c.args.meter.now) (g.M.Meter.ticks c.first_forest-in-Sssp.new.meter) (first_reach p s))
    (c.new-in-Sssp.ensures.spec ∙ spec_is c.args.spec kind.Sssp c.args.spec.root c.in-Sssp.is refl) (c.first_forest-in-Sssp.ensures.visits p of)

pub returns-in_ok-forest-in-Sssp-clause-visits : goal.returns-in_ok-forest-in-Sssp-clause-visits
returns-in_ok-forest-in-Sssp-clause-visits g c = λ p of.
    subst (λ (s : Spec). IsRise (g.M.Meter.ticks c.args.meter.now) (g.M.Meter.ticks c.first_forest-in-Sssp.new.meter) (first_reach p s))
    (c.new-in-Sssp.ensures.spec ∙ spec_is c.args.spec kind.Sssp c.args.spec.root c.in-Sssp.is refl) (c.first_forest-in-Sssp.ensures.visits p of)

pub returns-in_ok-forest-in-Sssp-clause-started : goal.returns-in_ok-forest-in-Sssp-clause-started
returns-in_ok-forest-in-Sssp-clause-started g c =
    let f = c.in_ok-forest-in-Sssp.forest in
    started_of any.Sssp (λ a. record { kind = kind.Sssp; root = a.root }) (λ f. refl) (λ f. refl) c.args.graph.now c.args.size c.args.spec f c.new-in-Sssp.result
    c.in_ok-forest-in-Sssp.ensures.algo (c.new-in-Sssp.ensures.spec ∙ spec_is c.args.spec kind.Sssp c.args.spec.root c.in-Sssp.is refl)
    tt c.in_ok-forest-in-Sssp.ensures.size c.in_ok-forest-in-Sssp.ensures.right

pub returns-in_err-forest-in-Sswp-clause-visits : goal.returns-in_err-forest-in-Sswp-clause-visits
returns-in_err-forest-in-Sswp-clause-visits g c = λ p of.
    subst (λ (s : Spec). IsRise (g.M.Meter.ticks c.args.meter.now) (g.M.Meter.ticks c.first_forest-in-Sswp.new.meter) (first_reach p s))
    (c.new-algo.ensures.spec ∙ spec_is c.args.spec kind.Sswp c.args.spec.root c.in-Sswp.is refl) (c.first_forest-in-Sswp.ensures.visits p of)

pub returns-in_ok-forest-in-Sswp-clause-visits : goal.returns-in_ok-forest-in-Sswp-clause-visits
returns-in_ok-forest-in-Sswp-clause-visits g c = λ p of.
    subst (λ (s : Spec). IsRise (g.M.Meter.ticks c.args.meter.now) (g.M.Meter.ticks c.first_forest-in-Sswp.new.meter) (first_reach p s))
    (c.new-algo.ensures.spec ∙ spec_is c.args.spec kind.Sswp c.args.spec.root c.in-Sswp.is refl) (c.first_forest-in-Sswp.ensures.visits p of)

pub returns-in_ok-forest-in-Sswp-clause-started : goal.returns-in_ok-forest-in-Sswp-clause-started
returns-in_ok-forest-in-Sswp-clause-started g c =
    let f = c.in_ok-forest-in-Sswp.forest in
    started_of any.Sswp (λ a. record { kind = kind.Sswp; root = a.root }) (λ f. refl) (λ f. refl) c.args.graph.now c.args.size c.args.spec f c.new-algo.result
    c.in_ok-forest-in-Sswp.ensures.algo (c.new-algo.ensures.spec ∙ spec_is c.args.spec kind.Sswp c.args.spec.root c.in-Sswp.is refl)
    ((c.new-algo.ensures.suits c.args.graph.now.format).1 (sym c.format.ensures.value) ∙ ap (λ (a : Sswp). a.format) (sym c.in_ok-forest-in-Sswp.ensures.algo)) c.in_ok-forest-in-Sswp.ensures.size c.in_ok-forest-in-Sswp.ensures.right

pub returns-in_err-forest-in-Wcc-clause-visits : goal.returns-in_err-forest-in-Wcc-clause-visits
returns-in_err-forest-in-Wcc-clause-visits g c = λ p of.
    subst (λ (s : Spec). IsRise (g.M.Meter.ticks c.args.meter.now) (g.M.Meter.ticks c.first_forest-in-Wcc.new.meter) (first_reach p s))
    (c.new-in-Wcc.ensures.spec ∙ spec_is c.args.spec kind.Wcc 0 c.in-Wcc.is (c.requires.plain c.in-Wcc.is)) (c.first_forest-in-Wcc.ensures.visits p of)

pub returns-in_ok-forest-in-Wcc-clause-visits : goal.returns-in_ok-forest-in-Wcc-clause-visits
returns-in_ok-forest-in-Wcc-clause-visits g c = λ p of.
    subst (λ (s : Spec). IsRise (g.M.Meter.ticks c.args.meter.now) (g.M.Meter.ticks c.first_forest-in-Wcc.new.meter) (first_reach p s))
    (c.new-in-Wcc.ensures.spec ∙ spec_is c.args.spec kind.Wcc 0 c.in-Wcc.is (c.requires.plain c.in-Wcc.is)) (c.first_forest-in-Wcc.ensures.visits p of)

pub returns-in_ok-forest-in-Wcc-clause-started : goal.returns-in_ok-forest-in-Wcc-clause-started
returns-in_ok-forest-in-Wcc-clause-started g c =
    let f = c.in_ok-forest-in-Wcc.forest in
    started_of any.Wcc (λ a. record { kind = kind.Wcc; root = 0 }) (λ f. refl) (λ f. refl) c.args.graph.now c.args.size c.args.spec f c.new-in-Wcc.result
    c.in_ok-forest-in-Wcc.ensures.algo (c.new-in-Wcc.ensures.spec ∙ spec_is c.args.spec kind.Wcc 0 c.in-Wcc.is (c.requires.plain c.in-Wcc.is))
    tt c.in_ok-forest-in-Wcc.ensures.size c.in_ok-forest-in-Wcc.ensures.right
