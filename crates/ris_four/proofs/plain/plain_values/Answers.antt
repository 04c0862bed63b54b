use Rattle.std.proofs.Common.{refl, sym, subst}
use Rattle.rayon.proofs.ListFacts.{IfOk-then}
use Rattle.ris_base.specs.Value.{AreValues}
use Rattle.ris_base.specs.declared.analyses.Kind.{Kind}
use Rattle.ris_four.proofs.ValueLemmas.{AreValues-at_root}
use Rattle.ris_four.proofs.plain.plain_values.Goals as goal

-- the widest paths are those of graphs of the graph's own format
pub values_by-requires-in-Sswp-clause-format : goal.values_by-requires-in-Sswp-clause-format
values_by-requires-in-Sswp-clause-format g c κs within = (c.new-in-Sswp.ensures.suits c.args.graph.now.format).1 refl

pub returns-in-Wcc : goal.returns-in-Wcc
returns-in-Wcc g c =
    let graph = c.args.graph.now in
    let root = c.args.spec.root in
    IfOk-then c.values_by-in-Wcc.result _ _ c.values_by-in-Wcc.ensures (λ values h.
    subst (λ (k : Kind). AreValues graph (record { kind = k; root = root }) values) (sym c.in-Wcc.is) (AreValues-at_root graph 0 root values h))
