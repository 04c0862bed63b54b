use Rattle.std.proofs.Common.{◌≡◌, ◌∙◌, Some, Bool, ℕ, not, sym, ap, subst}
use Rattle.std.proofs.lemmas.Bool.{false_from_ne_true, not-true, true≢false}
use Rattle.ris_base.specs.Analysis.{step}
use Rattle.ris_base.specs.Forest.{Joins, value_in}
use Rattle.ris_base.specs.Walk.{both_ways}
use Rattle.ris_base.specs.declared.analyses.Value.TheVariants.{Num}
use Rattle.ris_base.proofs.EffectLemmas.{HasTriple-from_test}
use Rattle.ris_core.proofs.RightRows.{from-number}
use Rattle.ris_core.proofs.checks.comes_from.Goals as goal

pub returns : goal.returns
returns c =
    let rows = c.args.rows.now in
    let above : value_in rows c.args.vertex ≡ Num c.in-Num.above = sym (c.value_in.ensures ∙ ap (value_in rows) c.from.ensures) ∙ c.in-Num.is in
    let here : value_in rows c.args.x ≡ Num c.in-Num-value_in.here = sym c.value_in-2.ensures ∙ c.in-Num-value_in.is in
    let stepped : c.in-Num-value_in.here ≡ step c.args.spec.kind c.in-Num.above c.args.t.weight = sym c.from-3.ensures ∙ c.if-from-step.false ∙ c.step.ensures in
    let joined : Joins (both_ways c.args.spec.kind) c.args.t c.args.vertex c.args.x =
    subst (λ (b : Bool). Joins b c.args.t c.args.vertex c.args.x) c.both_ways.ensures
    (subst (λ (v : ℕ). Joins c.both_ways.result c.args.t v c.args.x) c.from-2.ensures (c.joins.ensures.0 c.if-not-joins.false)) in (
      λ yes. record {
        number = c.in-Num.above;
        has = HasTriple-from_test c.args.graph.now c.args.t (sym c.has_equal.ensures ∙ c.if-not-has_equal.false);
        joins = joined;
        above = above;
        here = here ∙ ap Num stepped;
        not_start = λ same. true≢false (sym (c.is_start.ensures.1 (same ∙ ap Some (sym stepped))) ∙ not-true c.is_start.result yes);
      },
      λ from.
          let n = from-number c.args.graph.now c.args.spec rows c.args.x c.args.vertex c.args.t from c.in-Num.above above c.in-Num-value_in.here here in
          ap not (false_from_ne_true c.is_start.result (λ yes. n.1 (c.is_start.ensures.0 yes))),
    )
