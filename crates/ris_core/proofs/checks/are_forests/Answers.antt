use Rattle.std.proofs.Common.{◌≡◌, ◌∙◌, sym, arith, refl, inl, inr, Some, ap, subst, List}
use Rattle.std.specs.List.{slice_get}
use Rattle.std.proofs.lemmas.Bool.{cases_lt, true≢false}
use Rattle.ris_base.specs.Forest.{IsForest, forest_in}
use Rattle.ris_base.specs.declared.analyses.Spec.{Spec}
use Rattle.ris_base.specs.declared.forests.ForestRow.{ForestRow}
use Rattle.ris_core.proofs.RightRows.{forests-at, forests-from, forests-length}
use Rattle.ris_core.proofs.StateLemmas.{within-there}
use Rattle.ris_core.proofs.checks.are_forests.Goals as goal

pub returns-then-len : goal.returns-then-len
returns-then-len g c = (
  λ no. absurd (true≢false (sym no)),
  λ right. absurd (c.if-len.true (c.len.ensures ∙ forests-length c.args.graph.now c.args.specs.now c.args.tables.now right ∙ sym c.len-2.ensures)),
)

pub returns-then-not-right : goal.returns-then-not-right
returns-then-not-right g c = (
  λ no. absurd (true≢false (sym no)),
  λ right. sym c.if-not-right.true ∙ c.in_ok-right.ensures.1 (forests-at c.args.graph.now c.args.specs.now c.args.tables.now right c.loop-k.k c.at.result.now c.at-in-loop-k.result.now c.at.ensures c.at-in-loop-k.ensures),
)

pub loop-k-preserved : goal.loop-k-preserved
loop-k-preserved g c j spec rows less at there = elim (cases_lt j c.loop-k.k) [
  | inl below ↦ c.loop-k.invariant j spec rows below at there
  | inr here ↦
      (let same : j ≡ c.loop-k.k = omega arith in
      let one : Some spec ≡ Some c.at.result.now = sym at ∙ ap (slice_get c.args.specs.now) same ∙ c.at.ensures in
      let two : Some rows ≡ Some c.at-in-loop-k.result.now = sym there ∙ ap (slice_get c.args.tables.now) same ∙ c.at-in-loop-k.ensures in
      let s : c.at.result.now ≡ spec = cc in
      let r : c.at-in-loop-k.result.now ≡ rows = cc in
      let right = c.in_ok-right.ensures.0 c.if-not-right.false in
      subst (λ (x : List ForestRow). IsForest c.args.graph.now spec (forest_in x)) r (subst (λ (p : Spec). IsForest c.args.graph.now p (forest_in c.at-in-loop-k.result.now)) s right))
]

pub returns : goal.returns
returns g c = (
  λ yes. forests-from c.args.graph.now c.args.specs.now c.args.tables.now (let e = c.if-len.false in let a = c.len.ensures in let b = c.len-2.ensures in omega arith)
      (λ j spec rows at there. c.loop-k.invariant j spec rows (let w = within-there c.args.specs.now j spec at in let e = c.len-k-end.ensures in let t = c.loop-k-test.false in omega arith) at there),
  λ right. refl,
)
