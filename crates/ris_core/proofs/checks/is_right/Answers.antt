use Rattle.std.proofs.Common.{ap, ◌∙◌, arith, refl, sym}
use Rattle.ris_core.specs.Rows.{IsRightAt, bound_of}
use borrow.Author.Count.{below_more}
use Rattle.ris_base.specs.Forest.{forest_in}
use Rattle.ris_core.proofs.RightRows.{right-at, right-everywhere}
use Rattle.ris_core.proofs.checks.is_right.Goals as goal

pub returns-then-not-is_right_at : goal.returns-then-not-is_right_at
returns-then-not-is_right_at c = (
  λ no. absurd (cc),
  λ right. sym c.if-not-is_right_at.true ∙ c.is_right_at.ensures.1 (right-at c.args.graph.now c.args.spec c.args.rows.now right c.loop-x.x),
)

pub loop-x-preserved : goal.loop-x-preserved
loop-x-preserved c = below_more (λ y. IsRightAt c.args.graph.now c.args.spec (forest_in c.args.rows.now) y) c.loop-x.x c.loop-x.invariant (c.is_right_at.ensures.0 c.if-not-is_right_at.false)

pub returns : goal.returns
returns c = (
  λ yes. right-everywhere c.args.graph.now c.args.spec c.args.values.now c.args.rows.now c.requires
      (λ x less. c.loop-x.invariant x (let e = c.bound_of-x-end.ensures ∙ ap (λ n. bound_of n c.args.rows.now) c.len.ensures in omega arith)),
  λ right. refl,
)
