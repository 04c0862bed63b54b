use Rattle.std.proofs.Common.{◌∙◌, ap, refl, arith}
use Rattle.ris_core.specs.Rows.{bound_of}
use Rattle.ris_core.proofs.RightRows.{same-forest}
use Rattle.ris_core.proofs.tables.is_same_forest.Goals as goal

pub returns : goal.returns
returns c = (
  λ yes. same-forest c.args.a.now c.args.b.now
      (λ x less. c.loop-x.invariant x (let e = c.bound_of-x-end.ensures ∙ ap (λ n. bound_of n c.args.b.now) c.bound_of.ensures in let t = c.loop-x-test.false in omega arith)),
  λ same. refl,
)
