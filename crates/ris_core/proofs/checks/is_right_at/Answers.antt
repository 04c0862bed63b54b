use Rattle.std.proofs.Common.{◌≡◌, ◌∙◌, sym, ap}
use Rattle.std.proofs.lemmas.Bool.{true≢false}
use Rattle.ris_base.specs.Forest.{forest_in, parent_in, up, value_in}
use Rattle.ris_core.specs.Rows.{value_at}
use Rattle.ris_core.proofs.RightRows.{same-value, value-same}
use Rattle.ris_core.proofs.RowScans.{value-is, value-true}
use Rattle.ris_core.proofs.checks.is_right_at.Goals as goal

pub returns-then-not-is_same_value : goal.returns-then-not-is_same_value
returns-then-not-is_same_value c = (
  λ no. absurd (true≢false (sym no)),
  λ right. sym c.if-not-is_same_value.true ∙ c.is_same_value.ensures
      ∙ value-is c.value_in.result c.value_at.result
      (c.value_in.ensures ∙ same-value c.args.graph.now c.args.spec c.args.values.now c.requires c.args.x _ right.value ∙ sym c.value_at.ensures),
)

pub returns : goal.returns
returns c =
    let value : value_in c.args.rows.now c.args.x ≡ value_at c.args.values.now c.args.x =
    sym c.value_in.ensures ∙ value-true c.value_in.result c.value_at.result (sym c.is_same_value.ensures ∙ c.if-not-is_same_value.false) ∙ c.value_at.ensures in
    let len = c.len.ensures in (
      λ yes. record {
        value = value-same c.args.graph.now c.args.spec c.args.values.now c.requires c.args.x (value_in c.args.rows.now c.args.x) value;
        parent = c.is_parent.ensures.0 c.if-not-is_parent.false;
        rooted = λ n is. ap (λ k. parent_in c.args.rows.now (up (forest_in c.args.rows.now) k c.args.x)) (sym len) ∙ c.is_rooted.ensures.0 yes n is;
      },
      λ right. c.is_rooted.ensures.1 (λ n is. ap (λ k. parent_in c.args.rows.now (up (forest_in c.args.rows.now) k c.args.x)) len ∙ right.rooted n is),
    )
