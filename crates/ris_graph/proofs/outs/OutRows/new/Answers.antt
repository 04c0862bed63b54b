use Rattle.std.proofs.Common.{◌≡◌, ◌∙◌, List, [], refl, ap, arith}
use Rattle.std.proofs.lemmas.List.{length-map}
use Rattle.std.proofs.lemmas.List.Elements.{All-map, All-weaker}
use Rattle.ris_rows.specs.RowView.{RowView}
use Rattle.ris_graph.specs.StripeView.{IsIdle, StripeView, fresh}
use Rattle.ris_graph.proofs.TableLemmas.{row_of-none, rows_of}
use Rattle.ris_graph.proofs.outs.OutRows.new.Goals as goal

idle-fresh : (s : StripeView) → s ≡ fresh [] [] → IsIdle s
idle-fresh s is = rw is (record { jobs = refl; log = refl; memory = refl })

pub invariant_of-result : goal.invariant_of-result
invariant_of-result g c = (
  (let test = c.loop-test.false in let size = c.loop.invariant.0 in omega arith),
  All-weaker (λ (s : StripeView). s ≡ fresh [] []) IsIdle idle-fresh c.loop.stripes.items c.loop.invariant.1,
)

pub returns-clause-stripes : goal.returns-clause-stripes
returns-clause-stripes g c = length-map c.loop.stripes.items (λ (s : StripeView). s.rows) ∙ (let test = c.loop-test.false in let size = c.loop.invariant.0 in omega arith)

pub returns-clause-rows : goal.returns-clause-rows
returns-clause-rows g c =
    row_of-none (rows_of c.loop.stripes.items)
    (All-map (λ (rows : List RowView). rows ≡ []) (λ (s : StripeView). s.rows) c.loop.stripes.items
    (All-weaker (λ (s : StripeView). s ≡ fresh [] []) (λ (s : StripeView). s.rows ≡ []) (λ s is. ap (λ (x : StripeView). x.rows) is) c.loop.stripes.items c.loop.invariant.1))
