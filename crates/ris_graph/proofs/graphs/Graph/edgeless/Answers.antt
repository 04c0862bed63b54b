use Rattle.std.proofs.Common.{◌≡◌, List, [], ap, rules, arith, ◌∙◌}
use Rattle.std.proofs.lemmas.Grind.{common_steps}
use Rattle.ris_rows.specs.RowView.{RowView}
use Rattle.ris_graph.specs.GraphView.{GraphView, row_at}
use Rattle.ris_graph.proofs.GraphLemmas.{IsSound-from_IsOf}
use Rattle.ris_graph.proofs.StartLemmas.{IsEdgeless, IsSized-edgeless, IsOf-edgeless, based}
use Rattle.ris_graph.proofs.graphs.Graph.edgeless.Goals as goal
use Rattle.ris_graph.proofs.graphs.Graph.edgeless.Given.{Over}
use Rattle.ris_graph.proofs.graphs.Graph.edgeless.Goals.{In_ok-present}

made : (g : Over) (c : In_ok-present g) → GraphView
made g c = record { format = c.args.format; stripes = c.grow.new.self; ins = c.grow-2.new.self; present = c.in_ok-present.present.items }

edgeless : (g : Over) (c : In_ok-present g) → IsEdgeless (made g c) c.args.vertices
unfolding made
edgeless g c = record {
  stripes = c.in_ok-grow.ensures.stripes ∙ c.in_ok-outs.ensures.stripes;
  out_rows = λ u. c.in_ok-grow.ensures.rows u ∙ c.in_ok-outs.ensures.rows u;
  outs = λ u lt. c.in_ok-grow.ensures.ok u (grind (arith, common_steps));
  in_rows = λ v. c.in_ok-grow-2.ensures.rows v ∙ ap (λ (rows : List RowView). row_at rows v) (let empty : c.new-ins.result ≡ [] = search rules in empty);
  ins = c.in_ok-grow-2.ensures.ok;
  present = c.in_ok-present.ensures.items_if_clones_equal (λ y same. same);
  few = c.requires;
}

pub invariant_of-result : goal.invariant_of-result
unfolding made
invariant_of-result g c = IsSound-from_IsOf (made g c) (based c.args.format c.args.vertices []) (IsSized-edgeless (made g c) c.args.vertices (edgeless g c)) (IsOf-edgeless (made g c) c.args.vertices (edgeless g c))

pub returns : goal.returns
unfolding made
returns g c = IsOf-edgeless (made g c) c.args.vertices (edgeless g c)
