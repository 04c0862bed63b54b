-- The rows are those of the graph.
use Rattle.std.proofs.Common.{ℕ, ◌<◌, ◌^◌, ◌++◌, true, false, [], List, length, sym, subst, ◌∙◌}
use Rattle.std.specs.List.{All}
use Rattle.ris_base.specs.Limits.{vertex_limit}
use Rattle.ris_forest.specs.Cells.{forest_of}
use Rattle.ris_rows.specs.declared.neighbours.Neighbour.{Neighbour}
use Rattle.ris_repair.specs.Rows.{IsEnd, pairs, end_count}
use Rattle.ris_repair.specs.Stages.{PushesOn}
use Rattle.ris_repair.specs.Stores.{change_at}
use Rattle.ris_repair.proofs.RiseLemmas.{rise_within, rise_more}
use Rattle.ris_repair.proofs.RowLemmas.{out_weights, in_weights, out_ends, in_ends, ends_one, ends_two, end_count-one, end_count-two}
use Rattle.ris_repair.proofs.frontiers.Frontier.push_vertex.Goals as goal

pub push_row-requires-clause-weights : goal.push_row-requires-clause-weights
push_row-requires-clause-weights g c κs within =
    subst (λ (r : List Neighbour). All (λ m. m.weight < 2 ^ 36) r) (sym c.out_cursor-out_row.ensures.items) (out_weights c.args.graph.now c.requires.of.0 c.requires.of.1 c.args.vertex)

pub push_row-requires-2-clause-weights : goal.push_row-requires-2-clause-weights
push_row-requires-2-clause-weights g c κs within =
    subst (λ (r : List Neighbour). All (λ m. m.weight < 2 ^ 36) r) (sym c.in_cursor-in_row.ensures.items) (in_weights c.args.graph.now c.requires.of.0 c.requires.of.1 c.args.vertex)

pub returns-in_err-push_row-clause-ticks : goal.returns-in_err-push_row-clause-ticks
returns-in_err-push_row-clause-ticks g c =
    rise_within (g.M.Meter.ticks c.args.meter.now) (g.M.Meter.ticks c.push_row.new.meter) (length c.out_cursor-out_row.result) (end_count g.A.Monotone.BOTH_WAYS c.args.graph.now c.args.vertex) c.push_row.ensures.ticks
    (end_count-one g.A.Monotone.BOTH_WAYS c.args.graph.now c.args.vertex c.out_cursor-out_row.result c.out_cursor-out_row.ensures.items)

pub returns-then-not-BOTH_WAYS-clause-ticks : goal.returns-then-not-BOTH_WAYS-clause-ticks
returns-then-not-BOTH_WAYS-clause-ticks g c =
    rise_within (g.M.Meter.ticks c.args.meter.now) (g.M.Meter.ticks c.push_row.new.meter) (length c.out_cursor-out_row.result) (end_count g.A.Monotone.BOTH_WAYS c.args.graph.now c.args.vertex) c.push_row.ensures.ticks
    (end_count-one g.A.Monotone.BOTH_WAYS c.args.graph.now c.args.vertex c.out_cursor-out_row.result c.out_cursor-out_row.ensures.items)

pub returns-then-not-BOTH_WAYS-clause-kept : goal.returns-then-not-BOTH_WAYS-clause-kept
returns-then-not-BOTH_WAYS-clause-kept g c = λ graph fallen of start.
    c.in_ok-push_row.ensures.kept graph fallen []
    (subst (λ (r : List Neighbour). All (IsEnd graph (g.A.Monotone.spec c.args.forest.now.algo).kind true c.args.vertex) r) (sym c.out_cursor-out_row.ensures.items)
    (out_ends c.args.graph.now graph of (g.A.Monotone.spec c.args.forest.now.algo).kind c.args.vertex))
    (subst (λ (l : List (ℕ × ℕ)). PushesOn graph (g.A.Monotone.spec c.args.forest.now.algo) (forest_of c.args.forest.now.cells) vertex_limit fallen
    (change_at c.args.self.now.changes) c.args.self.now.queue c.args.vertex c.args.number l)
    (ends_one g.A.Monotone.BOTH_WAYS c.args.graph.now c.args.vertex c.out_cursor-out_row.result (sym c.if-not-BOTH_WAYS.ensures) c.out_cursor-out_row.ensures.items) start)

pub returns-in_err-push_row-2-clause-ticks : goal.returns-in_err-push_row-2-clause-ticks
returns-in_err-push_row-2-clause-ticks g c =
    rise_more (g.M.Meter.ticks c.args.meter.now) (g.M.Meter.ticks c.push_row.new.meter) (g.M.Meter.ticks c.push_row-2.new.meter) (length c.out_cursor-out_row.result) (length c.in_cursor-in_row.result)
    (end_count g.A.Monotone.BOTH_WAYS c.args.graph.now c.args.vertex) c.push_row.ensures.ticks c.push_row-2.ensures.ticks
    (end_count-two g.A.Monotone.BOTH_WAYS c.args.graph.now c.args.vertex c.out_cursor-out_row.result c.in_cursor-in_row.result (sym c.if-not-BOTH_WAYS.ensures)
    c.out_cursor-out_row.ensures.items c.in_cursor-in_row.ensures.items)

pub returns-clause-ticks : goal.returns-clause-ticks
returns-clause-ticks g c =
    rise_more (g.M.Meter.ticks c.args.meter.now) (g.M.Meter.ticks c.push_row.new.meter) (g.M.Meter.ticks c.push_row-2.new.meter) (length c.out_cursor-out_row.result) (length c.in_cursor-in_row.result)
    (end_count g.A.Monotone.BOTH_WAYS c.args.graph.now c.args.vertex) c.push_row.ensures.ticks c.push_row-2.ensures.ticks
    (end_count-two g.A.Monotone.BOTH_WAYS c.args.graph.now c.args.vertex c.out_cursor-out_row.result c.in_cursor-in_row.result (sym c.if-not-BOTH_WAYS.ensures)
    c.out_cursor-out_row.ensures.items c.in_cursor-in_row.ensures.items)

pub returns-clause-kept : goal.returns-clause-kept
returns-clause-kept g c = λ graph fallen of start.
    let kind = (g.A.Monotone.spec c.args.forest.now.algo).kind in
    let first = c.in_ok-push_row.ensures.kept graph fallen (pairs c.in_cursor-in_row.result ++ [])
    (subst (λ (r : List Neighbour). All (IsEnd graph kind true c.args.vertex) r) (sym c.out_cursor-out_row.ensures.items) (out_ends c.args.graph.now graph of kind c.args.vertex))
    (subst (λ (l : List (ℕ × ℕ)). PushesOn graph (g.A.Monotone.spec c.args.forest.now.algo) (forest_of c.args.forest.now.cells) vertex_limit fallen
    (change_at c.args.self.now.changes) c.args.self.now.queue c.args.vertex c.args.number l)
    (ends_two g.A.Monotone.BOTH_WAYS c.args.graph.now c.args.vertex c.out_cursor-out_row.result c.in_cursor-in_row.result (sym c.if-not-BOTH_WAYS.ensures)
    c.out_cursor-out_row.ensures.items c.in_cursor-in_row.ensures.items) start) in
    c.in_ok-push_row-2.ensures.kept graph fallen []
    (subst (λ (r : List Neighbour). All (IsEnd graph kind false c.args.vertex) r) (sym c.in_cursor-in_row.ensures.items)
    (in_ends c.args.graph.now graph of kind c.args.vertex (sym (g.met.A.Monotone.of_table c.args.forest.now.algo).ways ∙ sym c.if-not-BOTH_WAYS.ensures)))
    first
