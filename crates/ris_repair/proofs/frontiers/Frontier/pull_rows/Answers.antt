-- The rows are those of the graph.
use Rattle.std.proofs.Common.{ℕ, ◌<◌, ◌^◌, ◌++◌, true, false, [], List, length, sym, subst, ap, ◌∙◌}
use Rattle.std.specs.List.{All}
use Rattle.ris_base.specs.Limits.{vertex_limit}
use Rattle.ris_forest.specs.Cells.{forest_of}
use Rattle.ris_rows.specs.declared.neighbours.Neighbour.{Neighbour}
use Rattle.ris_repair.specs.Changes.{is_number, with_change}
use Rattle.ris_repair.specs.declared.stores.Change.{Change}
use Rattle.ris_repair.specs.Rows.{IsOrigin, pairs, origin_count}
use Rattle.ris_repair.specs.Stages.{IsPrepared, unpulled}
use Rattle.ris_repair.specs.Stores.{change_at}
use Rattle.ris_repair.proofs.RiseLemmas.{rise_within, rise_more}
use Rattle.ris_repair.proofs.RowLemmas.{in_weights, out_weights, in_origins, out_origins, origins_one, origins_two, origin_count-one, origin_count-two}
use Rattle.ris_repair.proofs.frontiers.Frontier.pull_rows.Goals as goal

pub pull_row-requires-clause-weights : goal.pull_row-requires-clause-weights
pull_row-requires-clause-weights g c κs within =
    subst (λ (r : List Neighbour). All (λ m. m.weight < 2 ^ 36) r) (sym c.in_cursor-in_row.ensures.items) (in_weights c.args.graph.now c.requires.of.0 c.requires.of.1 c.args.vertex)

pub pull_row-requires-2-clause-weights : goal.pull_row-requires-2-clause-weights
pull_row-requires-2-clause-weights g c κs within =
    subst (λ (r : List Neighbour). All (λ m. m.weight < 2 ^ 36) r) (sym c.out_cursor-out_row.ensures.items) (out_weights c.args.graph.now c.requires.of.0 c.requires.of.1 c.args.vertex)

pub returns-then-not-BOTH_WAYS-clause-ticks : goal.returns-then-not-BOTH_WAYS-clause-ticks
returns-then-not-BOTH_WAYS-clause-ticks g c =
    rise_within (g.M.Meter.ticks c.args.meter.now) (g.M.Meter.ticks c.pull_row.new.meter) (length c.in_cursor-in_row.result) (origin_count g.A.Monotone.BOTH_WAYS c.args.graph.now c.args.vertex) c.pull_row.ensures.ticks
    (origin_count-one g.A.Monotone.BOTH_WAYS c.args.graph.now c.args.vertex c.in_cursor-in_row.result c.in_cursor-in_row.ensures.items)

pub returns-then-not-BOTH_WAYS-clause-kept : goal.returns-then-not-BOTH_WAYS-clause-kept
returns-then-not-BOTH_WAYS-clause-kept g c = λ p graph fallen rest queue of has start.
    let kind = (g.A.Monotone.spec c.args.forest.now.algo).kind in
    c.pull_row.ensures.kept p graph fallen rest [] queue has
    (subst (λ (r : List Neighbour). All (IsOrigin graph kind false c.args.vertex) r) (sym c.in_cursor-in_row.ensures.items) (in_origins c.args.graph.now graph of kind c.args.vertex))
    (subst (λ (l : List (ℕ × ℕ)). IsPrepared graph (g.A.Monotone.spec c.args.forest.now.algo) (forest_of c.args.forest.now.cells) vertex_limit fallen
    (with_change (change_at c.args.self.now.changes) c.args.vertex c.args.best.now) queue (unpulled p c.args.vertex l rest))
    (origins_one g.A.Monotone.BOTH_WAYS c.args.graph.now c.args.vertex c.in_cursor-in_row.result (sym c.if-not-BOTH_WAYS.ensures) c.in_cursor-in_row.ensures.items) start)

pub returns-clause-unchanged : goal.returns-clause-unchanged
returns-clause-unchanged g c = λ none.
    let last = c.pull_row-2.ensures.unchanged none in
    last ∙ c.pull_row.ensures.unchanged (ap (λ (k : Change). is_number k.value) (sym last) ∙ none)

pub returns-clause-ticks : goal.returns-clause-ticks
returns-clause-ticks g c =
    rise_more (g.M.Meter.ticks c.args.meter.now) (g.M.Meter.ticks c.pull_row.new.meter) (g.M.Meter.ticks c.pull_row-2.new.meter) (length c.in_cursor-in_row.result) (length c.out_cursor-out_row.result)
    (origin_count g.A.Monotone.BOTH_WAYS c.args.graph.now c.args.vertex) c.pull_row.ensures.ticks c.pull_row-2.ensures.ticks
    (origin_count-two g.A.Monotone.BOTH_WAYS c.args.graph.now c.args.vertex c.in_cursor-in_row.result c.out_cursor-out_row.result (sym c.if-not-BOTH_WAYS.ensures)
    c.in_cursor-in_row.ensures.items c.out_cursor-out_row.ensures.items)

pub returns-clause-kept : goal.returns-clause-kept
returns-clause-kept g c = λ p graph fallen rest queue of has start.
    let kind = (g.A.Monotone.spec c.args.forest.now.algo).kind in
    let first = c.pull_row.ensures.kept p graph fallen rest (pairs c.out_cursor-out_row.result ++ []) queue has
    (subst (λ (r : List Neighbour). All (IsOrigin graph kind false c.args.vertex) r) (sym c.in_cursor-in_row.ensures.items) (in_origins c.args.graph.now graph of kind c.args.vertex))
    (subst (λ (l : List (ℕ × ℕ)). IsPrepared graph (g.A.Monotone.spec c.args.forest.now.algo) (forest_of c.args.forest.now.cells) vertex_limit fallen
    (with_change (change_at c.args.self.now.changes) c.args.vertex c.args.best.now) queue (unpulled p c.args.vertex l rest))
    (origins_two g.A.Monotone.BOTH_WAYS c.args.graph.now c.args.vertex c.in_cursor-in_row.result c.out_cursor-out_row.result (sym c.if-not-BOTH_WAYS.ensures)
    c.in_cursor-in_row.ensures.items c.out_cursor-out_row.ensures.items) start) in
    c.pull_row-2.ensures.kept p graph fallen rest [] first.0 has
    (subst (λ (r : List Neighbour). All (IsOrigin graph kind true c.args.vertex) r) (sym c.out_cursor-out_row.ensures.items)
    (out_origins c.args.graph.now graph of kind c.args.vertex (sym (g.met.A.Monotone.of_table c.args.forest.now.algo).ways ∙ sym c.if-not-BOTH_WAYS.ensures)))
    first.1
