use Rattle.std.proofs.Common.{◌+◌, ◌++◌, length, ◌∷◌, arith, refl, sym}
use Rattle.ris_rows.specs.Neighbours.{IsAscending}
use Rattle.ris_graph.specs.Listings.{row_triples}
use Rattle.ris_graph.proofs.ListingLemmas.{ticked-zero, handed-first, row-step, rise-step, ticks-step}
use Rattle.ris_graph.proofs.listings.list_row.Goals as goal

pub loop-target-init : goal.loop-target-init
loop-target-init g c = record { ascending = c.requires; triples = refl; ticks = (0, omega arith, sym (ticked-zero (g.M.Meter.ticks c.args.meter.now))) }

pub loop-target-preserved : goal.loop-target-preserved
loop-target-preserved g c =
    let n = c.in-Some in
    let first = handed-first c.loop-target.cursor c.next.new.self n.target n.weight n.copies n.ensures.item n.ensures.rest in
    let up : IsAscending (record { end = n.target; weight = n.weight; copies = n.copies } ∷ c.next.new.self) = rw first at c.loop-target.invariant.ascending in
    let before = c.loop-target.invariant.ticks in
    let ticks = ticks-step c.args.source n.target n.weight n.copies (g.M.Meter.ticks c.args.meter.now) (g.M.Meter.ticks c.loop-target.meter) (g.M.Meter.ticks c.next.new.meter)
    (g.M.Meter.ticks c.push_copies.new.meter) before.0 (length (row_triples c.args.source c.args.cursor)) c.loop-target.cursor c.next.new.self first up.0 before.1 before.2
    n.ensures.ticks c.in_ok-push_copies.ensures.ticks in
    record {
      ascending = up.2;
      triples = row-step c.args.source n.target n.weight n.copies c.loop-target.triples c.push_copies.new.triples (c.args.triples.now ++ row_triples c.args.source c.args.cursor)
          c.loop-target.cursor c.next.new.self first c.loop-target.invariant.triples c.in_ok-push_copies.ensures.triples;
      ticks = (before.0 + n.copies, ticks.0, ticks.1);
    }

pub returns-in_err-push_copies-clause-rise : goal.returns-in_err-push_copies-clause-rise
returns-in_err-push_copies-clause-rise g c =
    let n = c.in-Some in
    let first = handed-first c.loop-target.cursor c.next.new.self n.target n.weight n.copies n.ensures.item n.ensures.rest in
    let up : IsAscending (record { end = n.target; weight = n.weight; copies = n.copies } ∷ c.next.new.self) = rw first at c.loop-target.invariant.ascending in
    let before = c.loop-target.invariant.ticks in
    rise-step c.args.source n.target n.weight n.copies (g.M.Meter.ticks c.args.meter.now) (g.M.Meter.ticks c.loop-target.meter) (g.M.Meter.ticks c.next.new.meter)
    (g.M.Meter.ticks c.push_copies.new.meter) before.0 (length (row_triples c.args.source c.args.cursor)) c.loop-target.cursor c.next.new.self first up.0 before.1 before.2
    n.ensures.ticks c.in_err-push_copies.ensures.rise
