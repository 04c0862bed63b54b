use Rattle.std.proofs.Common.{◌≡◌, ◌+◌, ℕ, ◌++◌, length}
use Rattle.ris_rows.specs.Neighbours.{IsAscending}
use Rattle.ris_graph.specs.Ticks.{ticked}
use Rattle.ris_graph.specs.Listings.{row_triples}
use Rattle.ris_graph.proofs.listings.list_row.Given as goal

abbrev pub invariant-loop-target : goal.invariant-loop-target
invariant-loop-target g l = record {
  ascending : IsAscending l.cursor;
  triples : l.triples ++ row_triples l.source l.cursor ≡ l.fn.triples ++ row_triples l.source l.fn.cursor;
  ticks : (n : ℕ) × (n + length (row_triples l.source l.cursor) ≡ length (row_triples l.source l.fn.cursor)) × (g.M.Meter.ticks l.meter ≡ ticked (g.M.Meter.ticks l.fn.meter) n);
}

abbrev pub decreases-loop-target : goal.decreases-loop-target
decreases-loop-target g l = length l.cursor
