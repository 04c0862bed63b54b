use Rattle.std.proofs.Common.{◌≡◌, ◌-◌, ◌++◌, replicate}
use Rattle.ris_graph.specs.Ticks.{ticked}
use Rattle.ris_graph.proofs.listings.push_copies.Given as goal

abbrev pub invariant-loop : goal.invariant-loop
invariant-loop g l = record {
  triples : l.triples ≡ l.fn.triples ++ replicate l.counter l.triple;
  ticks : g.M.Meter.ticks l.meter ≡ ticked (g.M.Meter.ticks l.fn.meter) (l.counter - 1);
}
