use Rattle.std.proofs.Common.{length, sym}
use Rattle.ris_graph.specs.Listings.{triples_at}
use Rattle.ris_graph.proofs.ListingLemmas.{ticked-zero, IsRise-none}
use Rattle.ris_graph.proofs.graphs.Graph.list.Goals as goal

pub returns-in_err-push-clause-rise : goal.returns-in_err-push-clause-rise
returns-in_err-push-clause-rise g c = IsRise-none (g.M.Meter.ticks c.args.meter.now) (length (triples_at c.args.self.now c.args.x))

pub returns-else-has_vertex-clause-ticks : goal.returns-else-has_vertex-clause-ticks
returns-else-has_vertex-clause-ticks g c = rw (← c.if-has_vertex.ensures) (sym (ticked-zero (g.M.Meter.ticks c.args.meter.now)))

pub returns-else-has_vertex-clause-rise : goal.returns-else-has_vertex-clause-rise
returns-else-has_vertex-clause-rise g c = IsRise-none (g.M.Meter.ticks c.args.meter.now) (length (triples_at c.args.self.now c.args.x))
