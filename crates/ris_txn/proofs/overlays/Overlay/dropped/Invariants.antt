use Rattle.std.proofs.Common.{◌≡◌, ◌++◌}
use Rattle.ris_txn.specs.Listing.{chosen, is_dropped}
use Rattle.ris_txn.proofs.overlays.Overlay.dropped.Given as goal

abbrev pub invariant-loop-x : goal.invariant-loop-x
invariant-loop-x g l = l.dropped ++ chosen (is_dropped l.graph) l.x-iterator ≡ chosen (is_dropped l.graph) l.self.vertices.entries
