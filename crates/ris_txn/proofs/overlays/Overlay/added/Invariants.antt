use Rattle.std.proofs.Common.{◌≡◌, ◌++◌}
use Rattle.ris_txn.specs.Listing.{chosen, is_added}
use Rattle.ris_txn.proofs.overlays.Overlay.added.Given as goal

abbrev pub invariant-loop-x : goal.invariant-loop-x
invariant-loop-x g l = l.added ++ chosen (is_added l.graph) l.x-iterator ≡ chosen (is_added l.graph) l.self.vertices.entries
