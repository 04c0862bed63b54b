use Rattle.std.proofs.Common.{take}
use Rattle.ris_four.specs.Neighbours.{AreNeighbours}
use Rattle.ris_four.proofs.neighbours.neighbour_lists.Given as goal

abbrev pub invariant-loop-t : goal.invariant-loop-t
invariant-loop-t l = AreNeighbours l.both (take l.t-index l.triples) l.count l.lists.items
