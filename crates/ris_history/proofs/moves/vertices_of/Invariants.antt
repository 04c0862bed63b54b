use Rattle.std.proofs.Common.{◌≡◌, take}
use Rattle.ris_history.proofs.MovedLemmas.{of_analysis}
use Rattle.ris_history.proofs.moves.vertices_of.Given as goal

abbrev pub invariant-loop-k : goal.invariant-loop-k
invariant-loop-k l = l.vertices.items ≡ of_analysis l.a (take l.k l.moved)
