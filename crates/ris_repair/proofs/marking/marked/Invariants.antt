use Rattle.std.proofs.Common.{take}
use Rattle.ris_repair.specs.Marks.{among, AreMarked}
use Rattle.ris_repair.specs.Stores.{change_at}
use Rattle.ris_repair.proofs.marking.marked.Given as goal

abbrev pub invariant-loop-k : goal.invariant-loop-k
invariant-loop-k g l = AreMarked l.graph (g.A.Monotone.start_of l.forest.algo) (among (take l.k l.fallen)) (change_at l.frontier.changes)
