use Rattle.std.proofs.Common.{◌≡◌, length}
use Rattle.ris_repair.specs.Changes.{AreQueued}
use Rattle.ris_repair.specs.Stores.{change_at}
use Rattle.ris_repair.proofs.frontiers.Frontier.take_best.Given as goal

abbrev pub invariant-loop-best : goal.invariant-loop-best
invariant-loop-best g l = (AreQueued (g.A.Monotone.spec l.forest.algo).kind (change_at l.self.changes) l.self.queue) × (change_at l.self.changes ≡ change_at l.initial.self.changes)

abbrev pub decreases-loop-best : goal.decreases-loop-best
decreases-loop-best g l = length l.self.queue
