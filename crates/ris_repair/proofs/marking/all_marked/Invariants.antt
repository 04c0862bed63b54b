use Rattle.std.proofs.Common.{◌&&◌, nat_lt}
use Rattle.ris_graph.specs.GraphView.{vertex_in}
use Rattle.ris_repair.specs.Changes.{AreQueued}
use Rattle.ris_repair.specs.Marks.{AreMarked}
use Rattle.ris_repair.specs.Stores.{change_at}
use Rattle.ris_repair.proofs.marking.all_marked.Given as goal

abbrev pub invariant-loop-x : goal.invariant-loop-x
invariant-loop-x g l = record {
  marks : AreMarked l.graph (g.A.Monotone.start_of l.forest.algo) (λ y. vertex_in l.graph y && nat_lt y l.x) (change_at l.frontier.changes);
  queued : AreQueued (g.A.Monotone.spec l.forest.algo).kind (change_at l.frontier.changes) l.frontier.queue;
}
