use Rattle.ris_graph.specs.GraphView.{HasRoomOf}
use Rattle.ris_graph.proofs.graphs.Graph.reserve_ins.Given as goal

abbrev pub invariant-loop-x : goal.invariant-loop-x
invariant-loop-x g l = HasRoomOf l.initial.self l.self
