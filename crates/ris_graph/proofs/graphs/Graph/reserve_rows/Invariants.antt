use Rattle.ris_graph.specs.GraphView.{HasRoomOf}
use Rattle.ris_graph.proofs.graphs.Graph.reserve_rows.Given as goal

abbrev pub invariant-loop-stripe : goal.invariant-loop-stripe
invariant-loop-stripe g l = HasRoomOf l.initial.self l.self
