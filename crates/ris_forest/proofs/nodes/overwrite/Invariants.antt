use Rattle.std.proofs.Common.{◌≡◌, drop}
use Rattle.ris_forest.specs.Commits.{committed}
use Rattle.ris_forest.specs.Linking.{cells_of, above_of, AreLinked}
use Rattle.ris_forest.proofs.nodes.overwrite.Given as goal

abbrev pub invariant-loop-k : goal.invariant-loop-k
invariant-loop-k l = record {
  cells : committed (cells_of l.nodes) (drop l.k l.delta) ≡ committed (cells_of l.initial.nodes) l.delta;
  linked : AreLinked l.nodes (above_of l.nodes);
}
