use Rattle.std.proofs.Common.{◌≤◌, length, take}
use Rattle.std.specs.List.{All}
use Rattle.ris_base.specs.Limits.{vertex_limit}
use Rattle.ris_analysis.specs.AnyForest.{cells_of}
use Rattle.ris_analysis.specs.Analyses.{IsGrown}
use Rattle.ris_analysis.proofs.lists.make_room.Given as goal

abbrev pub invariant-loop-forest : goal.invariant-loop-forest
invariant-loop-forest l = record {
  ok : All (λ one. l.size ≤ length (cells_of one)) (take l.forest-index l.forests);
  grown : IsGrown l.initial.forests l.forests;
  few : l.size ≤ vertex_limit → All (λ one. length (cells_of one) ≤ vertex_limit) l.initial.forests → All (λ one. length (cells_of one) ≤ vertex_limit) l.forests;
}
