use Rattle.ris_graph.proofs.UnloadLemmas.{AreTaken}
use Rattle.ris_graph.proofs.looses.unload.Given as goal

abbrev pub invariant-loop-job : goal.invariant-loop-job
invariant-loop-job g l = AreTaken l.fn.stripes.items l.stripes.items l.verdicts.items l.jobs l.job-index
