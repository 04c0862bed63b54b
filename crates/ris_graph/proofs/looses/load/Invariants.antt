use Rattle.std.proofs.Common.{◌≡◌, take}
use Rattle.ris_graph.specs.Jobs.{by_stripe}
use Rattle.ris_graph.specs.Phase.{with_jobs}
use Rattle.ris_graph.proofs.TableLemmas.{rows_of}
use Rattle.ris_graph.proofs.looses.load.Given as goal

abbrev pub invariant-loop-job : goal.invariant-loop-job
invariant-loop-job g l = l.stripes.items ≡ with_jobs (rows_of l.fn.stripes.items) (by_stripe (take l.job-index l.jobs))
