use Rattle.std.proofs.Common.{◌≡◌, take}
use Rattle.std.specs.List.{fold}
use Rattle.ris_graph.specs.Settling.{with_taken}
use Rattle.ris_graph.proofs.settles.take_copies.Given as goal

abbrev pub invariant-loop-job : goal.invariant-loop-job
invariant-loop-job g l = l.ins ≡ fold with_taken l.fn.ins (take l.job-index l.jobs)
