use Rattle.std.proofs.Common.{◌≡◌, take}
use Rattle.std.specs.List.{fold}
use Rattle.ris_graph.specs.Settling.{with_added}
use Rattle.ris_graph.proofs.settles.add_copies.Given as goal

abbrev pub invariant-loop-job : goal.invariant-loop-job
invariant-loop-job g l = l.ins ≡ fold with_added l.fn.ins (take l.job-index l.jobs)
