use Rattle.std.proofs.Common.{◌≡◌, length, take}
use Rattle.std.specs.List.{fold}
use Rattle.ris_graph.specs.Settling.{with_told}
use Rattle.ris_graph.proofs.settles.tell.Given as goal

abbrev pub invariant-loop-job : goal.invariant-loop-job
invariant-loop-job l = (l.verdicts.items ≡ fold with_told l.fn.verdicts.items (take l.job-index l.jobs)) × (length l.verdicts.items ≡ length l.fn.verdicts.items)
