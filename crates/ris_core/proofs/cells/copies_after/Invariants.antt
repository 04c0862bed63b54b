use Rattle.std.proofs.Common.{◌≡◌, ◌+◌, ◌≤◌, drop}
use Rattle.ris_base.specs.Graph.{triple}
use Rattle.ris_base.specs.Machine.{copies_after}
use Rattle.ris_core.specs.Stands.{logs_of}
use Rattle.ris_core.proofs.cells.copies_after.Given as goal

abbrev pub invariant-loop-decision : goal.invariant-loop-decision
invariant-loop-decision l = (copies_after (triple l.u l.v l.w) l.left (logs_of (drop l.decision-index l.decided) l.stripe)
    ≡ copies_after (triple l.u l.v l.w) l.copies (logs_of l.decided l.stripe))
    × (l.left ≤ l.copies + l.decision-index)
