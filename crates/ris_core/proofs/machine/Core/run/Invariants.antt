use Rattle.std.proofs.Common.{◌≤◌, map, take}
use Rattle.ris_base.specs.Machine.{step_of}
use Rattle.ris_core.specs.Runs.{AreTried}
use Rattle.ris_core.specs.Stands.{state_of}
use Rattle.ris_legal.specs.Held.{IsKept}
use Rattle.ris_core.proofs.machine.Core.run.Given as goal

abbrev pub invariant-loop-k : goal.invariant-loop-k
invariant-loop-k g l =
    AreTried l.fn.self (map step_of (take l.k l.events)) l.self-inside.board l.happened × IsKept (state_of l.self-inside.board) × (l.happened ≤ l.k)
