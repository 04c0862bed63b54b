use Rattle.std.proofs.Common.{◌≡◌, ◌-◌, ◌++◌, ◌∷◌, length}
use Rattle.ris_history.specs.HistoryView.{shown}
use Rattle.ris_history.specs.Reads.{climb}
use Rattle.ris_history.proofs.paths.path_of.Given as goal

abbrev pub invariant-loop-above : goal.invariant-loop-above
invariant-loop-above l =
    l.path ++ climb (length l.table.chains - l._above) l.table l.v l.a l.parent
    ≡ l.x ∷ climb (length l.table.chains) l.table l.v l.a (shown l.table l.v l.a l.x).parent
