use Rattle.std.proofs.Common.{◌≡◌}
use Rattle.ris_base.specs.Lines.{least_mark}
use Rattle.ris_core.proofs.lists.least_mark.Given as goal

abbrev pub invariant-loop-session : goal.invariant-loop-session
invariant-loop-session l = l.least ≡ least_mark l.session l.lines
