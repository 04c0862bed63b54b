use Rattle.std.proofs.Common.{◌≡◌, ◌≤◌, drop}
use Rattle.ris_base.specs.Lines.{front_at_leave}
use Rattle.ris_core.proofs.lists.front_at_leave.Given as goal

abbrev pub invariant-loop-line : goal.invariant-loop-line
invariant-loop-line l = (front_at_leave l.count l.at (drop l.line-index l.lines) ≡ front_at_leave 0 0 l.lines) × (l.count ≤ l.line-index)
