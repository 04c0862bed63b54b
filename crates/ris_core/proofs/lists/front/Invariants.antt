use Rattle.std.proofs.Common.{◌≡◌, ◌+◌, ◌≤◌, drop}
use Rattle.ris_base.specs.Lines.{front}
use Rattle.ris_core.proofs.lists.front.Given as goal

abbrev pub invariant-loop-line : goal.invariant-loop-line
invariant-loop-line l = (l.count + front (drop l.line-index l.lines) ≡ front l.lines) × (l.count ≤ l.line-index)
