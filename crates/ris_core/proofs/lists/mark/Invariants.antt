use Rattle.std.proofs.Common.{◌≡◌, max, drop}
use Rattle.ris_base.specs.Lines.{mark}
use Rattle.ris_core.proofs.lists.mark.Given as goal

abbrev pub invariant-loop-line : goal.invariant-loop-line
invariant-loop-line l = max l.greatest (mark (drop l.line-index l.lines) l.session) ≡ mark l.lines l.session
