use Rattle.std.proofs.Common.{◌≡◌, ◌+◌, drop}
use Rattle.ris_base.specs.Transcript.{refused_count}
use Rattle.ris_text.proofs.counts.refused_in_all.Given as goal

abbrev pub invariant-loop-session : goal.invariant-loop-session
invariant-loop-session l = l.refused + refused_count (drop l.session l.logs) ≡ refused_count l.logs
