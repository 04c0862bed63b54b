use Rattle.std.proofs.Common.{◌≡◌, replicate}
use Rattle.ris_script.specs.Standing.{silent}
use Rattle.ris_script.proofs.drafts.silent_sessions.Given as goal

abbrev pub invariant-loop : goal.invariant-loop
invariant-loop l = l.sessions.items ≡ replicate l.counter silent
