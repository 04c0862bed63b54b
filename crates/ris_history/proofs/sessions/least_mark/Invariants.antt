use Rattle.std.proofs.Common.{◌≡◌, take}
use Rattle.ris_history.specs.Applied.{least_of}
use Rattle.ris_history.proofs.sessions.least_mark.Given as goal

abbrev pub invariant-loop-session : goal.invariant-loop-session
invariant-loop-session l = l.least ≡ least_of (take l.session-index l.sessions)
