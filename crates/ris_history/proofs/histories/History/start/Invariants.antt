use Rattle.std.proofs.Common.{◌≡◌}
use Rattle.std.specs.Prelude.{replicate}
use Rattle.ris_history.specs.Applied.{new_session}
use Rattle.ris_history.proofs.histories.History.start.Given as goal

abbrev pub invariant-loop-session : goal.invariant-loop-session
invariant-loop-session l = l.sessions.items ≡ replicate l._session new_session
