use Rattle.std.proofs.Common.{◌<◌, ◌≤◌, length}
use Rattle.std.specs.List.{All}
use Rattle.ris_base.specs.Machine.{session_by}
use Rattle.ris_epoch.proofs.tests.batch_of.Given as goal

abbrev pub invariant-loop-session : goal.invariant-loop-session
invariant-loop-session l = record {
  here : All (λ r. session_by r < l.sessions) l.batch;
  few : length l.batch ≤ l.session-index;
}
