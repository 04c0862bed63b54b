use Rattle.std.proofs.Common.{◌≡◌, [], replicate}
use Rattle.ris_replay.proofs.lineups.queues_of.Given as goal

abbrev pub invariant-loop-session : goal.invariant-loop-session
invariant-loop-session l = l.queues.items ≡ replicate l._session []
