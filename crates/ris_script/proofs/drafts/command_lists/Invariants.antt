use Rattle.std.proofs.Common.{◌≡◌, map}
use Rattle.ris_script.specs.Standing.{Standing}
use Rattle.ris_script.proofs.drafts.command_lists.Given as goal

abbrev pub invariant-loop-session : goal.invariant-loop-session
invariant-loop-session l = l.lists ≡ map (λ (session : Standing). session.commands) l.yielded
