use Rattle.std.proofs.Common.{◌≡◌, ◌+◌, drop}
use Rattle.ris_base.specs.Requests.{does_from}
use Rattle.ris_four.specs.Working.{plain_of}
use Rattle.ris_four.proofs.effects.plain_entered.Given as goal

-- what is left to do on the graph that is made so far is what was to do at first
abbrev pub invariant-loop-k : goal.invariant-loop-k
invariant-loop-k l = does_from 1 l.graph l.parts ≡ does_from (l.k + 1) (plain_of l.working) (drop l.k l.parts)
