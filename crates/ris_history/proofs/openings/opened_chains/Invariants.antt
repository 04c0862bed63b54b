use Rattle.std.proofs.Common.{◌≡◌, ◌<◌}
use Rattle.ris_history.specs.Chains.{number}
use Rattle.ris_history.proofs.OpeningLemmas.{IsFilled}
use Rattle.ris_history.proofs.openings.opened_chains.Given as goal

abbrev pub invariant-loop-number : goal.invariant-loop-number
invariant-loop-number l = record {
  place : number l.analyses l.a l.x ≡ l._number;
  within : 0 < l.analyses → l.a < l.analyses;
  filled : IsFilled l.analyses l._number l.forests l.taken.items l.chains.items;
}
