use Rattle.std.proofs.Common.{◌≡◌, take, length}
use Rattle.ris_history.specs.Chains.{with_changes}
use Rattle.ris_history.specs.Sound.{AllEndBy, with_dues}
use Rattle.ris_history.proofs.pushes.push_all.Given as goal

abbrev pub invariant-loop-k : goal.invariant-loop-k
invariant-loop-k l = record {
  waiting : l.waiting ≡ length l.fn.dues.items;
  ends : AllEndBy l.place l.chains.items;
  chains : l.chains.items ≡ with_changes l.analyses l.place l.fn.chains.items (take l.k l.changes);
  dues : l.dues.items ≡ with_dues l.analyses l.place l.fn.dues.items (take l.k l.changes);
}
