use Rattle.std.proofs.Common.{◌≡◌, ◌++◌, length}
use Rattle.std.specs.Prelude.{replicate}
use Rattle.ris_history.specs.Chains.{no_chain}
use Rattle.ris_history.proofs.growth.grow.Given as goal

abbrev pub invariant-loop-done : goal.invariant-loop-done
invariant-loop-done l = record {
  size : l.before ≡ length l.fn.chains.items;
  chains : l.chains.items ≡ l.fn.chains.items ++ replicate l._done no_chain;
}
