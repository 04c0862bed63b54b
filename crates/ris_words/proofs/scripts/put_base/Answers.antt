use Rattle.std.proofs.Common.{arith}
use Rattle.ris_words.proofs.MadeLemmas.{base-step, base-end}
use Rattle.ris_words.proofs.scripts.put_base.Goals as goal

pub loop-k-preserved : goal.loop-k-preserved
loop-k-preserved c = base-step c.args.base.now c.loop-k.k c.at.result.now _ _ _ _ c.at.ensures c.in_ok-put_word.ensures c.in_ok-put_edge.ensures c.loop-k.invariant

pub returns : goal.returns
returns c = base-end c.args.base.now c.loop-k.k _ _ (omega arith) c.loop-k.invariant
