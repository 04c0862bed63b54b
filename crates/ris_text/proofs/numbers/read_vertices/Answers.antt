use Rattle.std.proofs.Common.{arith}
use Rattle.ris_text.proofs.Rest.{drop-at}
use Rattle.ris_text.proofs.numbers.read_vertices.Goals as goal

pub loop-k-preserved : goal.loop-k-preserved
loop-k-preserved c = λ rest.
    c.loop-k.invariant (rw (drop-at c.args.vertices.now c.loop-k.k c.at.result.now c.at.ensures) (omega arith, rest))
