use Rattle.ris_text.specs.Small.{IsSmallLine}
use Rattle.ris_text.proofs.Rest.{all-at}
use Rattle.ris_text.proofs.numbers.read_lines.Goals as goal

pub loop-k-preserved : goal.loop-k-preserved
loop-k-preserved c = λ rest.
    c.loop-k.invariant (all-at IsSmallLine c.args.lines.now c.loop-k.k c.at.result.now c.at.ensures c.read_line.ensures rest)
