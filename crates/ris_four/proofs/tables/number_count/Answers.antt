use Rattle.std.proofs.Common.{◌+◌, arith, get_or}
use Rattle.ris_four.proofs.TableLemmas.{number_bound-more, greater_is}
use Rattle.ris_four.proofs.tables.number_count.Goals as goal

pub loop-x-preserved : goal.loop-x-preserved
loop-x-preserved c =
    let grown = number_bound-more c.args.vertices.now c.loop-x.x-index 0 c.loop-x-test.true in
    let before = c.loop-x.invariant in
    let most = c.max-count.ensures in
    let greater = greater_is c.loop-x.count (get_or c.args.vertices.now c.loop-x.x-index 0 + 1) in
    omega arith
