use Rattle.std.proofs.Common.{arith}
use Rattle.ris_forest.specs.Cells.{forest_of}
use Rattle.ris_fall.proofs.GatheringLemmas.{Gathers-ends}
use Rattle.ris_fall.proofs.falling.add_ends.Goals as goal

pub add_child-requires-2 : goal.add_child-requires-2
add_child-requires-2 g c = c.in_ok-add_child.ensures.closed

pub returns : goal.returns
returns g c =
    Gathers-ends (forest_of c.args.forest.now.cells) c.args.net.now c.args.found.now c.add_child.new.found c.add_child-2.new.found
    (omega arith) c.in_ok-add_child.ensures c.in_ok-add_child-2.ensures
