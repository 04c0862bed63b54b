use Rattle.std.proofs.Common.{sym}
use Rattle.ris_forest.specs.Cells.{forest_of}
use Rattle.ris_fall.proofs.GatheringLemmas.{Contains-absent}
use Rattle.ris_fall.proofs.falling.add_absent.Goals as goal

pub returns-in_ok-insert-in-Absent : goal.returns-in_ok-insert-in-Absent
returns-in_ok-insert-in-Absent g c =
    Contains-absent (forest_of c.args.forest.now.cells) c.args.x c.args.found.now c.insert.new.self (sym c.in-Absent.ensures.value) c.in_ok-insert-in-Absent.ensures.ok
