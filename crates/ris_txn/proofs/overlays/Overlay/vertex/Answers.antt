use Rattle.std.proofs.Common.{rules}
use Rattle.ris_txn.specs.Overlays.{vertex_note}
use Rattle.ris_txn.proofs.overlays.Overlay.vertex.Goals as goal

pub returns-in-Some : goal.returns-in-Some
unfolding vertex_note
returns-in-Some g c = search rules

pub returns-in-None : goal.returns-in-None
unfolding vertex_note
returns-in-None g c = search rules
