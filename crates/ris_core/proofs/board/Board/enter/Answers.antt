use Rattle.std.proofs.Common.{◌∙◌, ap, length, sym}
use Rattle.ris_core.proofs.RightRows.{forests-length}
use Rattle.ris_core.proofs.board.Board.enter.Goals as goal

pub add_entry-requires-clause-full : goal.add_entry-requires-clause-full
add_entry-requires-clause-full g c =
    sym (forests-length c.args.after c.self.inside.specs c.args.tables (c.in_ok-right.ensures.0 c.if-not-right.false)) ∙ ap (λ l. length l.specs) c.self.view_is
