use Rattle.std.proofs.Common.{◌≡◌, ◌∙◌, None, List, ap, sym}
use Rattle.std.specs.List.{slice_get}
use Rattle.std.proofs.lemmas.Option.{slice_get_past}
use Rattle.ris_base.specs.Machine.{Seat}
use Rattle.ris_core.proofs.AnswerScans.{outcome-absent}
use Rattle.ris_core.proofs.board.Board.outcome.Goals as goal

pub returns-in-None : goal.returns-in-None
returns-in-None c =
    let none : slice_get c.self.inside.seats.items c.args.session ≡ None =
    ap (λ (xs : List Seat). slice_get xs c.args.session) (sym c.deref.ensures.value) ∙ slice_get_past c.deref.result.now c.args.session c.in-None.ensures.lookup.3 in
    sym (outcome-absent c.args.self.now c.args.session c.args.seq (ap (λ l. slice_get l.seats c.args.session) (sym c.self.view_is) ∙ none))
