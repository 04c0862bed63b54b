use Rattle.std.proofs.Common.{◌≡◌, ◌+◌, ◌-◌, ◌∙◌, Some, None, ap, sym, List, length}
use Rattle.std.specs.List.{slice_get}
use Rattle.ris_base.specs.Legal.{Asked}
use Rattle.ris_base.specs.Machine.{Seat, next_seq}
use Rattle.ris_core.proofs.AnswerScans.{next-last, next-none}
use Rattle.ris_core.proofs.seats.Seat.next_seq.Goals as goal

pub returns-in-Some-clause-exact : goal.returns-in-Some-clause-exact
returns-in-Some-clause-exact c =
    let cs = c.self.inside.commands.items in
    let at : slice_get cs (length cs - 1) ≡ Some c.in-Some.asked.now = ap (λ (xs : List Asked). slice_get xs (length xs - 1)) (sym c.deref.ensures.value) ∙ sym c.in-Some.ensures.value in
    ap (λ (x : Asked). x.seq + 1) c.asked.view_is ∙ next-last cs c.in-Some.asked.now at ∙ ap (λ (x : Seat). next_seq x.commands) c.self.view_is

pub returns-in-None-clause-exact : goal.returns-in-None-clause-exact
returns-in-None-clause-exact c =
    let cs = c.self.inside.commands.items in
    let at : slice_get cs (length cs - 1) ≡ None = ap (λ (xs : List Asked). slice_get xs (length xs - 1)) (sym c.deref.ensures.value) ∙ sym c.in-None.ensures.value in
    next-none cs at ∙ ap (λ (x : Seat). next_seq x.commands) c.self.view_is
