use Rattle.std.proofs.Common.{◌≡◌, length, sym, ap, ◌∙◌, rules}
use Rattle.ris_base.specs.Lines.{front}
use Rattle.ris_journal.specs.JournalView.{JournalView}
use Rattle.ris_journal.proofs.Positions.{length-positions_from}
use Rattle.ris_journal.proofs.journals.Journal.front.Goals as goal

pub returns : goal.returns
returns c =
    let lines = c.self.inside.lines.items in
    let size : c.len.result ≡ length c.self.inside.positions.items = search rules in
    size ∙ ap length c.self.invariant.found ∙ length-positions_from 0 lines ∙ ap (λ (j : JournalView). front j.lines) c.self.view_is
