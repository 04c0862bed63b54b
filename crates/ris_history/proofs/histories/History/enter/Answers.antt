use Rattle.std.proofs.Common.{List, ◌∷◌, ap, ◌∙◌}
use Rattle.ris_history.specs.Applied.{entered, entered_table, moved_by}
use Rattle.ris_history.specs.HistoryView.{TableView, HistoryView}
use Rattle.ris_history.specs.declared.moves.Moved.{Moved}
use Rattle.ris_history.proofs.histories.History.enter.Goals as goal

pub returns-clause-ok : goal.returns-clause-ok
unfolding entered
returns-clause-ok c =
    let old = c.self.inside in
    let ds = c.args.changes.now in
    let with_table = λ (t : TableView). let h : HistoryView = record { table = t; floor = old.floor; left_at = old.left_at; sessions = old.sessions.items; moved = c.push_front_reserved.new.self.items } in h in
    let with_moved = λ (ms : List (List Moved)). let h : HistoryView = record { table = entered_table old.table ds; floor = old.floor; left_at = old.left_at; sessions = old.sessions.items; moved = ms } in h in
    ap with_table c.in_ok-enter.ensures.ok
    ∙ ap with_moved (c.push_front_reserved.ensures.items ∙ ap (λ (ms : List (List Moved)). c.in_ok-moved.moved ∷ ms) c.in_ok-reserve.ensures.items
    ∙ ap (λ (m : List Moved). m ∷ old.moved.items) (c.in_ok-moved.ensures ∙ ap (λ n. moved_by n ds) c.analyses.ensures))
    ∙ ap (λ (h : HistoryView). entered h ds) c.self.view_is
