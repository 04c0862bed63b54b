use Rattle.std.proofs.Common.{◌≡◌, List, arith, ap, ◌∙◌}
use Rattle.std.specs.Prelude.{replicate}
use Rattle.ris_history.specs.Applied.{opened, opened_table, new_session}
use Rattle.ris_history.specs.HistoryView.{TableView, HistoryView}
use Rattle.ris_history.specs.declared.moves.Moved.{Moved}
use Rattle.ris_history.specs.declared.sessions.Session.{Session}
use Rattle.ris_history.proofs.histories.History.start.Goals as goal

pub returns-clause-ok : goal.returns-clause-ok
unfolding opened
returns-clause-ok c =
    let count : c.loop-session._session ≡ c.args.start.now.sessions = (let h = c.loop-session-test.false in let k = c.loop-session.auto._session-end in omega arith) in
    ap (λ (t : TableView). let h : HistoryView = record { table = t; floor = 0; left_at = 0; sessions = c.loop-session.sessions.items; moved = c.new.result.items } in h) c.in_ok-table.ensures
    ∙ ap (λ (ss : List Session). let h : HistoryView = record { table = opened_table c.args.start.now.forests; floor = 0; left_at = 0; sessions = ss; moved = c.new.result.items } in h)
    (c.loop-session.invariant ∙ ap (λ n. replicate n new_session) count)
    ∙ ap (λ (ms : List (List Moved)). let h : HistoryView = record { table = opened_table c.args.start.now.forests; floor = 0; left_at = 0; sessions = replicate c.args.start.now.sessions new_session; moved = ms } in h)
    c.new.ensures.items

pub returns-clause-stands : goal.returns-clause-stands
returns-clause-stands c opening specs right = record { right = right; held = returns-clause-ok c }
