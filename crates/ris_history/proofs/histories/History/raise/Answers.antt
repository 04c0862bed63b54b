use Rattle.std.proofs.Common.{◌≡◌, ℕ, ◌-◌, max, List, take, unwrap_or, ap, ◌∙◌}
use Rattle.ris_history.specs.Applied.{raised, trimmed_table, least_of}
use Rattle.ris_history.specs.HistoryView.{TableView, HistoryView}
use Rattle.ris_history.specs.declared.moves.Moved.{Moved}
use Rattle.ris_history.specs.declared.sessions.Session.{Session}
use Rattle.ris_history.proofs.histories.History.raise.Goals as goal

pub returns : goal.returns
unfolding raised trimmed_table
returns c =
    let old = c.self.inside in
    let least : c.unwrap_or-least.result ≡ unwrap_or (least_of c.self.inside.sessions.items) c.self.inside.left_at =
    c.unwrap_or-least.ensures ∙ ap (λ o. unwrap_or o old.left_at) (c.least_mark.ensures ∙ ap (λ (ss : List Session). least_of ss) c.deref.ensures.value) in
    let floor : c.max-self-inside.result ≡ max c.self.inside.floor (unwrap_or (least_of c.self.inside.sessions.items) c.self.inside.left_at) =
    c.max-self-inside.ensures ∙ ap (max old.floor) least in
    let places : c.saturating_sub-places.result ≡ c.self.inside.table.front - (c.max-self-inside.result - 1) =
    c.saturating_sub-places.ensures ∙ ap (λ k. c.front.result - k) c.saturating_sub.ensures
    ∙ ap (λ k. k - (c.max-self-inside.result - 1)) (c.front.ensures ∙ ap (λ (t : TableView). t.front) c.trim.ensures) in
    let made = λ (f : ℕ). let h : HistoryView = record {
      table = trimmed_table f old.table;
      floor = f;
      left_at = old.left_at;
      sessions = old.sessions.items;
      moved = take (old.table.front - (f - 1)) old.moved.items;
    } in h in
    ap (λ (t : TableView). let h : HistoryView = record { table = t; floor = c.max-self-inside.result; left_at = old.left_at; sessions = old.sessions.items; moved = c.truncate.new.self.items } in h) c.trim.ensures
    ∙ ap (λ (ms : List (List Moved)). let h : HistoryView = record { table = trimmed_table c.max-self-inside.result old.table; floor = c.max-self-inside.result; left_at = old.left_at; sessions = old.sessions.items; moved = ms } in h)
    (c.truncate.ensures.items ∙ ap (λ k. take k old.moved.items) places)
    ∙ ap made floor ∙ ap raised c.self.view_is
