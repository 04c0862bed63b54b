-- What a new history holds, and what a record makes of what is held.
use Rattle.std.specs.Prelude.{ℕ, ◌+◌, ◌-◌, true, false, ◌&&◌, max, min, if◌then◌else◌, List, [], ◌∷◌, length, map, filter, fold, take, replicate, slice_set, slice_index_or, Option, Some, None, unwrap_or}
use Rattle.std.specs.Option.{option_map_or}
use Rattle.ris_base.specs.declared.forests.ForestRow.{ForestRow}
use Rattle.ris_base.specs.declared.lines.Line.{Line}
use Rattle.ris_base.specs.declared.lines.Line.TheVariants as line
use Rattle.ris_base.specs.declared.records.Change.{Change}
use Rattle.ris_base.specs.declared.records.Record.{Record}
use Rattle.ris_base.specs.declared.records.Start.{Start}
use Rattle.ris_history.specs.Chains.{is_taken, bound_of, grown, with_forests, with_changes, trimmed}
use Rattle.ris_history.specs.HistoryView.{TableView, HistoryView}
use Rattle.ris_history.specs.declared.moves.Moved.{Moved}
use Rattle.ris_history.specs.declared.sessions.Session.{Session}

-- The chains

-- those of these forests of place 0
unfoldable pub opened_table : List (List ForestRow) → TableView
opened_table forests = record { front = 0; analyses = length forests; chains = with_forests (length forests) 0 forests [] }

-- with the changes of one entry more
unfoldable pub entered_table : TableView → List Change → TableView
entered_table t changes = record t {
  front = t.front + 1;
  chains = with_changes t.analyses (t.front + 1) (grown (bound_of t.analyses changes) t.chains) changes;
}

-- without what no place from f on needs
unfoldable pub trimmed_table : ℕ → TableView → TableView
trimmed_table f t = record t { chains = map (trimmed f) t.chains }

-- Sessions

-- a session that has said nothing
abbrev pub new_session : Session
new_session = record { mark = 0; has_left = false }

-- the sessions where number s has released the places below upto; a session that isn't there changes nothing
abbrev pub with_mark : ℕ → ℕ → List Session → List Session
with_mark s upto sessions =
    let session = slice_index_or sessions s new_session in slice_set sessions s (record session { mark = max upto session.mark })

-- the sessions where number s has left
abbrev pub with_leave : ℕ → List Session → List Session
with_leave s sessions = let session = slice_index_or sessions s new_session in slice_set sessions s (record session { has_left = true })

-- the least mark over those that haven't left, where there is one
abbrev pub least_with : Option ℕ → Session → Option ℕ
least_with least session = if session.has_left then least else Some (option_map_or (min session.mark) least session.mark)

abbrev pub least_of : List Session → Option ℕ
least_of sessions = fold least_with None sessions

-- The history

-- what a new history holds
unfoldable pub opened : Start → HistoryView
opened start = record {
  table = opened_table start.forests;
  floor = 0;
  left_at = 0;
  sessions = replicate start.sessions new_session;
  moved = [];
}

-- the vertices that changes move, each with the analysis
abbrev pub moved_by : ℕ → List Change → List Moved
moved_by n changes = map (λ c. record { analysis = c.analysis; vertex = c.vertex }) (filter (λ c. is_taken n c && c.moved) changes)

-- the floor never falls: it is the least mark of those that haven't left, where all have left, the number of entries before the last leave
abbrev pub raised_floor : HistoryView → ℕ
raised_floor h = max h.floor (unwrap_or (least_of h.sessions) h.left_at)

-- with the floor that the sessions leave, and without what no place from it on needs
unfoldable pub raised : HistoryView → HistoryView
raised h = record h {
  table = trimmed_table (raised_floor h) h.table;
  floor = raised_floor h;
  moved = take (h.table.front - (raised_floor h - 1)) h.moved;
}

-- with one entry more
unfoldable pub entered : HistoryView → List Change → HistoryView
entered h changes = record h {
  table = entered_table h.table changes;
  moved = moved_by h.table.analyses changes ∷ h.moved;
}

-- with one record more: an entry with its changes, a mark or a leave
unfoldable pub applied_line : HistoryView → Line → List Change → HistoryView
applied_line h (line.Entry e) changes = entered h changes
applied_line h (line.Mark session seq upto) changes = raised (record h { sessions = with_mark session upto h.sessions })
applied_line h (line.Leave session seq) changes =
    raised (record h { sessions = with_leave session h.sessions; left_at = h.table.front })

abbrev pub applied : HistoryView → Record → HistoryView
applied h r = applied_line h r.line r.changes
