-- What a contract sees of a history.
use Rattle.std.specs.Prelude.{ℕ, ◌-◌, ◌==◌, if◌then◌else◌, List, [], slice_index_or}
use Rattle.ris_history.specs.Chains.{HeldView, ChainView, latest, number, chain_at}
use Rattle.ris_history.specs.declared.moves.Moved.{Moved}
use Rattle.ris_history.specs.declared.sessions.Session.{Session}

-- the chains up to the front: that of the vertex x by the analysis a is number x * analyses + a
pub record TableView : Type 0 where
  pub front : ℕ
  pub analyses : ℕ
  pub chains : List ChainView

-- the chains; the floor; the number of entries before the last leave, or 0; of each session its mark and whether it has left;
-- and for the places from the floor on which vertices each entry moved, the newest place first
pub record HistoryView : Type 0 where
  pub table : TableView
  pub floor : ℕ
  pub left_at : ℕ
  pub sessions : List Session
  pub moved : List (List Moved)

-- what holds at place v of the vertex x by the analysis a
abbrev pub shown : TableView → ℕ → ℕ → ℕ → HeldView
shown t v a x = latest (chain_at t.chains (number t.analyses a x)) v

-- the vertices that the entry at place v moved, each with the analysis
abbrev pub moved_at : HistoryView → ℕ → List Moved
moved_at h v = if v == 0 then [] else slice_index_or h.moved (h.table.front - v) []
