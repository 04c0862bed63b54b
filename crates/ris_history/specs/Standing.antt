-- The records that a history stands for.
use Rattle.std.specs.Prelude.{◌≡◌, ℕ, ◌+◌, Bool, ◌&&◌, ◌==◌, nat_le, if◌then◌else◌, List, [], ◌∷◌, ◌++◌, length, map, fold}
use Rattle.std.specs.List.{list_any}
use Rattle.ris_base.specs.Lines.{floor}
use Rattle.ris_base.specs.Records.{AreRight, is_entry, lines_of}
use Rattle.ris_base.specs.declared.analyses.Spec.{Spec}
use Rattle.ris_base.specs.declared.graphs.PlainGraph.{PlainGraph}
use Rattle.ris_base.specs.declared.records.Change.{Change}
use Rattle.ris_base.specs.declared.records.Record.{Record}
use Rattle.ris_base.specs.declared.records.Start.{Start}
use Rattle.ris_history.specs.Applied.{opened, applied}
use Rattle.ris_history.specs.HistoryView.{HistoryView}

-- A history stands for right records, for a graph of place 0, some analyses and a start, where it holds what they make one
-- after another of what the start makes
pub record StandsFor (h : HistoryView) (opening : PlainGraph) (specs : List Spec) (start : Start) (records : List Record) : Type 0 where
  pub right : AreRight opening specs start records
  pub held : h ≡ fold applied (opened start) records

-- a change, and the place of its entry
pub record Placed : Type 0 where
  pub place : ℕ
  pub change : Change

-- the changes of records in front of which n entries stand, in order
abbrev pub placed_from : ℕ → List Record → List Placed
placed_from n [] = []
placed_from n (r ∷ records) =
    let place = n + (if is_entry r.line then 1 else 0) in
    map (λ c. record { place = place; change = c }) r.changes ++ placed_from place records

-- whether the second is a change of the same vertex and analysis, at a place up to f
abbrev pub replaces : ℕ → Placed → Placed → Bool
replaces f p later =
    p.change.analysis == later.change.analysis && p.change.vertex == later.change.vertex && nat_le later.place f

-- the changes that no later one of the same vertex and analysis, at a place up to f, replaces, in order
abbrev pub unreplaced : ℕ → List Placed → List Placed
unreplaced f [] = []
unreplaced f (p ∷ later) = if list_any (replaces f p) later then unreplaced f later else p ∷ unreplaced f later

-- how many changes of records some place from their floor on needs
abbrev pub kept_count : ℕ → List Record → ℕ
kept_count sessions records = length (unreplaced (floor sessions (lines_of records)) (placed_from 0 records))
