-- The parts of a history, by the records that it stands for.
use Rattle.std.specs.Prelude.{◌≡◌, ◌↔◌, ℕ, ◌-◌, ◌<◌, ◌≤◌, Bool, ◌&&◌, ◌==◌, if◌then◌else◌, List, [], ◌∷◌, ◌++◌, length, map, filter, slice_get, Some}
use Rattle.std.specs.List.{Contains}
use Rattle.std.specs.Option.{IsSomeAnd}
use Rattle.ris_base.specs.Forest.{Forest}
use Rattle.ris_base.specs.Lines.{front, mark, has_left, floor}
use Rattle.ris_base.specs.Records.{lines_of, forests_at}
use Rattle.ris_base.specs.Requests.{after}
use Rattle.ris_base.specs.Value.{Moves}
use Rattle.ris_base.specs.declared.analyses.Spec.{Spec}
use Rattle.ris_base.specs.declared.graphs.PlainGraph.{PlainGraph}
use Rattle.ris_base.specs.declared.records.Record.{Record}
use Rattle.ris_base.specs.declared.records.Start.{Start}
use Rattle.ris_history.specs.Chains.{HeldView, ChainView, number, chain_at, change_held}
use Rattle.ris_history.specs.HistoryView.{HistoryView, shown, moved_at}
use Rattle.ris_history.specs.Standing.{StandsFor, Placed, placed_from, unreplaced}

-- the changes that a chain holds, in order: its first item, where it isn't of place 0, and those behind it
abbrev pub changes_of : ChainView → List HeldView
changes_of c = (if c.first.place == 0 then [] else c.first ∷ []) ++ c.later

-- whether a placed change is of this analysis and vertex
abbrev pub is_of : ℕ → ℕ → Placed → Bool
is_of a x p = p.change.analysis == a && p.change.vertex == x

-- what a placed change says from its place on
abbrev pub placed_held : Placed → HeldView
placed_held p = change_held p.place p.change

-- the changes of records of one vertex by one analysis, in order, that no later one of them replaces at a place up to the floor, with
-- their places
abbrev pub unreplaced_of : ℕ → List Record → ℕ → ℕ → List HeldView
unreplaced_of sessions records a x =
    map placed_held (filter (is_of a x) (unreplaced (floor sessions (lines_of records)) (placed_from 0 records)))

-- Each part of a history is what records make it: the front, the floor, the mark of each session, which sessions have left, and the
-- changes held; and for each place from the floor up to the front its values, parents and moved vertices
pub record HasParts (h : HistoryView) (opening : PlainGraph) (specs : List Spec) (start : Start) (records : List Record) : Type 0 where
  pub front : h.table.front ≡ front (lines_of records)
  pub floor : h.floor ≡ floor start.sessions (lines_of records)
  pub marks : (s : ℕ) → s < start.sessions → IsSomeAnd (slice_get h.sessions s) (λ session. session.mark ≡ mark (lines_of records) s)
  pub left : (s : ℕ) → s < start.sessions → IsSomeAnd (slice_get h.sessions s) (λ session. session.has_left ≡ has_left (lines_of records) s)
  pub held : (a x : ℕ) → a < length specs
      → changes_of (chain_at h.table.chains (number h.table.analyses a x)) ≡ unreplaced_of start.sessions records a x
  pub values : (v a : ℕ) (F : Forest) → slice_get (forests_at start records v) a ≡ Some F → h.floor ≤ v → v ≤ h.table.front
      → (x : ℕ) → (shown h.table v a x).value ≡ F.value x
  pub parents : (v a : ℕ) (F : Forest) → slice_get (forests_at start records v) a ≡ Some F → h.floor ≤ v → v ≤ h.table.front
      → (x : ℕ) → (shown h.table v a x).parent ≡ F.parent x
  pub moved : (v a : ℕ) (spec : Spec) → slice_get specs a ≡ Some spec → h.floor ≤ v → v ≤ h.table.front
      → (x : ℕ) → Contains (moved_at h v) (record { analysis = a; vertex = x })
      ↔ Moves (after opening (lines_of records) (v - 1)) (after opening (lines_of records) v) spec x

-- whatever records a history stands for, its parts are what they make them
abbrev pub HistoriesHaveParts : Type 0
HistoriesHaveParts = (h : HistoryView) (opening : PlainGraph) (specs : List Spec) (start : Start) (records : List Record)
    → StandsFor h opening specs start records → HasParts h opening specs start records
