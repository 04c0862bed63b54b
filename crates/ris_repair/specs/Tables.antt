-- The changes that tables side by side say.
use Rattle.std.specs.Prelude.{ℕ, Bool, false, List, length, map, Option, Some, None, slice_index_or}
use Rattle.std.specs.List.{range_with_len}
use Rattle.ris_base.specs.declared.analyses.Value.{Value}
use Rattle.ris_base.specs.declared.analyses.Value.TheVariants as value
use Rattle.ris_base.specs.declared.forests.Parent.{Parent}
use Rattle.ris_base.specs.declared.forests.Parent.TheVariants as parent
use Rattle.ris_repair.specs.declared.stores.Change.{Change}
use Rattle.ris_repair.specs.declared.tables.Mark.{Mark}
use Rattle.ris_repair.specs.declared.tables.MarkKind.{MarkKind}
use Rattle.ris_repair.specs.declared.tables.MarkKind.TheVariants.{Unchanged, Absent, Unreached, Number}

-- the change that a mark of this kind says, settled or not, with this number where it says that there is one, and with this parent
abbrev pub change_by : MarkKind → Bool → ℕ → Parent → Option Change
change_by Unchanged s n p = None
change_by Absent s n p = Some (record { value = value.Absent; parent = p; settled = s })
change_by Unreached s n p = Some (record { value = value.Unreached; parent = p; settled = s })
change_by Number s n p = Some (record { value = value.Num n; parent = p; settled = s })

-- the change that a mark says, with this number where it says that there is one, and with this parent
abbrev pub change_of : Mark → ℕ → Parent → Option Change
change_of m n p = change_by m.kind m.settled n p

-- the mark of a vertex without a change
abbrev pub unmarked : Mark
unmarked = record { kind = Unchanged; settled = false }

-- the change that stands in a place
abbrev pub standing_at : List Mark → List ℕ → List Parent → ℕ → Option Change
standing_at marks numbers parents k = change_of (slice_index_or marks k unmarked) (slice_index_or numbers k 0) (slice_index_or parents k parent.None)

-- the changes in the places of all marks
unfoldable pub changes_of : List Mark → List ℕ → List Parent → List (Option Change)
changes_of marks numbers parents = map (standing_at marks numbers parents) (range_with_len 0 (length marks))

-- a number, and 0 for a value that is none
abbrev pub number_or_zero : Value → ℕ
number_or_zero value.Absent = 0
number_or_zero value.Unreached = 0
number_or_zero (value.Num n) = n
