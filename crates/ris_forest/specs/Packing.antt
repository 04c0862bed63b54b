-- How a value and a parent are packed.
use Rattle.std.specs.Prelude.{ℕ, ◌==◌, if◌then◌else◌}
use Rattle.ris_base.specs.declared.analyses.Value.{Value}
use Rattle.ris_base.specs.declared.analyses.Value.TheVariants.{Absent, Unreached, Num}
use Rattle.ris_base.specs.declared.forests.Parent.{Parent}
use Rattle.ris_base.specs.declared.forests.Parent.TheVariants as parent
use Rattle.ris_forest.specs.Cells.{Cell}
use Rattle.ris_forest.specs.declared.packing.Packed.{Packed}

-- the value that a number stands for: the greatest two stand for an absent and an unreached vertex
abbrev pub value_from : ℕ → Value
value_from n = if n == 18446744073709551615 then Absent else if n == 18446744073709551614 then Unreached else Num n

-- the packed parent
abbrev pub parent_from : Packed → Parent
parent_from p = if p.has_parent then parent.From p.vertex p.source p.target p.weight else parent.None

-- the packed value and parent
abbrev pub unpacked : Packed → Cell
unpacked p = record { value = value_from p.value; parent = parent_from p }
