-- How an item of a chain is laid out.
use Rattle.std.specs.Prelude.{ℕ, if◌then◌else◌}
use Rattle.ris_base.specs.declared.analyses.Value.{Value}
use Rattle.ris_base.specs.declared.analyses.Value.TheVariants as value
use Rattle.ris_base.specs.declared.forests.Parent.{Parent}
use Rattle.ris_base.specs.declared.forests.Parent.TheVariants as parent
use Rattle.ris_history.specs.declared.held.Held.TheInside.{Inside}
use Rattle.ris_history.specs.declared.held.Kind.{Kind}
use Rattle.ris_history.specs.declared.held.Kind.TheVariants as kind

-- the value of this variant, and of this number where it has one
abbrev pub value_of : Kind → ℕ → Value
value_of kind.Absent number = value.Absent
value_of kind.Unreached number = value.Unreached
value_of kind.Num number = value.Num number

-- the value and the parent that the fields say
abbrev pub value_in : Inside → Value
value_in h = value_of h.kind h.number

abbrev pub parent_in : Inside → Parent
parent_in h = if h.has_parent then parent.From h.vertex h.source h.target h.weight else parent.None
