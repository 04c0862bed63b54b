-- Steps from vertices that stand as they were.
use Rattle.std.specs.Prelude.{ℕ, Bool, false, if◌then◌else◌, Option}
use Rattle.ris_base.specs.Analysis.{step}
use Rattle.ris_base.specs.Forest.{Forest}
use Rattle.ris_base.specs.Safe.{beats}
use Rattle.ris_base.specs.declared.analyses.Kind.{Kind}
use Rattle.ris_base.specs.declared.analyses.Value.{Value}
use Rattle.ris_base.specs.declared.analyses.Value.TheVariants.{Absent, Unreached, Num}
use Rattle.ris_base.specs.declared.forests.Parent.TheVariants as parent
use Rattle.ris_base.specs.declared.graphs.Triple.{Triple}
use Rattle.ris_repair.specs.Changes.{is_better}
use Rattle.ris_repair.specs.declared.stores.Change.{Change}

-- whether the step over weight w from a value is better than what y has, which isn't settled
abbrev pub crosses : Kind → Forest → (ℕ → Option Change) → Value → ℕ → ℕ → Bool
crosses kind F old Absent w y = false
crosses kind F old Unreached w y = false
crosses kind F old (Num d) w y = is_better kind F old y (step kind d w)

-- that step
abbrev pub crossed : Kind → Value → ℕ → ℕ
crossed kind Absent w = 0
crossed kind Unreached w = 0
crossed kind (Num d) w = step kind d w

-- what a change becomes of the step along a triple from a vertex of this value, where that step is better
abbrev pub pulled : Kind → Change → Value → ℕ → Triple → Change
pulled kind best Absent from along = best
pulled kind best Unreached from along = best
pulled kind best (Num d) from along =
    if beats kind (step kind d along.weight) best.value
    then record { value = Num (step kind d along.weight); parent = parent.From from along.source along.target along.weight; settled = best.settled }
    else best
