-- Priorities of numbers.
use Rattle.std.specs.Prelude.{ℕ, ◌-◌, ◌^◌, if◌then◌else◌}
use Rattle.ris_base.specs.Analysis.{better}
use Rattle.ris_base.specs.declared.analyses.Kind.{Kind}

-- the priority of a number, where the greater of two numbers is the better one or the less
abbrev pub priority_of : Kind → ℕ → ℕ
priority_of kind number = if better kind 1 0 then number else 2 ^ 64 - 1 - number
