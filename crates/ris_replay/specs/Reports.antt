-- The fault that a report is given.
use Rattle.std.specs.Prelude.{ℕ, Option, Some, None}
use Rattle.ris_base.specs.Script.{Fault}
use Rattle.ris_base.specs.declared.scripts.Cause.{Cause}
use Rattle.ris_base.specs.declared.scripts.Cause.TheVariants.{Header}

-- a fault by its number and cause
abbrev pub reported_cause : ℕ → Cause → Fault
reported_cause number cause = record { number = number; cause = cause }

-- the fault that is given, where there is one
abbrev pub reported : Option (ℕ × Cause) → Fault
reported None = reported_cause 0 Header
reported (Some fault) = reported_cause fault.0 fault.1
