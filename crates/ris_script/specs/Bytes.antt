-- The script that bytes spell, and what an answer to the question which one it is says.
use Rattle.std.specs.Prelude.{◌≡◌, ℕ, List, ⊤, Result, Ok, Err}
use Rattle.csv.specs.Reading.{default_config, records, strip_bom}
use Rattle.ris_base.specs.Script.{Fault, script_of_records}
use Rattle.ris_base.specs.declared.scripts.Script.{Script}
use Rattle.ris_script.specs.declared.faults.RecordError.{RecordError}
use Rattle.ris_script.specs.declared.faults.RecordError.TheVariants as why
use Rattle.ris_script.specs.declared.faults.ScriptError.{ScriptError}
use Rattle.ris_script.specs.declared.faults.ScriptError.TheVariants as error

-- the script that bytes spell, where a run has so many analyses, or its first fault. The records are those that `csv`
-- gives: comma, double quotes, no header row, records of any length, no trimming
unfoldable pub script_of : ℕ → List ℕ → Result Script Fault
script_of analyses bytes = script_of_records analyses (records default_config (strip_bom bytes))

-- an answer is what was to be read, the value or the first fault, unless memory was wanted
abbrev pub Reads : {T : Type 0} → Result T ScriptError → Result T Fault → Type 0
Reads (Ok value) expected = expected ≡ Ok value
Reads (Err (error.Fault number cause)) expected = expected ≡ Err (record { number = number; cause = cause })
Reads (Err error.NoMemory) expected = ⊤

-- the error of a record with this number
abbrev pub error_at : ℕ → RecordError → ScriptError
error_at number (why.Fault cause) = error.Fault number cause
error_at number why.NoMemory = error.NoMemory
