-- The script that bytes spell, from the records that a reader has left at their start.
use Rattle.std.proofs.Common.{◌≡◌, ℕ, List, [], ◌∷◌, Some, None, Ok, Err, refl}
use Rattle.csv.specs.Reading.{default_config, records, strip_bom}
use Rattle.ris_base.proofs.ScriptLaws.{script_of_records-readable}
use Rattle.ris_base.specs.Script.{Fields, Header, header_of, script_of_records, script_or_fault}
use Rattle.ris_base.specs.Shape.{IsReadable}
use Rattle.ris_base.specs.declared.scripts.Cause.TheVariants as cause
use Rattle.ris_base.specs.declared.scripts.Script.{Script}
use Rattle.ris_script.specs.Bytes.{script_of}

-- where there is no record
pub script_of-empty : (analyses : ℕ) (bytes : List ℕ) → records default_config (strip_bom bytes) ≡ []
    → script_of analyses bytes ≡ Err (record { number = 1; cause = cause.Header })
unfolding script_of script_of_records
script_of-empty analyses bytes e = rw e refl

-- where the first record is no header
pub script_of-headless : (analyses : ℕ) (bytes : List ℕ) (fields : Fields) (rest : List Fields)
    → records default_config (strip_bom bytes) ≡ fields ∷ rest → None ≡ header_of fields
    → script_of analyses bytes ≡ Err (record { number = 1; cause = cause.Header })
unfolding script_of script_of_records
script_of-headless analyses bytes fields rest e h = rw e (rw (← h, script_of_records) refl)

-- where it is one
pub script_of-behind : (analyses : ℕ) (bytes : List ℕ) (fields : Fields) (rest : List Fields) (h : Header)
    → records default_config (strip_bom bytes) ≡ fields ∷ rest → Some h ≡ header_of fields
    → script_of analyses bytes ≡ script_or_fault h analyses rest
unfolding script_of script_of_records
script_of-behind analyses bytes fields rest h e some = rw e (rw (← some, script_of_records) refl)

-- a script that bytes spell is readable
pub script_of-readable : (analyses : ℕ) (bytes : List ℕ) (script : Script) → script_of analyses bytes ≡ Ok script → IsReadable analyses script
unfolding script_of
script_of-readable analyses bytes script e = script_of_records-readable analyses (records default_config (strip_bom bytes)) script e
