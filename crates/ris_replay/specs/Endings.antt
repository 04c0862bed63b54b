-- How a run ends, before its line is written.
use Rattle.std.specs.Prelude.{◌≡◌, ℕ, ◌+◌, ◌<◌, false, IsTrue, List, length, Err}
use Rattle.ris_base.specs.Causes.{Rose}
use Rattle.ris_base.specs.Limits.{script_limit}
use Rattle.ris_base.specs.Script.{Bytes, Fault}
use Rattle.ris_base.specs.Status.{Stream, Program, OnJob, OnTold, HasScript, reads_input, IsUntouched, IsAnswered, IsCutShort}
use Rattle.ris_base.specs.declared.jobs.Job.{Job}
use Rattle.ris_base.specs.declared.scripts.Cause.TheVariants as cause
use Rattle.ris_base.specs.declared.statuses.Status.{Status}
use Rattle.ris_base.specs.declared.statuses.Status.TheVariants as status
use Rattle.ris_replay.specs.declared.endings.Ending.{Ending}
use Rattle.ris_replay.specs.declared.endings.Ending.TheVariants as ending
use Rattle.ris_replay.specs.Reports.{reported_cause}

-- the status of an ending
abbrev pub status_of : Ending → Status
status_of ending.Done = status.Ok
status_of ending.Usage = status.Usage
status_of (ending.Script number cause) = status.Script
status_of ending.TooLong = status.TooLong
status_of ending.ReadFault = status.ReadFault
status_of ending.WriteFault = status.WriteFault
status_of ending.NoMemory = status.NoMemory

-- the fault that an ending reports, where it is one of the script
abbrev pub fault_of : Ending → Fault
fault_of (ending.Script number cause) = reported_cause number cause
fault_of other = reported_cause 0 cause.Header

-- no read, or no write, failed
abbrev pub HasNoFault : Stream → Type 0
HasNoFault stream = stream.faults_after ≡ stream.faults_before

-- more bytes were taken than a script may have
abbrev pub IsLong : Bytes → Bytes → Type 0
IsLong before after = script_limit + length after < length before

-- the words say a job that reads the input
abbrev pub ReadsInput : Program → List Bytes → Type 0
ReadsInput program words = OnJob program words (λ job. IsTrue (reads_input job))

-- where the words say a job that doesn't read the input, that is as before
abbrev pub LeavesAlone : Program → List Bytes → Stream → Type 0
LeavesAlone program words input = (job : Job) → program.Takes words job → reads_input job ≡ false → IsUntouched input

-- what holds where a run ends so, with so many visits
abbrev pub Ends : Program → List Bytes → Stream → Stream → ℕ → Ending → Type 0
Ends program words input output visits ending.Usage =
    ((job : Job) → ¬ (program.Takes words job)) × HasNoFault input × IsUntouched output × (visits ≡ 0)
Ends program words input output visits ending.ReadFault =
    ReadsInput program words × Rose input.faults_before input.faults_after × OnTold input (λ before after. ¬ (IsLong before after))
    × IsUntouched output × (visits ≡ 0)
Ends program words input output visits ending.TooLong =
    ReadsInput program words × HasNoFault input × OnTold input IsLong × IsUntouched output × (visits ≡ 0)
Ends program words input output visits (ending.Script number why) =
    OnJob program words (λ job. HasScript program input job (λ script. script ≡ Err (reported_cause number why)))
    × HasNoFault input × IsUntouched output × (visits ≡ 0)
Ends program words input output visits ending.WriteFault =
    IsCutShort program words input output visits × HasNoFault input × Rose output.faults_before output.faults_after
Ends program words input output visits ending.Done = IsAnswered program words input output visits × HasNoFault input × HasNoFault output
Ends program words input output visits ending.NoMemory = HasNoFault input × IsUntouched output × LeavesAlone program words input
