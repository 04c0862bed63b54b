-- What the program makes of its words and its input.
use Rattle.std.specs.Prelude.{◌≡◌, ◌⊎◌, ℕ, ◌-◌, ◌^◌, ◌<◌, ◌≤◌, false, IsTrue, List, length, Some, ⊤, Result, IsOk}
use Rattle.ris_base.specs.CommandLine.{IsDemo, IsPlain}
use Rattle.ris_base.specs.Limits.{script_limit}
use Rattle.ris_base.specs.Script.{Bytes, Fault}
use Rattle.ris_base.specs.Status.{HasCauses, HasOutput, IsUntouched, MakesNoVisit, Program, Reports, Stream, reads_input, specs_of}
use Rattle.ris_base.specs.declared.jobs.Job.{Job}
use Rattle.ris_base.specs.declared.jobs.Job.TheVariants.{Demo, Replay}
use Rattle.ris_base.specs.declared.scripts.Script.{Script}
use Rattle.ris_base.specs.declared.statuses.Status.{Status}
use Rattle.ris_base.specs.declared.statuses.Status.TheVariants as status
use Rattle.ris_script.specs.Bytes.{script_of}
use Rattle.ris_words.specs.Made.{made_script}

-- a job is done without threads of its own
abbrev pub IsInline : Job → Type 0
IsInline (Replay threads workers specs) = threads ≡ false
IsInline (Demo seed size workers) = ⊤

-- the words say this job, which is done without threads of its own
abbrev pub Takes : List Bytes → Job → Type 0
Takes words job = IsPlain words job × IsInline job

-- the script of a job: the bytes of its input are read by `csv`, for as many analyses as the job has; and so are the bytes that are
-- made of a seed
abbrev pub script_for : Job → Bytes → Result Script Fault
script_for (Replay threads workers specs) bytes = script_of (length specs) bytes
script_for (Demo seed size workers) bytes = script_of (length (specs_of (Demo seed size workers))) (made_script seed size)

-- the program
abbrev pub program : Program
program = record { Takes = Takes; script = script_for }

-- how a demo may end, beside want of memory: its script has no fault and no input is read, so that a write alone can fail
abbrev pub MayEndDemo : Status → Type 0
MayEndDemo status.Ok = ⊤
MayEndDemo status.WriteFault = ⊤
MayEndDemo status.NoMemory = ⊤
MayEndDemo status.Usage = ⊥
MayEndDemo status.Script = ⊥
MayEndDemo status.TooLong = ⊥
MayEndDemo status.ReadFault = ⊥

-- a demo leaves the input alone, and no fault but a failed write ends it
pub record IsMade (input : Stream) (answered : Status) : Type 0 where
  pub alone : IsUntouched input
  pub ends : MayEndDemo answered

-- no operation of a stream failed: its count of faults stood below its end before, and is as it was
pub record IsFaultless (stream : Stream) : Type 0 where
  pub below : stream.faults_before < 2 ^ 64 - 1
  pub same : stream.faults_after ≡ stream.faults_before

-- an input held a job's script: it told bytes before, no more than a script may have, they spell the script, and no read failed
pub record HeldScript (input : Stream) (job : Job) : Type 0 where
  pub bytes : Bytes
  pub told : input.before ≡ Some bytes
  pub within : length bytes ≤ script_limit
  pub spelled : IsOk (script_for job bytes)
  pub reads : IsFaultless input

-- nothing but want of memory stood in the way of a job: the words say it, an input that it reads held its script, and no write failed
pub record IsReadyFor (words : List Bytes) (input output : Stream) (job : Job) : Type 0 where
  pub takes : Takes words job
  pub held : IsTrue (reads_input job) → HeldScript input job
  pub writes : IsFaultless output

-- what a run says of itself by its status: the status has its cause, the line of the status went to the faults, the headline holds
-- of the output, where the script wasn't known no visit was made, where the words say a demo the run is one of a made script, and
-- where nothing stood in the way of a job the run completed it, unless memory was wanted
pub record IsRun (words : List Bytes) (input output faults : Stream) (visits : ℕ) (answered : Status) : Type 0 where
  pub causes : HasCauses program words input output answered
  pub reports : Reports program words input faults answered
  pub headline : HasOutput program words input output visits answered
  pub still : MakesNoVisit answered visits
  pub makes : (seed size workers : ℕ) → IsDemo words seed size workers → IsMade input answered
  pub completes : (job : Job) → IsReadyFor words input output job → (answered ≡ status.Ok) ⊎ (answered ≡ status.NoMemory)
