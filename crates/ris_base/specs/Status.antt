-- The statuses of a run: their codes, their causes, and the lines that report them.
use Rattle.std.specs.Prelude.{◌≡◌, ◌≢◌, ◌⊎◌, ℕ, ◌+◌, ◌-◌, ◌^◌, ◌<◌, ◌≤◌, Bool, true, false, IsTrue, List, [], ◌∷◌, ◌++◌, length, take, Option, Some, IsSome, Result, Ok, Err, IsErr, IsOk, ⊤, codes, decimal}
use Rattle.ris_base.specs.Causes.{Rose}
use Rattle.ris_base.specs.Limits.{script_limit}
use Rattle.ris_base.specs.Script.{Bytes, Fault}
use Rattle.ris_base.specs.Transcript.{Transcript, IsTranscriptOf, setup_of, spelling, line_text, summary_fields}
use Rattle.ris_base.specs.Visits.{AreBounded}
use Rattle.ris_base.specs.declared.analyses.Kind.TheVariants.{Bfs, Sssp, Wcc}
use Rattle.ris_base.specs.declared.analyses.Spec.{Spec}
use Rattle.ris_base.specs.declared.jobs.Job.{Job}
use Rattle.ris_base.specs.declared.jobs.Job.TheVariants.{Replay, Demo}
use Rattle.ris_base.specs.declared.scripts.Cause.{Cause}
use Rattle.ris_base.specs.declared.scripts.Cause.TheVariants as cause
use Rattle.ris_base.specs.declared.scripts.Script.{Script}
use Rattle.ris_base.specs.declared.statuses.Status.{Status}
use Rattle.ris_base.specs.declared.statuses.Status.TheVariants as status

-- the exit status of the process
abbrev pub status_code : Status → ℕ
status_code status.Ok = 0
status_code status.Usage = 2
status_code status.Script = 3
status_code status.TooLong = 3
status_code status.ReadFault = 4
status_code status.WriteFault = 5
status_code status.NoMemory = 6

-- A call

-- what a call shows of a source or a sink: the bytes that it has left, or holds, before and after the call, where it tells
-- them, and its count of faults before and after
pub record Stream : Type 0 where
  pub before : Option Bytes
  pub after : Option Bytes
  pub faults_before : ℕ
  pub faults_after : ℕ

-- the same of one that tells its bytes and its count so
abbrev pub stream_of : {S : Type 0} → (S → Option (List ℕ)) → (S → ℕ) → S → S → Stream
stream_of bytes faults old new = record { before = bytes old; after = bytes new; faults_before = faults old; faults_after = faults new }

-- what a call makes of its words and its input: the job that it takes the words as; and the script that it reads for the job in the
-- input's bytes, or makes without an input, or the script's first fault
pub record Program : Type 1 where
  pub Takes : List Bytes → Job → Type 0
  pub script : Job → Bytes → Result Script Fault

-- the analyses of a job: those of its command line, and for a script that is made depth and shortest path from vertex 0 and
-- components
abbrev pub specs_of : Job → List Spec
specs_of (Replay threads workers specs) = specs
specs_of (Demo seed size workers) =
    record { kind = Bfs; root = 0 } ∷ record { kind = Sssp; root = 0 } ∷ record { kind = Wcc; root = 0 } ∷ []

-- whether a job reads the input
abbrev pub reads_input : Job → Bool
reads_input (Replay threads workers specs) = true
reads_input (Demo seed size workers) = false

-- the words say a job that the call takes, and P holds of it
abbrev pub OnJob : Program → List Bytes → (Job → Type 0) → Type 0
OnJob program words P = (job : Job) × program.Takes words job × P job

-- where the input tells its bytes before, it tells them after, and P holds of the two
abbrev pub OnTold : Stream → (Bytes → Bytes → Type 0) → Type 0
OnTold input P = (before : Bytes) → input.before ≡ Some before → (after : Bytes) × (input.after ≡ Some after) × P before after

-- Causes

-- the input was read to its end: no read failed, at most as many bytes as a script may have were left, and none is left now
pub record IsReadWhole (input : Stream) (before after : Bytes) : Type 0 where
  pub no_fault : input.faults_after ≡ input.faults_before
  pub within : length before ≤ script_limit
  pub end : after ≡ []

-- a job has the script that P speaks of: one that reads the input was read whole, where that tells its bytes; any other leaves the
-- input alone
abbrev pub HasScriptBy : Bool → Program → Stream → Job → (Result Script Fault → Type 0) → Type 0
HasScriptBy true program input job P = OnTold input (λ before after. IsReadWhole input before after × P (program.script job before))
HasScriptBy false program input job P = (input.after ≡ input.before) × (input.faults_after ≡ input.faults_before) × P (program.script job [])

abbrev pub HasScript : Program → Stream → Job → (Result Script Fault → Type 0) → Type 0
HasScript program input job P = HasScriptBy (reads_input job) program input job P

-- The cause of a status. The words say no job that the call takes; a read failed, and the count of its faults rose; more bytes were
-- taken than a script may have; the script has a fault; there is a script, and a write failed, and the count of its faults rose;
-- there is a script, and no write failed. Want of memory needs no cause
abbrev pub IsCause : Program → List Bytes → Stream → Stream → Status → Type 0
IsCause program words input output status.Usage = (job : Job) → ¬ (program.Takes words job)
IsCause program words input output status.ReadFault =
    OnJob program words (λ job. IsTrue (reads_input job) × Rose input.faults_before input.faults_after)
IsCause program words input output status.TooLong =
    OnJob program words (λ job. IsTrue (reads_input job) × OnTold input (λ before after. script_limit + length after < length before))
IsCause program words input output status.Script = OnJob program words (λ job. HasScript program input job IsErr)
IsCause program words input output status.WriteFault =
    OnJob program words (λ job. HasScript program input job IsOk × Rose output.faults_before output.faults_after)
IsCause program words input output status.Ok =
    OnJob program words (λ job. HasScript program input job IsOk × (output.faults_after ≡ output.faults_before))
IsCause program words input output status.NoMemory = ⊤

-- the input tells its bytes, and no count of faults stands at its end, so that causes can be seen
pub record IsSeen (input output : Stream) : Type 0 where
  pub before : IsSome input.before
  pub reads : input.faults_before < 2 ^ 64 - 1
  pub writes : output.faults_before < 2 ^ 64 - 1

-- a status is answered only where its cause holds; and where its cause holds and can be seen, it is answered, unless memory
-- was wanted
pub record IsExact (program : Program) (words : List Bytes) (input output : Stream) (answered : Status) (asked : Status) : Type 0 where
  pub only : answered ≡ asked → IsCause program words input output asked
  pub always : IsSeen input output → IsCause program words input output asked → (answered ≡ asked) ⊎ (answered ≡ status.NoMemory)

-- a fault of a stream is answered by this status, and never passed over: with any other status the count is as before
abbrev pub PassesNone : Stream → Status → Status → Type 0
PassesNone stream answered asked = answered ≢ asked → stream.faults_after ≡ stream.faults_before

-- each status has its cause, and no fault is passed over
pub record HasCauses (program : Program) (words : List Bytes) (input output : Stream) (answered : Status) : Type 0 where
  pub usage : IsExact program words input output answered status.Usage
  pub read_fault : IsExact program words input output answered status.ReadFault
  pub too_long : IsExact program words input output answered status.TooLong
  pub script : IsExact program words input output answered status.Script
  pub write_fault : IsExact program words input output answered status.WriteFault
  pub ok : IsExact program words input output answered status.Ok
  pub reads : PassesNone input answered status.ReadFault
  pub writes : PassesNone output answered status.WriteFault

-- Lines on the stream of faults

-- the word of a cause
abbrev pub cause_word : Cause → Bytes
cause_word cause.Header = codes "header"
cause_word cause.Base = codes "base"
cause_word cause.Field = codes "field"
cause_word cause.Session = codes "session"
cause_word cause.Left = codes "left"
cause_word cause.Op = codes "op"
cause_word cause.Analysis = codes "analysis"
cause_word cause.Inside = codes "inside"
cause_word cause.Close = codes "close"
cause_word cause.Parts = codes "parts"

-- the line of a fault of the script
abbrev pub script_line : Fault → Bytes
script_line fault = codes "ris: script: record " ++ decimal fault.number ++ codes ": " ++ cause_word fault.cause ++ 10 ∷ []

-- the line of a status, with the fault where it is that of the script
abbrev pub status_line : Status → Fault → Bytes
status_line status.Ok fault = []
status_line status.Usage fault = codes "ris: usage" ++ 10 ∷ []
status_line status.Script fault = script_line fault
status_line status.TooLong fault = codes "ris: input too long" ++ 10 ∷ []
status_line status.ReadFault fault = codes "ris: read fault" ++ 10 ∷ []
status_line status.WriteFault fault = codes "ris: write fault" ++ 10 ∷ []
status_line status.NoMemory fault = codes "ris: out of memory" ++ 10 ∷ []

-- where a stream tells what it holds, it grew by the bytes or, only where its count of faults rose, by a prefix of them
abbrev pub Grew : Stream → Bytes → Type 0
Grew stream bytes = (held : Bytes) → stream.before ≡ Some held
    → (stream.after ≡ Some (held ++ bytes))
    ⊎ ((k : ℕ) × (k < length bytes) × Rose stream.faults_before stream.faults_after × (stream.after ≡ Some (held ++ take k bytes)))

-- a stream is as before
pub record IsUntouched (stream : Stream) : Type 0 where
  pub bytes : stream.after ≡ stream.before
  pub faults : stream.faults_after ≡ stream.faults_before

-- the faults grew by exactly the line of the status, with the first fault of the script where it is that; at `Ok` they are as before
pub record Reports (program : Program) (words : List Bytes) (input faults : Stream) (answered : Status) : Type 0 where
  pub fault : Fault
  pub line : Grew faults (status_line answered fault)
  pub first : answered ≡ status.Script → OnJob program words (λ job. HasScript program input job (λ script. script ≡ Err fault))
  pub at_ok : answered ≡ status.Ok → IsUntouched faults

-- The output

-- what a job writes of a transcript: all of it, or its last line
abbrev pub written : Job → Transcript → Bytes
written (Replay threads workers specs) t = spelling t
written (Demo seed size workers) t = line_text (summary_fields t.summary)

-- the text is what a job writes of a transcript of its script with its analyses, whose last number is the visits; they are no more
-- than the script may take
pub record IsTextOf (program : Program) (job : Job) (script : Script) (visits : ℕ) (text : Bytes) : Type 0 where
  pub transcript : Transcript
  pub right : IsTranscriptOf (setup_of script (specs_of job)) script.commands transcript
  pub last : transcript.summary.visits ≡ visits
  pub bounded : AreBounded script (specs_of job) transcript visits
  pub text_is : text ≡ written job transcript

-- The headline. The words say a job that the call takes, its script was read or made, and where the output tells its bytes it grew by
-- the text of a transcript of that script, whose last number is the rise of the visits
abbrev pub IsAnswered : Program → List Bytes → Stream → Stream → ℕ → Type 0
IsAnswered program words input output visits = OnJob program words (λ job. HasScript program input job (λ read.
    (script : Script) × (read ≡ Ok script)
    × ((held : Bytes) → output.before ≡ Some held
    → (text : Bytes) × (output.after ≡ Some (held ++ text)) × IsTextOf program job script visits text)))

-- the same where a write failed: the output grew by a prefix of such a text, which lacks a byte of it at least
abbrev pub IsCutShort : Program → List Bytes → Stream → Stream → ℕ → Type 0
IsCutShort program words input output visits = OnJob program words (λ job. HasScript program input job (λ read.
    (script : Script) × (read ≡ Ok script)
    × ((held : Bytes) → output.before ≡ Some held
    → (text : Bytes) × (k : ℕ) × (k < length text) × (output.after ≡ Some (held ++ take k text))
    × IsTextOf program job script visits text)))

-- what stands in the output: at `Ok` the headline holds, at a failed write its cut form, and otherwise the output is as before
pub record HasOutput (program : Program) (words : List Bytes) (input output : Stream) (visits : ℕ) (answered : Status) : Type 0 where
  pub headline : answered ≡ status.Ok → IsAnswered program words input output visits
  pub cut_short : answered ≡ status.WriteFault → IsCutShort program words input output visits
  pub untouched : answered ≢ status.Ok → answered ≢ status.WriteFault → IsUntouched output

-- a run that ends before its script is known makes no visit
abbrev pub MakesNoVisit : Status → ℕ → Type 0
MakesNoVisit status.Usage visits = visits ≡ 0
MakesNoVisit status.Script visits = visits ≡ 0
MakesNoVisit status.TooLong visits = visits ≡ 0
MakesNoVisit status.ReadFault visits = visits ≡ 0
MakesNoVisit status.Ok visits = ⊤
MakesNoVisit status.WriteFault visits = ⊤
MakesNoVisit status.NoMemory visits = ⊤
