-- What the text of a replay is, and what a run says of itself.
use Rattle.std.proofs.Common.{◌≡◌, ◌⊎◌, ℕ, ◌+◌, ◌≤◌, sym, subst, ◌∙◌, IsTrue, List, [], Result, Ok, Err, refl, arith, inl, inr}
use Rattle.std.specs.List.{AllByRecursion}
use Rattle.std.specs.Result.{IsErr, IsOk}
use Rattle.ris_base.specs.Causes.{Rose}
use Rattle.ris_base.specs.CommandLine.{IsDemo}
use Rattle.ris_base.specs.Falling.{start_reach}
use Rattle.ris_base.specs.Script.{Bytes, Fault, opening_of}
use Rattle.ris_base.specs.Status.{Grew, HasCauses, HasScript, IsTextOf, IsUntouched, OnJob, OnTold, Stream, reads_input, specs_of, status_line, written}
use Rattle.ris_base.specs.Transcript.{IsSmall, all_lines, setup_of}
use Rattle.ris_base.specs.Visits.{IsReachOfGrowth}
use Rattle.ris_base.specs.declared.analyses.Spec.{Spec}
use Rattle.ris_base.specs.declared.jobs.Job.{Job}
use Rattle.ris_base.specs.declared.jobs.Job.TheVariants.{Demo, Replay}
use Rattle.ris_base.specs.declared.lines.Line.{Line}
use Rattle.ris_base.specs.declared.replies.LogLine.{LogLine}
use Rattle.ris_base.specs.declared.scripts.Script.{Script}
use Rattle.ris_base.specs.declared.statuses.Status.{Status}
use Rattle.ris_base.specs.declared.statuses.Status.TheVariants as status
use Rattle.ris_base.proofs.ScriptLaws.{script_of_records-readable}
use Rattle.ris_base.specs.Shape.{IsReadable}
use Rattle.ris_script.specs.Bytes.{script_of}
use Rattle.ris_text.specs.Journal.{transcript_of}
use Rattle.ris_text.proofs.Laws.{IsMade, all_made, legal_transcript, lines_named-journal}
use Rattle.ris_replay.specs.Endings.{Ends, IsLong, fault_of, status_of}
use Rattle.ris_replay.specs.Jobs.{IsFit, IsReplayed, script_in}
use Rattle.ris_replay.specs.Program as run
use Rattle.ris_replay.specs.Program.{HeldScript, IsReadyFor, IsRun, MayEndDemo, Takes, program, script_for}
use Rattle.ris_replay.specs.Reports.{reported_cause}
use Rattle.ris_replay.specs.declared.endings.Ending.TheVariants as ending
use Rattle.ris_replay.specs.declared.endings.Ending.{Ending}
use Rattle.ris_replay.proofs.EndingFacts.{causes, is-ok, ok-err, output_of, report, rose-same, visits_of}
use Rattle.ris_replay.proofs.JobFacts.{one-job, taken-fit}
use Rattle.ris_replay.proofs.MadeFacts.{made-script}

-- a script that was read is readable
pub script-readable : (analyses : ℕ) (bytes : Bytes) (s : Script) → script_of analyses bytes ≡ Ok s → IsReadable analyses s
unfolding script_of
script-readable analyses bytes s e = script_of_records-readable analyses _ s e

-- The text

-- what a job writes of a replay, with numbers below 2^64 and visits that were counted, is a text of its script
pub text-right : (job : Job) (bytes : Bytes) (logs : List (List LogLine)) (lines : List Line) (visits rise : ℕ) (text : Bytes)
    → IsReplayed (specs_of job) bytes logs lines visits → visits ≡ rise → text ≡ written job (transcript_of logs lines visits)
    → AllByRecursion (AllByRecursion IsSmall) (all_lines (transcript_of logs lines visits))
    → (script : Script) × (script_in job bytes ≡ Ok script) × IsTextOf program job script rise text
text-right job bytes logs lines visits rise text replayed same spelled small = (
  script,
  replayed.spelled,
  record {
    transcript = transcript_of logs lines visits;
    right = legal_transcript (setup_of script (specs_of job)) script.commands logs lines visits replayed.answered.form replayed.answered.legal small;
    last = same;
    bounded = λ grows quiet n reach.
        let few = replayed.within grows quiet n
        (subst (λ (ls : List Line). IsReachOfGrowth (opening_of script) (specs_of job) ls n) (lines_named-journal script.commands 0 lines made) reach) in
        subst (λ (v : ℕ). v ≤ start_reach (opening_of script) (specs_of job) + n) same few;
    text_is = spelled;
  },
)
  where
    script : Script
    script = replayed.script

    made : AllByRecursion (IsMade script.commands) lines
    made = all_made script.commands lines replayed.answered.legal.each_once.of_commands

-- the same of a job by what it is
pub text-of_job : (job same_job : Job) (specs : List Spec) (bytes : Bytes) (logs : List (List LogLine)) (lines : List Line) (visits rise : ℕ) (text : Bytes) → job ≡ same_job
    → specs ≡ specs_of same_job → IsReplayed specs bytes logs lines visits → visits ≡ rise → text ≡ written same_job (transcript_of logs lines visits)
    → AllByRecursion (AllByRecursion IsSmall) (all_lines (transcript_of logs lines visits))
    → (script : Script) × (script_in job bytes ≡ Ok script) × IsTextOf program job script rise text
text-of_job job same_job specs bytes logs lines visits rise text is has replayed same spelled small =
    subst (λ (j : Job). (script : Script) × (script_in j bytes ≡ Ok script) × IsTextOf program j script rise text) (sym is)
    (text-right same_job bytes logs lines visits rise text (subst (λ (ss : List Spec). IsReplayed ss bytes logs lines visits) has replayed) same spelled small)

-- The run

-- a made script has no fault
no-fault : (seed size workers : ℕ) (fault : Fault) → size ≤ 1000000 → script_for (Demo seed size workers) [] ≡ Err fault → ⊥
no-fault seed size workers fault most e = let made = made-script seed size most in let clash = sym made.1 ∙ e in cc

-- how a run of a demo ends
made-right : (words : List Bytes) (input output : Stream) (visits : ℕ) (e : Ending) (seed size workers : ℕ) → IsDemo words seed size workers
    → Ends program words input output visits e → run.IsMade input (status_of e)
made-right words input output visits e seed size workers is h = by e h
  where
    job : Job
    job = Demo seed size workers

    takes : Takes words job
    takes = (is, tt)

    -- what the words' job has, the demo has
    of : (P : Job → Type 0) → OnJob program words P → P job
    of P p = subst P (one-job words p.0 job p.1 takes) p.2

    scripted : (P : Job → Result Script Fault → Type 0) → OnJob program words (λ job. HasScript program input job (P job)) → IsUntouched input × P job (script_for job [])
    scripted P p = let q = of (λ job. HasScript program input job (P job)) p in (record { bytes = q.0; faults = q.1 }, q.2)

    never : OnJob program words (λ job. IsTrue (reads_input job)) → ⊥
    never p = let no = of (λ job. IsTrue (reads_input job)) p in cc

    by : (e : Ending) → Ends program words input output visits e → run.IsMade input (status_of e)
    by ending.Usage h = absurd (h.0 job takes)
    by ending.ReadFault h = absurd (never h.0)
    by ending.TooLong h = absurd (never h.0)
    by (ending.Script number why) h =
        let s = scripted (λ job script. script ≡ Err (reported_cause number why)) h.0 in
        absurd (no-fault seed size workers (reported_cause number why) (taken-fit words job takes).0.most s.1)
    by ending.WriteFault h = record { alone = (scripted _ h.0).0; ends = tt }
    by ending.Done h = record { alone = (scripted _ h.0).0; ends = tt }
    by ending.NoMemory h = record { alone = h.2 job takes refl; ends = tt }

-- where an input that a job reads held its script, that has no fault
script-held : (input : Stream) (job : Job) → IsFit job → (IsTrue (reads_input job) → HeldScript input job) → HasScript program input job IsErr → ⊥
script-held input (Replay threads workers specs) fit held h =
    let own = held refl in
    ok-err (script_for (Replay threads workers specs) own.bytes) own.spelled (h own.bytes own.told).2.1
script-held input (Demo seed size workers) fit held h =
    let made = made-script seed size fit.0.most in
    ok-err (script_for (Demo seed size workers) []) (is-ok (script_for (Demo seed size workers) []) made.0 made.1) h.2

-- a job that nothing stood in the way of is completed, unless memory was wanted
completed : (words : List Bytes) (input output : Stream) (answered : Status) (job : Job) → HasCauses program words input output answered
    → IsReadyFor words input output job → (answered ≡ status.Ok) ⊎ (answered ≡ status.NoMemory)
completed words input output answered job caused ready = by answered refl
  where
    -- what the words' job has, this job has
    of : (P : Job → Type 0) → OnJob program words P → P job
    of P p = subst P (one-job words p.0 job p.1 ready.takes) p.2

    by : (s : Status) → answered ≡ s → (answered ≡ status.Ok) ⊎ (answered ≡ status.NoMemory)
    by status.Ok is = inl is
    by status.NoMemory is = inr is
    by status.Usage is = absurd (caused.usage.only is job ready.takes)
    by status.ReadFault is =
        let cause = of (λ job. IsTrue (reads_input job) × Rose input.faults_before input.faults_after) (caused.read_fault.only is) in
        let sound = (ready.held cause.0).reads in
        absurd (rose-same input.faults_before input.faults_after sound.below cause.1 sound.same)
    by status.TooLong is =
        let cause = of (λ job. IsTrue (reads_input job) × OnTold input IsLong) (caused.too_long.only is) in
        let own = ready.held cause.0 in
        let within = own.within in
        let long = (cause.1 own.bytes own.told).2 in
        absurd (omega arith)
    by status.Script is =
        absurd (script-held input job (taken-fit words job ready.takes) ready.held (of (λ job. HasScript program input job IsErr) (caused.script.only is)))
    by status.WriteFault is =
        let cause = of (λ job. HasScript program input job IsOk × Rose output.faults_before output.faults_after) (caused.write_fault.only is) in
        absurd (rose-same output.faults_before output.faults_after ready.writes.below cause.1 ready.writes.same)

-- what a run says of itself, by how it ended
pub run-right : (words : List Bytes) (input output faults : Stream) (visits : ℕ) (e : Ending) (answered : Status) → Ends program words input output visits e
    → answered ≡ status_of e → Grew faults (status_line (status_of e) (fault_of e)) → (status_of e ≡ status.Ok → IsUntouched faults)
    → IsRun words input output faults visits answered
run-right words input output faults visits e answered h same grew still = record {
  causes = caused;
  reports = report program words input output faults visits e answered h same grew still;
  headline = output_of program words input output visits e answered h same;
  still = visits_of program words input output visits e answered h same;
  makes = λ seed size workers is. subst (run.IsMade input) (sym same) (made-right words input output visits e seed size workers is h);
  completes = λ job ready. completed words input output answered job caused ready;
}
  where
    caused : HasCauses program words input output answered
    caused = causes program words input output visits e answered one-job h same
