-- What a job is done with: its bytes, and the replay of the script that they spell.
use Rattle.std.specs.Prelude.{◌≡◌, ℕ, ◌≤◌, List, [], length, sum_by, Result, Ok}
use Rattle.ris_analysis.specs.Analyses.{ArePlainSpecs}
use Rattle.ris_base.specs.Limits.{script_limit}
use Rattle.ris_base.specs.Script.{Bytes, Fault}
use Rattle.ris_base.specs.Status.{OnTold, Stream, specs_of}
use Rattle.ris_base.specs.declared.analyses.Spec.{Spec}
use Rattle.ris_base.specs.declared.jobs.Job.{Job}
use Rattle.ris_base.specs.declared.jobs.Job.TheVariants.{Demo, Replay}
use Rattle.ris_base.specs.declared.lines.Line.{Line}
use Rattle.ris_base.specs.declared.replies.LogLine.{LogLine}
use Rattle.ris_base.specs.declared.scripts.Script.{Script}
use Rattle.ris_script.specs.Bytes.{script_of}
use Rattle.ris_words.specs.Made.{made_script}
use Rattle.ris_replay.specs.Playing.{AreAnswered}
use Rattle.ris_replay.specs.Visits.{AreWithinReach}

-- there are 1 to 4 analyses, of which one of components has root 0, and 1 to 64 workers
pub record AreFit (specs : List Spec) (workers : ℕ) : Type 0 where
  pub some_specs : 1 ≤ length specs
  pub few_specs : length specs ≤ 4
  pub roots : ArePlainSpecs specs
  pub some_workers : 1 ≤ workers
  pub few_workers : workers ≤ 64

-- a size that a made script may have: 1 to 1,000,000 commands
pub record IsSize (size : ℕ) : Type 0 where
  pub some : 1 ≤ size
  pub most : size ≤ 1000000

-- the numbers of a job are within their limits
abbrev pub IsFit : Job → Type 0
IsFit (Replay threads workers specs) = AreFit specs workers
IsFit (Demo seed size workers) = IsSize size × AreFit (specs_of (Demo seed size workers)) workers

-- the bytes of a job's script: those of an input that has at most as many as a script may have, and is read to its end; or those that
-- are made of a seed
abbrev pub HasBytes : Stream → Job → Bytes → Type 0
HasBytes input (Replay threads workers specs) bytes =
    (length bytes ≤ script_limit) × OnTold input (λ before after. (bytes ≡ before) × (after ≡ []))
HasBytes input (Demo seed size workers) bytes = bytes ≡ made_script seed size

-- the script that bytes spell for a job, or its first fault
abbrev pub script_in : Job → Bytes → Result Script Fault
script_in job bytes = script_of (length (specs_of job)) bytes

-- a script that bytes spell for so many analyses has no more commands than a script may have bytes
abbrev pub SpellsFew : ℕ → Bytes → Type 0
SpellsFew analyses bytes = (script : Script) → script_of analyses bytes ≡ Ok script → sum_by length script.commands ≤ script_limit

-- bytes spell a script, these are the replies and the serial list of its replay, and so many visits are within the reach
pub record IsReplayed (specs : List Spec) (bytes : Bytes) (logs : List (List LogLine)) (lines : List Line) (visits : ℕ) : Type 0 where
  pub script : Script
  pub spelled : script_of (length specs) bytes ≡ Ok script
  pub answered : AreAnswered script specs logs lines
  pub within : AreWithinReach script specs logs lines visits
