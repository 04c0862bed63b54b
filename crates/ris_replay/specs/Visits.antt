-- How many visits a replay may make.
use Rattle.std.specs.Prelude.{◌≡◌, ℕ, ◌+◌, ◌^◌, ◌<◌, ◌≤◌, Bool, true, false, List}
use Rattle.std.specs.List.{list_all, list_any}
use Rattle.ris_base.specs.Falling.{start_reach}
use Rattle.ris_base.specs.Replies.{wants_memory}
use Rattle.ris_base.specs.Script.{opening_of}
use Rattle.ris_base.specs.Visits.{IsReachOfGrowth, is_growth, only_adds}
use Rattle.ris_base.specs.declared.analyses.Spec.{Spec}
use Rattle.ris_base.specs.declared.lines.Line.{Line}
use Rattle.ris_base.specs.declared.lines.Line.TheVariants as line
use Rattle.ris_base.specs.declared.replies.LogLine.{LogLine}
use Rattle.ris_base.specs.declared.scripts.Script.{Script}

-- a count of 64 bits doesn't fall
abbrev pub Rises : ℕ → ℕ → Type 0
Rises before now = before < 2 ^ 64 → (before ≤ now) × (now < 2 ^ 64)

-- whether a line takes nothing away
abbrev pub grows : Line → Bool
grows (line.Entry e) = list_all only_adds e.parts
grows (line.Mark session seq upto) = true
grows (line.Leave session seq) = true

-- where no command of a script takes anything away and none of these replies wants memory, the visits are at most the reach of the
-- start and of the entries of these lines
abbrev pub AreWithinReach : Script → List Spec → List (List LogLine) → List Line → ℕ → Type 0
AreWithinReach script specs logs lines visits =
    list_all (list_all is_growth) script.commands ≡ true → list_any (list_any wants_memory) logs ≡ false
    → (n : ℕ) → IsReachOfGrowth (opening_of script) specs lines n
    → visits ≤ start_reach (opening_of script) specs + n
