-- How many visits a run may make where nothing is taken away: then a bound needs no forest.
use Rattle.std.specs.Prelude.{◌≡◌, ℕ, ◌+◌, ◌≤◌, Bool, true, false, List, [], ◌∷◌, map}
use Rattle.std.specs.List.{list_all, list_any}
use Rattle.ris_base.specs.Falling.{IsReach, start_reach}
use Rattle.ris_base.specs.Forest.{Forest}
use Rattle.ris_base.specs.Replies.{wants_memory}
use Rattle.ris_base.specs.Requests.{entered}
use Rattle.ris_base.specs.Script.{opening_of}
use Rattle.ris_base.specs.Transcript.{Transcript, lines_named}
use Rattle.ris_base.specs.declared.analyses.Spec.{Spec}
use Rattle.ris_base.specs.declared.analyses.Value.TheVariants.{Absent}
use Rattle.ris_base.specs.declared.commands.Command.{Command}
use Rattle.ris_base.specs.declared.commands.Command.TheVariants as command
use Rattle.ris_base.specs.declared.forests.Parent.TheVariants as parent
use Rattle.ris_base.specs.declared.graphs.PlainGraph.{PlainGraph}
use Rattle.ris_base.specs.declared.lines.Line.{Line}
use Rattle.ris_base.specs.declared.lines.Line.TheVariants as line
use Rattle.ris_base.specs.declared.scripts.Script.{Script}
use Rattle.ris_base.specs.declared.updates.Update.{Update}
use Rattle.ris_base.specs.declared.updates.Update.TheVariants.{AddV, DelV, AddE, DelE, SetW}

-- whether an update takes nothing away: no vertex, and no copy of an edge
abbrev pub only_adds : Update → Bool
only_adds (AddV x) = true
only_adds (DelV x) = false
only_adds (AddE u v w) = true
only_adds (DelE u v w) = false
only_adds (SetW u v w w2) = false

-- whether a command takes nothing away
abbrev pub is_growth : Command → Bool
is_growth (command.Change parts) = list_all only_adds parts
is_growth asked = true

-- a forest in which nothing hangs: where nothing is taken away no edge is lost, so that a reach is the same with each forest
abbrev pub bare_forest : Spec → Forest
bare_forest spec = record { value = λ x. Absent; parent = λ x. parent.None }

-- n is the sum of the reaches of the entries of lines behind a graph, where they take nothing away
unfoldable pub IsReachOfGrowth : PlainGraph → List Spec → List Line → ℕ → Type 0
IsReachOfGrowth g specs [] n = n ≡ 0
IsReachOfGrowth g specs (line.Entry e ∷ lines) n =
    (own rest : ℕ) × (n ≡ own + rest) × IsReach g specs (map bare_forest specs) e.parts own × IsReachOfGrowth (entered g e.parts) specs lines rest
IsReachOfGrowth g specs (line.Mark session seq upto ∷ lines) n = IsReachOfGrowth g specs lines n
IsReachOfGrowth g specs (line.Leave session seq ∷ lines) n = IsReachOfGrowth g specs lines n

-- where no command of a script takes anything away and no reply wants memory, the visits are at most the reach of the start and of
-- the entries
abbrev pub AreBounded : Script → List Spec → Transcript → ℕ → Type 0
AreBounded script specs t visits =
    list_all (list_all is_growth) script.commands ≡ true → list_any (list_any wants_memory) t.replies ≡ false
    → (n : ℕ) → IsReachOfGrowth (opening_of script) specs (lines_named script.commands t.journal) n
    → visits ≤ start_reach (opening_of script) specs + n
