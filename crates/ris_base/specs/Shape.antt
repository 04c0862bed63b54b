-- What every script that was read keeps, of which the crates above it speak.
use Rattle.std.specs.Prelude.{◌≡◌, ℕ, ◌<◌, ◌≤◌, List, [], ◌∷◌, length, ⊤}
use Rattle.std.specs.List.{All}
use Rattle.ris_base.specs.Graph.{IsProper}
use Rattle.ris_base.specs.Limits.{session_limit, vertex_limit}
use Rattle.ris_base.specs.Script.{opening_of}
use Rattle.ris_base.specs.declared.commands.Command.{Command}
use Rattle.ris_base.specs.declared.commands.Command.TheVariants.{Change, Release, Leave, Value, Parent, Path, Modified, Current}
use Rattle.ris_base.specs.declared.scripts.Script.{Script}

-- a command for a run with so many analyses: a change has 1 to 1,024 parts, and a read names one of the analyses
abbrev pub IsCommandFor : ℕ → Command → Type 0
IsCommandFor analyses (Change parts) = (1 ≤ length parts) × (length parts ≤ 1024)
IsCommandFor analyses (Release v) = ⊤
IsCommandFor analyses Leave = ⊤
IsCommandFor analyses (Value version a x) = a < analyses
IsCommandFor analyses (Parent version a x) = a < analyses
IsCommandFor analyses (Path version a x) = a < analyses
IsCommandFor analyses (Modified version a) = a < analyses
IsCommandFor analyses Current = ⊤

-- no command stands behind a leave
abbrev pub EndsByLeave : List Command → Type 0
EndsByLeave [] = ⊤
EndsByLeave (Leave ∷ commands) = commands ≡ []
EndsByLeave (command ∷ commands) = EndsByLeave commands

-- a script that was read for a run with so many analyses
pub record IsReadable (analyses : ℕ) (script : Script) : Type 0 where
  -- it has at most 4,194,304 vertices
  pub vertices : script.vertices ≤ vertex_limit
  -- it has a session
  pub some : 1 ≤ script.sessions
  -- it has at most 64 sessions
  pub few : script.sessions ≤ session_limit
  -- each session has its list of commands
  pub lists : length script.commands ≡ script.sessions
  -- its graph of place 0 is proper
  pub opening : IsProper (opening_of script)
  -- each command is one for a run with so many analyses
  pub askable : All (All (IsCommandFor analyses)) script.commands
  -- a leave is the last command of its session
  pub leaving : All EndsByLeave script.commands
