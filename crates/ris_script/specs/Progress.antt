-- What was read of a script so far, and what a record more makes of it.
use Rattle.std.specs.Prelude.{ℕ, Bool, true, false, if◌then◌else◌, List, [], ◌∷◌, ◌++◌, drop, map, is_some, replicate, slice_get, slice_set, Option, Some, None, Result, Ok, Err}
use Rattle.std.specs.List.{list_any}
use Rattle.std.specs.Option.{option_and_then}
use Rattle.ris_base.specs.Script.{Fields, Header, base_by, is_base, numbers_of, session_said}
use Rattle.ris_base.specs.declared.graphs.Triple.{Triple}
use Rattle.ris_base.specs.declared.scripts.Cause.{Cause}
use Rattle.ris_base.specs.declared.scripts.Cause.TheVariants as cause
use Rattle.ris_base.specs.declared.scripts.Script.{Script}
use Rattle.ris_script.specs.Standing.{Standing, recorded, silent}

-- the header, the base triples so far, what each session said, and whether any said something
pub record Progress : Type 0 where
  pub header : Header
  pub base : List Triple
  pub standings : List Standing
  pub spoken : Bool

-- behind the header
abbrev pub progress_behind_header : Header → Progress
progress_behind_header h = record { header = h; base = []; standings = replicate h.sessions silent; spoken = false }

-- behind a record that may be a base triple
abbrev pub with_base : Progress → Option Triple → Result Progress Cause
with_base progress None = Err cause.Base
with_base progress (Some t) = if progress.spoken then Err cause.Base else Ok (record progress { base = progress.base ++ t ∷ [] })

-- behind a record of session s, which may be a fault
abbrev pub with_standing : Progress → ℕ → Result Standing Cause → Result Progress Cause
with_standing progress s (Err why) = Err why
with_standing progress s (Ok standing) = Ok (record progress { standings = slice_set progress.standings s standing; spoken = true })

-- behind a record of session s, where there is that session
abbrev pub with_session : ℕ → Progress → Fields → ℕ → Option Standing → Result Progress Cause
with_session analyses progress fields s None = Err cause.Session
with_session analyses progress fields s (Some standing) = with_standing progress s (recorded progress.header analyses standing fields)

-- behind a record whose first field spells this number, where it spells one
abbrev pub with_record : ℕ → Progress → Fields → Option ℕ → Result Progress Cause
with_record analyses progress fields None = Err cause.Field
with_record analyses progress fields (Some s) = with_session analyses progress fields s (slice_get progress.standings s)

-- behind a record more, or why it is a fault
unfoldable pub progressed : ℕ → Progress → Fields → Result Progress Cause
progressed analyses progress fields =
    if is_base fields then with_base progress (option_and_then (base_by progress.header) (numbers_of (drop 1 fields)))
    else with_record analyses progress fields (session_said fields)

-- whether a session has a transaction open
abbrev pub is_open : Standing → Bool
is_open standing = is_some standing.parts

-- the script of what was read
abbrev pub script_read : Progress → Script
script_read progress = record {
  format = progress.header.format;
  vertices = progress.header.vertices;
  sessions = progress.header.sessions;
  base = progress.base;
  commands = map (λ standing. standing.commands) progress.standings;
}

-- the script where no record is left, or why the last one is a fault
unfoldable pub finished : Progress → Result Script Cause
finished progress = if list_any is_open progress.standings then Err cause.Close else Ok (script_read progress)
