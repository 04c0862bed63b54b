-- The script that the records of a text spell, or its first fault. A record is the list of its fields, and a field the list of
-- its bytes.
use Rattle.std.specs.Prelude.{ℕ, ◌+◌, ◌++◌, Bool, true, false, not, ◌==◌, ◌&&◌, ◌||◌, nat_le, nat_lt, if◌then◌else◌, List, [], ◌∷◌, length, map, is_some, is_none, Option, Some, None, Result, Ok, Err, codes}
use Rattle.std.specs.List.{list_any, filter_map}
use Rattle.std.specs.Option.{option_and_then, option_map, option_or}
use Rattle.std.specs.Str.{bytes_eq}
use Rattle.ris_base.specs.Limits.{vertex_limit, greatest_of, session_limit}
use Rattle.ris_base.specs.Lists.{numbers_below}
use Rattle.ris_base.specs.Graph.{triple}
use Rattle.ris_base.specs.Number.{number_of}
use Rattle.ris_base.specs.declared.updates.Update.{Update}
use Rattle.ris_base.specs.declared.updates.Update.TheVariants.{AddV, DelV, AddE, DelE, SetW}
use Rattle.ris_base.specs.declared.commands.Command.{Command}
use Rattle.ris_base.specs.declared.commands.Command.TheVariants as command
use Rattle.ris_base.specs.declared.commands.Version.{Version}
use Rattle.ris_base.specs.declared.commands.Version.TheVariants.{Last, At}
use Rattle.ris_base.specs.declared.graphs.Format.{Format}
use Rattle.ris_base.specs.declared.graphs.Format.TheVariants.{One, Two}
use Rattle.ris_base.specs.declared.graphs.PlainGraph.{PlainGraph}
use Rattle.ris_base.specs.declared.graphs.Triple.{Triple}
use Rattle.ris_base.specs.declared.scripts.Script.{Script}
use Rattle.ris_base.specs.declared.scripts.Cause.{Cause}
use Rattle.ris_base.specs.declared.scripts.Cause.TheVariants as cause

-- a record that is a fault, by its number from 1, and why
pub record Fault : Type 0 where
  pub number : ℕ
  pub cause : Cause

-- a field, and a record
abbrev pub Bytes : Type 0
Bytes = List ℕ

abbrev pub Fields : Type 0
Fields = List Bytes

-- a number where it is at most the greatest one
abbrev pub at_most : ℕ → ℕ → Option ℕ
at_most greatest n = if nat_le n greatest then Some n else None

-- a number where it is below a limit
abbrev pub below : ℕ → ℕ → Option ℕ
below limit n = if nat_lt n limit then Some n else None

-- the numbers that fields spell, where each of them spells one
abbrev pub numbers_of : Fields → Option (List ℕ)
numbers_of [] = Some []
numbers_of (field ∷ fields) = option_and_then (λ n. option_map (λ ns. n ∷ ns) (numbers_of fields)) (number_of field)

-- The header

-- what a header says
pub record Header : Type 0 where
  pub format : Format
  pub vertices : ℕ
  pub sessions : ℕ

-- the format that a field names
abbrev pub format_of : Bytes → Option Format
format_of field = if bytes_eq field (codes "1") then Some One else if bytes_eq field (codes "2") then Some Two else None

-- a number of sessions that a header may say: 1 to 64
abbrev pub sessions_within : ℕ → Option ℕ
sessions_within n = if nat_le 1 n && nat_le n session_limit then Some n else None

-- the header `risgraph,<format>,<vertices>,<sessions>`, with 0 to 4,194,304 vertices
unfoldable pub header_of : Fields → Option Header
header_of (name ∷ format ∷ vertices ∷ sessions ∷ []) =
    if bytes_eq name (codes "risgraph")
    then option_and_then (λ f.
    option_and_then (λ n.
    option_map (λ m. record { format = f; vertices = n; sessions = m })
    (option_and_then sessions_within (number_of sessions)))
    (option_and_then (at_most vertex_limit) (number_of vertices)))
    (format_of format)
    else None
header_of _ = None

-- Words

-- the words of commands
pub data Word : Type 0 where
  Addv : Word
  Delv : Word
  Adde : Word
  Dele : Word
  Setw : Word
  Begin : Word
  Commit : Word
  Value : Word
  Parent : Word
  Path : Word
  Modified : Word
  Current : Word
  Release : Word
  Leave : Word

-- the word that a field spells
unfoldable pub word_of : Bytes → Option Word
word_of field =
    if bytes_eq field (codes "addv") then Some Addv
    else if bytes_eq field (codes "delv") then Some Delv
    else if bytes_eq field (codes "adde") then Some Adde
    else if bytes_eq field (codes "dele") then Some Dele
    else if bytes_eq field (codes "setw") then Some Setw
    else if bytes_eq field (codes "begin") then Some Begin
    else if bytes_eq field (codes "commit") then Some Commit
    else if bytes_eq field (codes "value") then Some Value
    else if bytes_eq field (codes "parent") then Some Parent
    else if bytes_eq field (codes "path") then Some Path
    else if bytes_eq field (codes "modified") then Some Modified
    else if bytes_eq field (codes "current") then Some Current
    else if bytes_eq field (codes "release") then Some Release
    else if bytes_eq field (codes "leave") then Some Leave
    else None

-- whether a word is one of a format
abbrev pub is_of_format : Format → Word → Bool
is_of_format Two word = true
is_of_format One Setw = false
is_of_format One Leave = false
is_of_format One word = true

-- What a record says

-- what a record of a session says: an update, the begin or the end of a transaction, or any other command
pub data Saying : Type 0 where
  Part : (update : Update) → Saying
  Opens : Saying
  Closes : Saying
  Asks : (command : Command) → Saying

-- the version that a field names: `last`, or `@` and a number
abbrev pub version_of : Bytes → Option Version
version_of [] = None
version_of (byte ∷ bytes) =
    if bytes_eq (byte ∷ bytes) (codes "last") then Some Last
    else if byte == 64 then option_map At (number_of bytes)
    else None

-- what a word says with these numbers behind it
abbrev pub saying_by : Word → List ℕ → Option Saying
saying_by Addv (x ∷ []) = Some (Part (AddV x))
saying_by Delv (x ∷ []) = Some (Part (DelV x))
saying_by Adde (u ∷ v ∷ w ∷ []) = Some (Part (AddE u v w))
saying_by Dele (u ∷ v ∷ w ∷ []) = Some (Part (DelE u v w))
saying_by Setw (u ∷ v ∷ w ∷ w2 ∷ []) = Some (Part (SetW u v w w2))
saying_by Begin [] = Some Opens
saying_by Commit [] = Some Closes
saying_by Current [] = Some (Asks command.Current)
saying_by Release (v ∷ []) = Some (Asks (command.Release v))
saying_by Leave [] = Some (Asks command.Leave)
saying_by word numbers = None

-- what a word says of a version with these numbers behind it
abbrev pub reading_by : Word → Version → List ℕ → Option Saying
reading_by Value version (a ∷ x ∷ []) = Some (Asks (command.Value version a x))
reading_by Parent version (a ∷ x ∷ []) = Some (Asks (command.Parent version a x))
reading_by Path version (a ∷ x ∷ []) = Some (Asks (command.Path version a x))
reading_by Modified version (a ∷ []) = Some (Asks (command.Modified version a))
reading_by word version numbers = None

-- whether the first field behind a word is a version
abbrev pub takes_version : Word → Bool
takes_version Value = true
takes_version Parent = true
takes_version Path = true
takes_version Modified = true
takes_version word = false

-- what a word says with these fields behind it: their number is that of the word, and each can be read
unfoldable pub saying_of : Word → Fields → Option Saying
saying_of word [] = saying_by word []
saying_of word (field ∷ fields) =
    if takes_version word
    then option_and_then (λ version. option_and_then (reading_by word version) (numbers_of fields)) (version_of field)
    else option_and_then (saying_by word) (numbers_of (field ∷ fields))

-- the analysis that a saying names
abbrev pub analysis_asked : Saying → Option ℕ
analysis_asked (Asks (command.Value version a x)) = Some a
analysis_asked (Asks (command.Parent version a x)) = Some a
analysis_asked (Asks (command.Path version a x)) = Some a
analysis_asked (Asks (command.Modified version a)) = Some a
analysis_asked saying = None

-- The records of base triples and of sessions

-- whether a record's first field is `base`
abbrev pub is_base : Fields → Bool
is_base [] = false
is_base (name ∷ fields) = bytes_eq name (codes "base")

-- the base triple that three numbers name, where both ends are below the header's vertices and the weight is within the limit
abbrev pub base_by : Header → List ℕ → Option Triple
base_by h (u ∷ v ∷ w ∷ []) =
    if nat_lt u h.vertices && nat_lt v h.vertices && nat_le w (greatest_of h.format) then Some (triple u v w) else None
base_by h numbers = None

-- the base triple of a record `base,<u>,<v>,<w>`
unfoldable pub base_of : Header → Fields → Option Triple
base_of h [] = None
base_of h (name ∷ fields) = if bytes_eq name (codes "base") then option_and_then (base_by h) (numbers_of fields) else None

-- the session of a record: the number that its first field spells
abbrev pub session_said : Fields → Option ℕ
session_said [] = None
session_said (name ∷ fields) = number_of name

-- the word of a record, where it is one of the header's format
abbrev pub word_said : Header → Fields → Option Word
word_said h (name ∷ field ∷ fields) =
    option_and_then (λ word. if is_of_format h.format word then Some word else None) (word_of field)
word_said h _ = None

-- what a record of a session says
abbrev pub said : Header → Fields → Option Saying
said h (name ∷ field ∷ fields) = option_and_then (λ word. saying_of word fields) (word_said h (name ∷ field ∷ fields))
said h _ = None

-- what a record says, where it is one of session s
abbrev pub said_by : Header → ℕ → Fields → Option Saying
said_by h s fields = option_and_then (λ session. if session == s then said h fields else None) (session_said fields)

-- what session s said in these records
abbrev pub sayings : Header → ℕ → List Fields → List Saying
sayings h s records = filter_map (said_by h s) records

-- The parts so far of the transaction that a session has open, where it has one open, by what it said, the newest first: the
-- updates since the last begin
unfoldable pub open_parts : List Saying → Option (List Update)
open_parts [] = None
open_parts (Opens ∷ earlier) = Some []
open_parts (Closes ∷ earlier) = None
open_parts (Part update ∷ earlier) = option_map (λ parts. parts ++ update ∷ []) (open_parts earlier)
open_parts (Asks asked ∷ earlier) = open_parts earlier

-- whether a saying is a leave
abbrev pub is_leave : Saying → Bool
is_leave (Asks command.Leave) = true
is_leave saying = false

-- Faults. A record is judged by the header, the number of analyses and the records between the header and it, the newest
-- first, none of which is a fault

-- the cause at a base record: its fields aren't right, or a record of a session came before
abbrev pub base_cause : Header → List Fields → Fields → Option Cause
base_cause h before fields =
    if is_none (base_of h fields) || list_any (λ earlier. not (is_base earlier)) before then Some cause.Base else None

-- the cause where a saying doesn't fit to the transaction that the session has open, of so many parts, if it has one open: in a
-- transaction it is neither an update nor the commit; it is a commit without one; it is a commit of no part, or an update
-- that would be part 1,025
abbrev pub transaction_cause : Option (List Update) → Saying → Option Cause
transaction_cause None Closes = Some cause.Close
transaction_cause None saying = None
transaction_cause (Some parts) (Part update) = if length parts == 1024 then Some cause.Parts else None
transaction_cause (Some parts) Closes = if length parts == 0 then Some cause.Parts else None
transaction_cause (Some parts) Opens = Some cause.Inside
transaction_cause (Some parts) (Asks asked) = Some cause.Inside

-- the cause at a saying of session s: no such analysis, or no fit to the session's transaction
abbrev pub saying_cause : Header → ℕ → List Fields → ℕ → Saying → Option Cause
saying_cause h analyses before s saying =
    option_or (option_and_then (λ a. if nat_lt a analyses then None else Some cause.Analysis) (analysis_asked saying))
    (transaction_cause (open_parts (sayings h s before)) saying)

-- the cause at a record of session s: the session isn't one of the header's, it left before, the word is none, the fields can't
-- be read, or what they say doesn't fit
abbrev pub session_cause : Header → ℕ → List Fields → Fields → ℕ → Option Cause
session_cause h analyses before fields s =
    if not (nat_lt s h.sessions) then Some cause.Session
    else if list_any is_leave (sayings h s before) then Some cause.Left
    else if is_none (word_said h fields) then Some cause.Op
    else elim (said h fields) [ None ↦ Some cause.Field | Some saying ↦ saying_cause h analyses before s saying ]

-- the cause at a record behind the header, if it is a fault
unfoldable pub cause_of : Header → ℕ → List Fields → Fields → Option Cause
cause_of h analyses before fields =
    if is_base fields then base_cause h before fields
    else elim (session_said fields) [ None ↦ Some cause.Field | Some s ↦ session_cause h analyses before fields s ]

-- the first fault of records, the first of which has this number, behind these records, the newest first
unfoldable pub first_fault : Header → ℕ → List Fields → ℕ → List Fields → Option Fault
first_fault h analyses before number [] = None
first_fault h analyses before number (fields ∷ records) =
    elim (cause_of h analyses before fields) [
      | Some why ↦ Some (record { number = number; cause = why })
      | None ↦ first_fault h analyses (fields ∷ before) (number + 1) records
    ]

-- Scripts

-- The commands that a session's sayings make, where it has a transaction with these parts open, or none: an update in a
-- transaction is a part of it, and any other is a change of one part
unfoldable pub commands_behind : Option (List Update) → List Saying → List Command
commands_behind open_ [] = []
commands_behind None (Part update ∷ sayings) = command.Change (update ∷ []) ∷ commands_behind None sayings
commands_behind (Some parts) (Part update ∷ sayings) = commands_behind (Some (parts ++ update ∷ [])) sayings
commands_behind None (Closes ∷ sayings) = commands_behind None sayings
commands_behind (Some parts) (Closes ∷ sayings) = command.Change parts ∷ commands_behind None sayings
commands_behind open_ (Opens ∷ sayings) = commands_behind (Some []) sayings
commands_behind open_ (Asks asked ∷ sayings) = asked ∷ commands_behind open_ sayings

-- the commands of session s in these records
abbrev pub commands_of : Header → List Fields → ℕ → List Command
commands_of h records s = commands_behind None (sayings h s records)

-- the script of a header and the records behind it
abbrev pub script_behind : Header → List Fields → Script
script_behind h records = record {
  format = h.format;
  vertices = h.vertices;
  sessions = h.sessions;
  base = filter_map (base_of h) records;
  commands = map (commands_of h records) (numbers_below h.sessions);
}

-- the records, the newest first
unfoldable pub newest_first : List Fields → List Fields → List Fields
newest_first before [] = before
newest_first before (fields ∷ records) = newest_first (fields ∷ before) records

-- whether a session has a transaction open behind records
abbrev pub is_left_open : Header → List Fields → ℕ → Bool
is_left_open h records s = is_some (open_parts (sayings h s (newest_first [] records)))

-- the end rule: where a transaction is open behind the last record, that is a fault at its number
abbrev pub fault_at_end : Header → List Fields → Option Fault
fault_at_end h records =
    if list_any (is_left_open h records) (numbers_below h.sessions)
    then Some (record { number = length records + 1; cause = cause.Close }) else None

-- the script of a header and the records behind it, or the first fault
abbrev pub script_or_fault : Header → ℕ → List Fields → Result Script Fault
script_or_fault h analyses records =
    elim (option_or (first_fault h analyses [] 2 records) (fault_at_end h records)) [
      | Some fault ↦ Err fault
      | None ↦ Ok (script_behind h records)
    ]

-- the script that records spell, where a run has so many analyses, or the first fault
unfoldable pub script_of_records : ℕ → List Fields → Result Script Fault
script_of_records analyses [] = Err (record { number = 1; cause = cause.Header })
script_of_records analyses (fields ∷ records) =
    elim (header_of fields) [
      | None ↦ Err (record { number = 1; cause = cause.Header })
      | Some h ↦ script_or_fault h analyses records
    ]

-- the plain graph of place 0: the script's format, its vertices, and its base triples
abbrev pub opening_of : Script → PlainGraph
opening_of script = record { format = script.format; vertices = numbers_below script.vertices; triples = script.base }
