-- What a session said so far, and what a record more makes of it.
use Rattle.std.specs.Prelude.{◌≡◌, ℕ, Bool, false, ◌||◌, ◌==◌, if◌then◌else◌, List, [], ◌∷◌, ◌++◌, drop, length, Option, Some, None, Result, Ok, Err, ⊤}
use Rattle.std.specs.Option.{option_map}
use Rattle.ris_base.specs.Script.{Asks, Closes, Fields, Header, Opens, Part, Saying, commands_behind, is_leave, transaction_cause, word_said}
use Rattle.ris_base.specs.declared.commands.Command.{Command}
use Rattle.ris_base.specs.declared.scripts.Cause.{Cause}
use Rattle.ris_base.specs.declared.scripts.Cause.TheVariants as cause
use Rattle.ris_base.specs.declared.updates.Update.{Update}
use Rattle.ris_script.specs.Sayings.{said_within}
use Rattle.ris_script.specs.declared.faults.RecordError.{RecordError}
use Rattle.ris_script.specs.declared.faults.RecordError.TheVariants as error

-- a session's commands so far, the parts of its transaction where it has one open, and whether it left
pub record Standing : Type 0 where
  pub commands : List Command
  pub parts : Option (List Update)
  pub left : Bool

-- a session that said nothing
abbrev pub silent : Standing
silent = record { commands = []; parts = None; left = false }

-- the parts that are open behind a saying
abbrev pub parts_behind : Option (List Update) → Saying → Option (List Update)
parts_behind parts (Part update) = option_map (λ some. some ++ update ∷ []) parts
parts_behind parts Opens = Some []
parts_behind parts Closes = None
parts_behind parts (Asks asked) = parts

-- a session behind a saying
abbrev pub standing_behind : Standing → Saying → Standing
standing_behind standing saying = record {
  commands = standing.commands ++ commands_behind standing.parts (saying ∷ []);
  parts = parts_behind standing.parts saying;
  left = is_leave saying || standing.left;
}

-- a session behind a saying, or why it doesn't fit
abbrev pub heard : Standing → Saying → Result Standing Cause
heard standing saying = elim (transaction_cause standing.parts saying) [ Some why ↦ Err why | None ↦ Ok (standing_behind standing saying) ]

-- one part more, or why not
abbrev pub part_added : List Update → Update → Result (List Update) Cause
part_added parts update = if length parts == 1024 then Err cause.Parts else Ok (parts ++ update ∷ [])

-- a session behind what it may say
abbrev pub heard_or_cause : Standing → Result Saying Cause → Result Standing Cause
heard_or_cause standing (Err why) = Err why
heard_or_cause standing (Ok saying) = heard standing saying

-- a session behind a record of it, or why the record is a fault
unfoldable pub recorded : Header → ℕ → Standing → Fields → Result Standing Cause
recorded h analyses standing fields =
    if standing.left then Err cause.Left
    else elim (word_said h fields) [ None ↦ Err cause.Op | Some word ↦ heard_or_cause standing (said_within analyses word (drop 2 fields)) ]

-- a call that makes a value of another leaves the one that is expected, or fails for the cause that is, unless memory was
-- wanted
abbrev pub Becomes : {A S : Type 0} → Result A RecordError → S → Result S Cause → Type 0
Becomes (Ok done) now expected = expected ≡ Ok now
Becomes (Err (error.Fault why)) now expected = expected ≡ Err why
Becomes (Err error.NoMemory) now expected = ⊤

-- a call that makes a value makes the one that is expected, or fails for the cause that is, unless memory was wanted
abbrev pub Gives : {S : Type 0} → Result S RecordError → Result S Cause → Type 0
Gives (Ok value) expected = expected ≡ Ok value
Gives (Err (error.Fault why)) expected = expected ≡ Err why
Gives (Err error.NoMemory) expected = ⊤
