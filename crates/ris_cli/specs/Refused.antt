-- How a command line that can't be had is answered.
use Rattle.std.specs.declared.io.ErrorKind.{ErrorKind}
use Rattle.std.specs.declared.io.ErrorKind.TheVariants.{OutOfMemory}
use Rattle.ris_base.specs.declared.statuses.Status.{Status}
use Rattle.ris_base.specs.declared.statuses.Status.TheVariants as status
use Rattle.ris_cli.specs.declared.arguments.Refusal.{Refusal}
use Rattle.ris_cli.specs.declared.arguments.Refusal.TheVariants.{NotText, NoMemory}

-- the refusal of arguments that can't be read with an error of this kind: want of memory, or else an argument that isn't text
abbrev pub refusal_of : ErrorKind → Refusal
refusal_of OutOfMemory = NoMemory
refusal_of _ = NotText

-- the status of a refusal
abbrev pub refusal_status : Refusal → Status
refusal_status NotText = status.Usage
refusal_status NoMemory = status.NoMemory
