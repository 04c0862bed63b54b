-- What a command says, where it is a leave or a release.
use Rattle.std.specs.Prelude.{ℕ, Option, Some, None}
use Rattle.ris_base.specs.Legal.{Asked}
use Rattle.ris_base.specs.declared.commands.Command.{Command}
use Rattle.ris_base.specs.declared.commands.Command.TheVariants as command

abbrev pub leave_as : ℕ → Command → Option ℕ
leave_as seq command.Leave = Some seq
leave_as seq other = None

-- the number of a leave
abbrev pub leave_seq : Asked → Option ℕ
leave_seq asked = leave_as asked.seq asked.command

abbrev pub release_as : ℕ → Command → Option (ℕ × ℕ)
release_as seq (command.Release upto) = Some (seq, upto)
release_as seq other = None

-- the number and the place of a release
abbrev pub release_seq : Asked → Option (ℕ × ℕ)
release_seq asked = release_as asked.seq asked.command
