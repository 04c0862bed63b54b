-- The code's words and sayings as those of the definition, and what a word says with the fields behind it.
use Rattle.std.specs.Prelude.{ℕ, ◌==◌, if◌then◌else◌, List, [], ◌∷◌, length, nat_lt, Option, Some, None, Result, Ok, Err}
use Rattle.std.specs.Option.{option_and_then, option_map}
use Rattle.std.specs.Result.{result_map_both}
use Rattle.ris_base.specs.Script as script
use Rattle.ris_base.specs.Script.{Fields, analysis_asked, numbers_of, saying_of, version_of}
use Rattle.ris_base.specs.declared.commands.Command.{Command}
use Rattle.ris_base.specs.declared.commands.Version.{Version}
use Rattle.ris_base.specs.declared.scripts.Cause.{Cause}
use Rattle.ris_base.specs.declared.scripts.Cause.TheVariants as cause
use Rattle.ris_script.specs.declared.sayings.Saying.{Saying}
use Rattle.ris_script.specs.declared.sayings.Saying.TheVariants as saying
use Rattle.ris_script.specs.declared.words.CommandWord.{CommandWord}
use Rattle.ris_script.specs.declared.words.CommandWord.TheVariants as command
use Rattle.ris_script.specs.declared.words.UpdateWord.{UpdateWord}
use Rattle.ris_script.specs.declared.words.UpdateWord.TheVariants as update
use Rattle.ris_script.specs.declared.words.Word.{Word}
use Rattle.ris_script.specs.declared.words.Word.TheVariants as word

-- a word, as the definition has it
abbrev pub update_word_meaning : UpdateWord → script.Word
update_word_meaning update.Addv = script.Addv
update_word_meaning update.Delv = script.Delv
update_word_meaning update.Adde = script.Adde
update_word_meaning update.Dele = script.Dele
update_word_meaning update.Setw = script.Setw

abbrev pub command_word_meaning : CommandWord → script.Word
command_word_meaning command.Value = script.Value
command_word_meaning command.Parent = script.Parent
command_word_meaning command.Path = script.Path
command_word_meaning command.Modified = script.Modified
command_word_meaning command.Current = script.Current
command_word_meaning command.Release = script.Release
command_word_meaning command.Leave = script.Leave

abbrev pub word_meaning : Word → script.Word
word_meaning (word.Update one) = update_word_meaning one
word_meaning word.Begin = script.Begin
word_meaning word.Commit = script.Commit
word_meaning (word.Command one) = command_word_meaning one

-- a saying, as the definition has it
abbrev pub saying_meaning : Saying → script.Saying
saying_meaning (saying.Part update) = script.Part update
saying_meaning saying.Opens = script.Opens
saying_meaning saying.Closes = script.Closes
saying_meaning (saying.Asks asked) = script.Asks asked

-- a saying or a cause, as the definition has them
abbrev pub saying_or_cause : Result Saying Cause → Result script.Saying Cause
saying_or_cause result = result_map_both saying_meaning (λ why. why) result

-- the same of what is asked
abbrev pub asked_or_cause : Result Command Cause → Result script.Saying Cause
asked_or_cause result = result_map_both script.Asks (λ why. why) result

-- a saying, where the analysis that it names is one of so many
abbrev pub within_analyses : ℕ → script.Saying → Result script.Saying Cause
within_analyses analyses saying =
    elim (option_and_then (λ a. if nat_lt a analyses then None else Some cause.Analysis) (analysis_asked saying)) [
      | Some why ↦ Err why
      | None ↦ Ok saying
    ]

-- the same of what may be no saying
abbrev pub some_within_analyses : ℕ → Option script.Saying → Result script.Saying Cause
some_within_analyses analyses None = Err cause.Field
some_within_analyses analyses (Some saying) = within_analyses analyses saying

-- what a word says with the fields behind it, or why it says nothing
unfoldable pub said_within : ℕ → script.Word → Fields → Result script.Saying Cause
said_within analyses word fields = some_within_analyses analyses (saying_of word fields)

-- the numbers that fields spell, where there are so many fields, and each spells one
abbrev pub numbers_in : ℕ → Fields → Option (List ℕ)
numbers_in n fields = if length fields == n then numbers_of fields else None

-- the version that the first field names and the numbers that the others spell, of which there are so many
unfoldable pub version_and_numbers_in : ℕ → Fields → Option (Version × List ℕ)
version_and_numbers_in n [] = None
version_and_numbers_in n (field ∷ fields) =
    option_and_then (λ version. option_map (λ numbers. (version, numbers)) (numbers_in n fields)) (version_of field)

-- the version, the analysis and the vertex of a read, where the analysis is one of so many
abbrev pub vertex_within : ℕ → Option (Version × List ℕ) → Result (Version × ℕ × ℕ) Cause
vertex_within analyses (Some (version, a ∷ x ∷ [])) = if nat_lt a analyses then Ok (version, a, x) else Err cause.Analysis
vertex_within analyses place = Err cause.Field

-- the same of a read with no vertex
abbrev pub analysis_within : ℕ → Option (Version × List ℕ) → Result (Version × ℕ) Cause
analysis_within analyses (Some (version, a ∷ [])) = if nat_lt a analyses then Ok (version, a) else Err cause.Analysis
analysis_within analyses place = Err cause.Field
