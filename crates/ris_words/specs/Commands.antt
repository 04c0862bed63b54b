-- The two commands as clap has them.
use Rattle.std.specs.Prelude.{true, List, ℕ, Option, Some, codes, unwrap_or}
use Rattle.std.specs.Option.{option_and_then}
use Rattle.clap.specs.Simple.{App, new_app, new_rule, on_top, with_rule}
use Rattle.clap.specs.Walk.{Row, Rule, first_of}
use Rattle.clap.specs.declared.builder.action.ArgAction.TheVariants.{Set, SetTrue}
use Rattle.ris_base.specs.Number.{number_of}
use Rattle.ris_base.specs.Script.{Bytes}
use Rattle.ris_base.specs.declared.analyses.Spec.{Spec}
use Rattle.ris_words.specs.Items.{specs_within}
use Rattle.ris_words.specs.declared.options.Name.{Name}
use Rattle.ris_words.specs.declared.options.Name.TheVariants.{Threads, Workers, Size, Analyses}
use Rattle.ris_words.specs.declared.options.Verb.{Verb}
use Rattle.ris_words.specs.declared.options.Verb.TheVariants.{Replay, Demo}

-- an option's name without the hyphens
abbrev pub id_of : Name → List ℕ
id_of Threads = codes "threads"
id_of Workers = codes "workers"
id_of Size = codes "size"
id_of Analyses = codes "analyses"

-- an option of this name that takes one value
abbrev pub valued_rule : List ℕ → Rule
valued_rule name = record (new_rule name) { long = Some name; action = Some Set }

-- an option; `--threads` takes no value
abbrev pub option_rule : Name → Rule
option_rule Threads = record (new_rule (id_of Threads)) { long = Some (id_of Threads); action = Some SetTrue }
option_rule name = valued_rule (id_of name)

-- a command of this name without options: its words begin behind its name, and it has no help
abbrev pub bare_app : List ℕ → App
bare_app name = on_top (λ s. record s { no_binary_name = true; disable_help_flag = true }) (new_app name)

-- a command with its options
abbrev pub app_for : Verb → App
app_for Replay = with_rule (with_rule (with_rule (bare_app (codes "replay")) (option_rule Threads)) (option_rule Workers)) (option_rule Analyses)
app_for Demo = with_rule (with_rule (bare_app (codes "demo")) (option_rule Workers)) (option_rule Size)

-- What is found of the options

-- the number that an option says, or else the default
abbrev pub number_found : Bytes → ℕ → List Row → ℕ
number_found id default rows = unwrap_or (option_and_then number_of (first_of id rows)) default

-- the analyses that `--analyses` says
abbrev pub analyses_found : List Row → Option (List Spec)
analyses_found rows = option_and_then (specs_within 4) (first_of (codes "analyses") rows)
