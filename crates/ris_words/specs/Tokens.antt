-- The options of a command line, word by word.
use Rattle.std.specs.Prelude.{ℕ, ◌^◌, Bool, true, false, not, nat_le, ◌&&◌, if◌then◌else◌, List, [], ◌∷◌, Option, Some, None, is_some, codes}
use Rattle.std.specs.Option.{option_and_then, option_map, option_map_or}
use Rattle.std.specs.Str.{bytes_eq}
use Rattle.ris_base.specs.Number.{number_of}
use Rattle.ris_base.specs.Script.{Bytes, below}
use Rattle.ris_words.specs.Items.{cut_at, specs_within}
use Rattle.ris_words.specs.declared.options.Name.{Name}
use Rattle.ris_words.specs.declared.options.Name.TheVariants.{Threads, Workers, Size, Analyses}
use Rattle.ris_words.specs.declared.options.Verb.{Verb}
use Rattle.ris_words.specs.declared.options.Verb.TheVariants.{Replay, Demo}
use Rattle.ris_words.specs.declared.options.Seen.{Seen}

-- how an option is called
abbrev pub called : Name → Bytes
called Threads = codes "--threads"
called Workers = codes "--workers"
called Size = codes "--size"
called Analyses = codes "--analyses"

-- the option that a word names
unfoldable pub name_of : Bytes → Option Name
name_of word =
    if bytes_eq word (codes "--threads") then Some Threads
    else if bytes_eq word (codes "--workers") then Some Workers
    else if bytes_eq word (codes "--size") then Some Size
    else if bytes_eq word (codes "--analyses") then Some Analyses
    else None

-- an option with its value, or an option whose value is the next word
abbrev pub Token : Type 0
Token = Name × Option Bytes

-- what a word that is an option's name says; the value of `--threads` is nothing
abbrev pub named : Name → Token
named Threads = (Threads, Some [])
named name = (name, None)

-- what a name, a `=` and a value say
abbrev pub joined : Name → Bytes → Option Token
joined Threads value = None
joined name value = Some (name, Some value)

-- the same, of a word that may be no option's name
abbrev pub joined_by : Option Name → Bytes → Option Token
joined_by name value = option_and_then (λ n. joined n value) name

-- what a word says that begins an option, by the option that it names and by how it is cut at a `=`
abbrev pub token_by : Option Name → Option (Bytes × Bytes) → Option Token
token_by (Some name) cut = Some (named name)
token_by None None = None
token_by None (Some p) = joined_by (name_of p.0) p.1

-- what a word says that begins an option
unfoldable pub token_of : Bytes → Option Token
token_of word = token_by (name_of word) (cut_at 61 word)

-- what a word says where an option may wait for its value
abbrev pub token_behind : Option Name → Bytes → Option Token
token_behind (Some name) word = Some (name, Some word)
token_behind None word = token_of word

-- an option that was told, and its value
abbrev pub Told : Type 0
Told = Name × Bytes

-- an option in front of those that are told behind it
abbrev pub told : Told → Option (List Told) → Option (List Told)
told first = option_map (λ rest. first ∷ rest)

-- what words tell behind a token
abbrev pub told_behind : Option Token → (Option Name → Option (List Told)) → Option (List Told)
told_behind None rest = None
told_behind (Some (name, Some value)) rest = told (name, value) (rest None)
told_behind (Some (name, None)) rest = rest (Some name)

-- what words tell, where an option waits for its value in the first of them, or none does
unfoldable pub tell : List Bytes → Option Name → Option (List Told)
tell [] None = Some []
tell [] (Some name) = None
tell (word ∷ words) waiting = told_behind (token_behind waiting word) (tell words)

-- the command that a word names
abbrev pub verb_said : Bytes → Option Verb
verb_said word = if bytes_eq word (codes "replay") then Some Replay else if bytes_eq word (codes "demo") then Some Demo else None

-- the seed that a word spells: a number below 2^32
abbrev pub seed_said : Bytes → Option ℕ
seed_said word = option_and_then (below (2 ^ 32)) (number_of word)

-- Which options may be told

-- whether an option is one of a command
abbrev pub is_of : Verb → Name → Bool
is_of Replay Size = false
is_of Replay name = true
is_of Demo Threads = false
is_of Demo Analyses = false
is_of Demo name = true

-- whether a value spells a number from 1 to the greatest one
abbrev pub is_count : ℕ → Bytes → Bool
is_count greatest value = option_map_or (λ n. nat_le 1 n && nat_le n greatest) (number_of value) false

-- whether an option may have a value
abbrev pub passes : Name → Bytes → Bool
passes Threads value = true
passes Workers value = is_count 64 value
passes Size value = is_count 1000000 value
passes Analyses value = is_some (specs_within 4 value)

-- no option was told
abbrev pub none_seen : Seen
none_seen = record { threads = false; workers = false; size = false; analyses = false }

-- whether an option was told before
abbrev pub has : Name → Seen → Bool
has Threads seen = seen.threads
has Workers seen = seen.workers
has Size seen = seen.size
has Analyses seen = seen.analyses

-- one option more was told
abbrev pub with_name : Name → Seen → Seen
with_name Threads seen = record seen { threads = true }
with_name Workers seen = record seen { workers = true }
with_name Size seen = record seen { size = true }
with_name Analyses seen = record seen { analyses = true }

-- whether an option may be told behind these
abbrev pub fits : Verb → Seen → Name → Bytes → Bool
fits verb seen name value = is_of verb name && (not (has name seen) && passes name value)

-- whether nothing is missing: `replay` wants its analyses
abbrev pub is_complete : Verb → Seen → Bool
is_complete Replay seen = seen.analyses
is_complete Demo seen = true

-- whether all that is told may be told behind these
abbrev pub all_fit : Verb → Seen → List Told → Bool
all_fit verb seen [] = is_complete verb seen
all_fit verb seen ((name, value) ∷ rest) = fits verb seen name value && all_fit verb (with_name name seen) rest

-- whether words are options of a command, behind these options, of which one may wait for its value
abbrev pub accepts : Verb → Seen → Option Name → List Bytes → Bool
accepts verb seen waiting words = option_map_or (all_fit verb seen) (tell words waiting) false
