-- The command lines that the program takes, and the job that each says.
use Rattle.std.specs.Prelude.{◌≡◌, ℕ, ◌^◌, ◌<◌, ◌≤◌, ◌⊎◌, Bool, true, false, nat_le, if◌then◌else◌, List, [], ◌∷◌, ◌++◌, length, take, drop, Option, Some, None, codes}
use Rattle.std.specs.List.{join_with_byte, list_all, AllPairs}
use Rattle.std.specs.Option.{option_and_then, option_map}
use Rattle.std.specs.Str.{bytes_eq}
use Rattle.ris_base.specs.Limits.{vertex_limit}
use Rattle.ris_base.specs.Lists.{EachPair}
use Rattle.ris_base.specs.Number.{number_of}
use Rattle.ris_base.specs.Script.{Bytes, below}
use Rattle.ris_base.specs.declared.analyses.Kind.{Kind}
use Rattle.ris_base.specs.declared.analyses.Kind.TheVariants.{Bfs, Sssp, Sswp, Wcc}
use Rattle.ris_base.specs.declared.analyses.Spec.{Spec}
use Rattle.ris_base.specs.declared.jobs.Job.{Job}
use Rattle.ris_base.specs.declared.jobs.Job.TheVariants.{Replay, Demo}

-- The list of analyses

-- the root that digits spell: 1 to 7 of them, below the limit of a vertex number
abbrev pub root_of : Bytes → Option ℕ
root_of digits = if nat_le (length digits) 7 then option_and_then (below vertex_limit) (number_of digits) else None

-- the analysis of this kind with the root that digits spell
abbrev pub rooted : Kind → Bytes → Option Spec
rooted kind digits = option_map (λ root. record { kind = kind; root = root }) (root_of digits)

-- the analysis that an item of the list says: `bfs:r`, `sssp:r`, `sswp:r` or `wcc`
unfoldable pub analysis_named : Bytes → Option Spec
analysis_named item =
    if bytes_eq item (codes "wcc") then Some (record { kind = Wcc; root = 0 })
    else if bytes_eq (take 4 item) (codes "bfs:") then rooted Bfs (drop 4 item)
    else if bytes_eq (take 5 item) (codes "sssp:") then rooted Sssp (drop 5 item)
    else if bytes_eq (take 5 item) (codes "sswp:") then rooted Sswp (drop 5 item)
    else None

-- a word is a list of 1 to 4 items, joined by commas, which say these analyses
pub record IsAnalysisList (word : Bytes) (specs : List Spec) : Type 0 where
  pub items : List Bytes
  pub joined : word ≡ join_with_byte 44 items
  pub named : EachPair (λ item spec. analysis_named item ≡ Some spec) items specs
  pub some : 1 ≤ length specs
  pub few : length specs ≤ 4

-- Options

-- what an option says
pub data Choice : Type 0 where
  Threads : Choice
  Workers : (count : ℕ) → Choice
  Size : (count : ℕ) → Choice
  Analyses : (specs : List Spec) → Choice

-- an option and its value stand in two words, or in one with a `=` between them
abbrev pub IsSpelled : Bytes → Bytes → List Bytes → Type 0
IsSpelled name value words = (words ≡ name ∷ value ∷ []) ⊎ (words ≡ (name ++ codes "=" ++ value) ∷ [])

-- an option with this name has a value that spells n, which is 1 to the greatest one
pub record SpellsNumber (name : Bytes) (greatest n : ℕ) (words : List Bytes) : Type 0 where
  pub value : Bytes
  pub spelled : IsSpelled name value words
  pub number : number_of value ≡ Some n
  pub some : 1 ≤ n
  pub most : n ≤ greatest

-- the option `--analyses` has a value that is a list of these analyses
pub record SpellsAnalyses (specs : List Spec) (words : List Bytes) : Type 0 where
  pub value : Bytes
  pub spelled : IsSpelled (codes "--analyses") value words
  pub named : IsAnalysisList value specs

-- these words are this option
abbrev pub Spells : Choice → List Bytes → Type 0
Spells Threads words = words ≡ codes "--threads" ∷ []
Spells (Workers n) words = SpellsNumber (codes "--workers") 64 n words
Spells (Size n) words = SpellsNumber (codes "--size") 1000000 n words
Spells (Analyses specs) words = SpellsAnalyses specs words

-- these words are these options, one behind another
abbrev pub SpellAll : List Choice → List Bytes → Type 0
SpellAll [] words = words ≡ []
SpellAll (choice ∷ choices) words = (own rest : List Bytes) × Spells choice own × (words ≡ own ++ rest) × SpellAll choices rest

-- whether two options have the same name
abbrev pub is_same_option : Choice → Choice → Bool
is_same_option Threads Threads = true
is_same_option (Workers n) (Workers m) = true
is_same_option (Size n) (Size m) = true
is_same_option (Analyses specs) (Analyses others) = true
is_same_option choice other = false

-- no option stands twice
abbrev pub AreOnce : List Choice → Type 0
AreOnce choices = AllPairs (λ choice later. is_same_option choice later ≡ false) choices

-- whether an option is one of `replay`, and of `demo`
abbrev pub is_of_replay : Choice → Bool
is_of_replay Threads = true
is_of_replay (Workers n) = true
is_of_replay (Size n) = false
is_of_replay (Analyses specs) = true

abbrev pub is_of_demo : Choice → Bool
is_of_demo Threads = false
is_of_demo (Workers n) = true
is_of_demo (Size n) = true
is_of_demo (Analyses specs) = false

-- what options say, with the defaults: no threads, 1 worker, 2,000 commands
unfoldable pub threads_said : List Choice → Bool
threads_said [] = false
threads_said (Threads ∷ choices) = true
threads_said (choice ∷ choices) = threads_said choices

unfoldable pub workers_said : List Choice → ℕ
workers_said [] = 1
workers_said (Workers n ∷ choices) = n
workers_said (choice ∷ choices) = workers_said choices

unfoldable pub size_said : List Choice → ℕ
size_said [] = 2000
size_said (Size n ∷ choices) = n
size_said (choice ∷ choices) = size_said choices

unfoldable pub analyses_said : List Choice → Option (List Spec)
analyses_said [] = None
analyses_said (Analyses specs ∷ choices) = Some specs
analyses_said (choice ∷ choices) = analyses_said choices

-- Command lines

-- the words are `replay` and its options, each at most once and in any order, among them the analyses
pub record IsReplay (words : List Bytes) (threads : Bool) (workers : ℕ) (specs : List Spec) : Type 0 where
  pub rest : List Bytes
  pub choices : List Choice
  pub command : words ≡ codes "replay" ∷ rest
  pub spelled : SpellAll choices rest
  pub once : AreOnce choices
  pub own : list_all is_of_replay choices ≡ true
  pub threads_are : threads ≡ threads_said choices
  pub workers_are : workers ≡ workers_said choices
  pub specs_are : analyses_said choices ≡ Some specs

-- the words are `demo`, a seed below 2^32, and its options, each at most once and in any order
pub record IsDemo (words : List Bytes) (seed size workers : ℕ) : Type 0 where
  pub word : Bytes
  pub rest : List Bytes
  pub choices : List Choice
  pub command : words ≡ codes "demo" ∷ word ∷ rest
  pub number : number_of word ≡ Some seed
  pub seed_small : seed < 2 ^ 32
  pub spelled : SpellAll choices rest
  pub once : AreOnce choices
  pub own : list_all is_of_demo choices ≡ true
  pub size_is : size ≡ size_said choices
  pub workers_are : workers ≡ workers_said choices

-- the words say this job
abbrev pub IsPlain : List Bytes → Job → Type 0
IsPlain words (Replay threads workers specs) = IsReplay words threads workers specs
IsPlain words (Demo seed size workers) = IsDemo words seed size workers
