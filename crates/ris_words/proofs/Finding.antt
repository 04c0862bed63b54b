-- What clap finds is what the options say.
use Rattle.std.proofs.Common.{◌≡◌, Bool, true, false, if◌then◌else◌, List, [], ◌∷◌, ◌++◌, map, Some, None, is_some, unwrap_or, find, refl, ap, ◌∙◌, codes, fold}
use Rattle.std.specs.List.{AllByRecursion}
use Rattle.std.specs.Str.{bytes_eq}
use Rattle.clap.specs.Simple.{matches_of}
use Rattle.clap.specs.Walk.{Row, first_of, has_row, more_values, nothing_held, one_of, reading_by, with_default}
use Rattle.clap.specs.declared.parser.matches.ValueSource.TheVariants.{DefaultValue}
use Rattle.ris_base.specs.CommandLine.{analyses_said, size_said, threads_said, workers_said}
use Rattle.ris_base.specs.Script.{Bytes}
use Rattle.ris_base.specs.declared.analyses.Spec.{Spec}
use Rattle.ris_words.specs.Commands.{app_for, id_of, number_found}
use Rattle.ris_words.specs.Items.{specs_within}
use Rattle.ris_words.specs.Tokens.{Told, none_seen}
use Rattle.ris_words.specs.declared.options.Name.{Name}
use Rattle.ris_words.specs.declared.options.Name.TheVariants as option
use Rattle.ris_words.specs.declared.options.Verb.{Verb}
use Rattle.ris_words.specs.declared.options.Verb.TheVariants.{Replay, Demo}
use Rattle.ris_words.proofs.CommandLines.{AreOptions}
use Rattle.ris_words.proofs.Fitting.{fit-of}
use Rattle.ris_words.proofs.Telling.{Passes, choice_of, count-of, listed, takes}
use Rattle.ris_words.proofs.Walking.{Agrees, before, built_rule, follow-all, row-added, row_for, rows_from, rules}

-- the row of `--threads` where it isn't told
abbrev pub no_threads : Row
no_threads = record {
  id = codes "threads";
  values = codes "false" ∷ [];
  count = None;
  source = Some DefaultValue;
  reading = reading_by (built_rule option.Threads);
}

-- the rows with the default of `--threads`
abbrev pub with_threads : List Row → List Row
with_threads rows = if has_row (codes "threads") rows then rows else rows ++ no_threads ∷ []

-- the rows with the defaults of a command
abbrev pub with_defaults : Verb → List Row → List Row
with_defaults Replay rows = with_threads rows
with_defaults Demo rows = rows

-- no option and no row agree
agrees-nothing : Agrees none_seen []
agrees-nothing option.Threads = refl
agrees-nothing option.Workers = refl
agrees-nothing option.Size = refl
agrees-nothing option.Analyses = refl

-- both branches are one
either : {X : Type 0} (b : Bool) (x : X) → (if b then x else x) ≡ x
either true x = refl
either false x = refl

-- an option with a value has no default
default-none : (rows : List Row) (name : Name) → takes name ≡ true → with_default rows (built_rule name) ≡ rows
default-none rows option.Threads valued = cc
default-none rows option.Workers valued = either (has_row (codes "workers") rows) rows
default-none rows option.Size valued = either (has_row (codes "size") rows) rows
default-none rows option.Analyses valued = either (has_row (codes "analyses") rows) rows

-- `--threads` has a default
default-threads : (rows : List Row) → with_default rows (built_rule option.Threads) ≡ with_threads rows
default-threads rows = go (has_row (codes "threads") rows) refl
  where
    go : (b : Bool) → has_row (codes "threads") rows ≡ b → with_default rows (built_rule option.Threads) ≡ with_threads rows
    go true e = rw e refl
    go false e = rw e (row-added (codes "threads") (more_values DefaultValue (codes "false" ∷ [])) (no_threads ∷ []) rows e)

-- the defaults of a command are that of `--threads` alone
defaults-are : (verb : Verb) (rows : List Row) → fold with_default rows (rules verb) ≡ with_defaults verb rows
defaults-are Replay rows =
    rw (
      default-none (with_default (with_default rows (built_rule option.Threads)) (built_rule option.Workers)) option.Analyses refl,
      default-none (with_default rows (built_rule option.Threads)) option.Workers refl,
    ) (default-threads rows)
defaults-are Demo rows = rw (default-none (with_default rows (built_rule option.Workers)) option.Size refl, default-none rows option.Workers refl) refl

-- the rows that clap finds of options that are taken
pub rows-found : (verb : Verb) (words : List Bytes) (given : AreOptions verb words) → matches_of (app_for verb) words ≡ with_defaults verb (map row_for given.ts)
rows-found verb words given = go verb words given (follow-all verb none_seen words None given.ts nothing_held 1 given.said (fit-of verb none_seen given.ts given.are) tt (agrees verb))
  where
    agrees : (verb : Verb) → Agrees none_seen (before verb nothing_held None)
    agrees Replay = agrees-nothing
    agrees Demo = agrees-nothing

    go : (verb : Verb) (words : List Bytes) (given : AreOptions verb words) → rows_from verb nothing_held None 1 words ≡ before verb nothing_held None ++ map row_for given.ts
        → matches_of (app_for verb) words ≡ with_defaults verb (map row_for given.ts)
    go Replay words given rows = defaults-are Replay (rows_from Replay nothing_held None 1 words) ∙ ap (with_defaults Replay) rows
    go Demo words given rows = defaults-are Demo (rows_from Demo nothing_held None 1 words) ∙ ap (with_defaults Demo) rows

-- What is read of the rows

-- a last row that doesn't pass isn't found
find-more : (p : Row → Bool) (rows : List Row) (row : Row) → p row ≡ false → find p (rows ++ row ∷ []) ≡ find p rows
find-more p [] row other = rw other refl
find-more p (r ∷ rs) row other = rw (find-more p rs row other) refl

-- the value of an option
pub first-told : (verb : Verb) (name : Name) (rows : List Row) → takes name ≡ true → first_of (id_of name) (with_defaults verb rows) ≡ first_of (id_of name) rows
first-told Demo name rows valued = refl
first-told Replay name rows valued = go (has_row (codes "threads") rows)
  where
    other : (name : Name) → takes name ≡ true → bytes_eq (codes "threads") (id_of name) ≡ false
    other option.Threads valued = cc
    other option.Workers valued = refl
    other option.Size valued = refl
    other option.Analyses valued = refl

    go : (b : Bool) → first_of (id_of name) (if b then rows else rows ++ no_threads ∷ []) ≡ first_of (id_of name) rows
    go true = refl
    go false = rw (find-more (λ (r : Row). bytes_eq r.id (id_of name)) rows no_threads (other name valued)) refl

-- the number of workers that is found is the one that is told
pub workers-told : (ts : List Told) → AllByRecursion Passes ts → workers_said (map choice_of ts) ≡ number_found (codes "workers") 1 (map row_for ts)
unfolding workers_said
workers-told [] pass = refl
workers-told ((option.Threads, value) ∷ ts) pass = workers-told ts pass.1
workers-told ((option.Workers, value) ∷ ts) pass = rw (count-of 64 value pass.0).0 refl
workers-told ((option.Size, value) ∷ ts) pass = workers-told ts pass.1
workers-told ((option.Analyses, value) ∷ ts) pass = workers-told ts pass.1

-- and so is the size
pub size-told : (ts : List Told) → AllByRecursion Passes ts → size_said (map choice_of ts) ≡ number_found (codes "size") 2000 (map row_for ts)
unfolding size_said
size-told [] pass = refl
size-told ((option.Threads, value) ∷ ts) pass = size-told ts pass.1
size-told ((option.Workers, value) ∷ ts) pass = size-told ts pass.1
size-told ((option.Size, value) ∷ ts) pass = rw (count-of 1000000 value pass.0).0 refl
size-told ((option.Analyses, value) ∷ ts) pass = size-told ts pass.1

-- the list that `--analyses` has is right, and says the analyses
pub record IsListed (ts : List Told) : Type 0 where
  pub list : Bytes
  pub specs : List Spec
  pub found : first_of (codes "analyses") (map row_for ts) ≡ Some list
  pub read : specs_within 4 list ≡ Some specs
  pub said : analyses_said (map choice_of ts) ≡ Some specs

-- the list that is found says the analyses that are told
pub analyses-told : (ts : List Told) → AllByRecursion Passes ts → is_some (analyses_said (map choice_of ts)) ≡ true → IsListed ts
unfolding analyses_said
analyses-told [] pass full = cc
analyses-told ((option.Threads, value) ∷ ts) pass full =
    let rest = analyses-told ts pass.1 full in
    record { list = rest.list; specs = rest.specs; found = rest.found; read = rest.read; said = rest.said }
analyses-told ((option.Workers, value) ∷ ts) pass full =
    let rest = analyses-told ts pass.1 full in
    record { list = rest.list; specs = rest.specs; found = rest.found; read = rest.read; said = rest.said }
analyses-told ((option.Size, value) ∷ ts) pass full =
    let rest = analyses-told ts pass.1 full in
    record { list = rest.list; specs = rest.specs; found = rest.found; read = rest.read; said = rest.said }
analyses-told ((option.Analyses, value) ∷ ts) pass full =
    record { list = value; specs = unwrap_or (specs_within 4 value) []; found = refl; read = listed value pass.0; said = refl }

-- the text of a flag
abbrev pub flag_text : Bool → Bytes
flag_text true = codes "true"
flag_text false = codes "false"

-- there is a row of `--threads` where it is told
threads-row : (ts : List Told) → has_row (codes "threads") (map row_for ts) ≡ threads_said (map choice_of ts)
unfolding threads_said
threads-row [] = refl
threads-row ((option.Threads, value) ∷ ts) = refl
threads-row ((option.Workers, value) ∷ ts) = threads-row ts
threads-row ((option.Size, value) ∷ ts) = threads-row ts
threads-row ((option.Analyses, value) ∷ ts) = threads-row ts

-- what is found of `--threads` is whether it is told
pub threads-told : (ts : List Told) → one_of (codes "threads") (with_threads (map row_for ts)) ≡ Some (flag_text (threads_said (map choice_of ts)))
threads-told ts = rw (threads-row ts) (go (threads_said (map choice_of ts)) (threads-row ts))
  where
    given : (ts : List Told) → has_row (codes "threads") (map row_for ts) ≡ true → one_of (codes "threads") (map row_for ts) ≡ Some (codes "true")
    given [] is = cc
    given ((option.Threads, value) ∷ ts) is = refl
    given ((option.Workers, value) ∷ ts) is = given ts is
    given ((option.Size, value) ∷ ts) is = given ts is
    given ((option.Analyses, value) ∷ ts) is = given ts is

    missing : (ts : List Told) → has_row (codes "threads") (map row_for ts) ≡ false
        → one_of (codes "threads") (map row_for ts ++ no_threads ∷ []) ≡ Some (codes "false")
    missing [] is = refl
    missing ((option.Threads, value) ∷ ts) is = cc
    missing ((option.Workers, value) ∷ ts) is = missing ts is
    missing ((option.Size, value) ∷ ts) is = missing ts is
    missing ((option.Analyses, value) ∷ ts) is = missing ts is

    go : (b : Bool) → has_row (codes "threads") (map row_for ts) ≡ b
        → one_of (codes "threads") (if b then map row_for ts else map row_for ts ++ no_threads ∷ []) ≡ Some (flag_text b)
    go true e = given ts e
    go false e = missing ts e
